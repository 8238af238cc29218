use mathlib.Core.Path.{ap}
use mathlib.Core.Bool.{not}
use mathlib.Core.Path.{sym, ◌∙◌}
use Prim.Native.Nat.{◌-◌}
use native.Mathlib.Omega.{arith}
use borrow.Author.Rules.{rules}
use borrow.Author.Tests.{not-true}
use lib.ListN.{length}
use Rattle.block_close.proofs.Search as scans
use Rattle.read_once.proofs.Quote as laws
use Rattle.read_once.proofs.quote_end.Goals as goal

pub bytes-init : goal.bytes-init
bytes-init c = laws.opened _ _ _

pub bounds-s-k : goal.bounds-s-k
bounds-s-k c = omega (arith, (scans.here c.bytes.invariant.shut.scan c.goes_on.ensures (ap not c.if-not-goes_on.false)).there)

pub bounds-s-k-in-bytes : goal.bounds-s-k-in-bytes
bounds-s-k-in-bytes c = omega (arith, (scans.here c.bytes.invariant.shut.scan c.goes_on.ensures (ap not c.if-not-goes_on.false)).there)

pub overflow_add-k : goal.overflow_add-k
overflow_add-k c = omega (arith, (scans.here c.bytes.invariant.shut.scan c.goes_on.ensures (ap not c.if-not-goes_on.false)).there)

pub overflow_add-k-then-s-k-eq92 : goal.overflow_add-k-then-s-k-eq92
overflow_add-k-then-s-k-eq92 c = omega (arith, (scans.next c.bytes.invariant.shut.scan c.goes_on-then-s-k-eq92.ensures (ap not c.if-not-goes_on-2.false)).there)

pub bytes-smaller-then-s-k-eq92 : goal.bytes-smaller-then-s-k-eq92
bytes-smaller-then-s-k-eq92 c = omega (arith, (scans.here c.bytes.invariant.shut.scan c.goes_on.ensures (ap not c.if-not-goes_on.false)).there)

pub bytes-preserved-then-s-k-eq92 : goal.bytes-preserved-then-s-k-eq92
bytes-preserved-then-s-k-eq92 c =
    laws.quote_pair c.bytes.invariant (scans.here c.bytes.invariant.shut.scan c.goes_on.ensures (ap not c.if-not-goes_on.false)) c.if-s-k.false c.if-s-k-eq92.true (scans.next c.bytes.invariant.shut.scan c.goes_on-then-s-k-eq92.ensures (ap not c.if-not-goes_on-2.false))

pub overflow_add-k-in-bytes : goal.overflow_add-k-in-bytes
overflow_add-k-in-bytes c = omega (arith, (scans.here c.bytes.invariant.shut.scan c.goes_on.ensures (ap not c.if-not-goes_on.false)).there)

pub bytes-smaller : goal.bytes-smaller
bytes-smaller c = omega (arith, (scans.here c.bytes.invariant.shut.scan c.goes_on.ensures (ap not c.if-not-goes_on.false)).there)

pub bytes-preserved : goal.bytes-preserved
bytes-preserved c =
    laws.quote_byte c.bytes.invariant (scans.here c.bytes.invariant.shut.scan c.goes_on.ensures (ap not c.if-not-goes_on.false)) c.if-s-k.false c.if-s-k-eq92.false

pub returns-then-not-goes_on : goal.returns-then-not-goes_on
returns-then-not-goes_on c = laws.quote-ended c.bytes.invariant (sym c.goes_on.ensures ∙ c.if-not-goes_on.true)

pub returns-then-s-k : goal.returns-then-s-k
returns-then-s-k c =
    laws.shut c.bytes.invariant (scans.here c.bytes.invariant.shut.scan c.goes_on.ensures (ap not c.if-not-goes_on.false)) c.requires c.if-s-k.true

pub returns-then-not-goes_on-2 : goal.returns-then-not-goes_on-2
returns-then-not-goes_on-2 c =
    laws.quote-cut c.bytes.invariant (scans.here c.bytes.invariant.shut.scan c.goes_on.ensures (ap not c.if-not-goes_on.false)) c.if-s-k-eq92.true (sym c.goes_on-then-s-k-eq92.ensures ∙ c.if-not-goes_on-2.true)
