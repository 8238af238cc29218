use mathlib.Core.Path.{ap}
use mathlib.Core.Bool.{not}
use mathlib.Core.Path.{sym, ◌∙◌}
use Prim.Native.Nat.{◌-◌}
use native.Mathlib.Omega.{arith}
use borrow.Author.Rules.{rules}
use borrow.Author.Tests.{not-true}
use lib.ListN.{length}
use Rattle.block_grammar.specs.Close.{fresh}
use Rattle.block_grammar.specs.ComputedClose.{find_close}
use Rattle.block_grammar.proofs.Close as close
use Rattle.block_close.proofs.Search as laws
use Rattle.read_once.proofs.Calm as calm
use Rattle.read_once.proofs.close_behind.Goals as goal

pub bytes-init : goal.bytes-init
bytes-init c = close.start _ _

pub bounds-s-i : goal.bounds-s-i
bounds-s-i c = omega (arith, (laws.here c.bytes.invariant c.goes_on.ensures (ap not c.if-not-goes_on.false)).there)

pub overflow_add-i : goal.overflow_add-i
overflow_add-i c = omega (arith, (laws.here c.bytes.invariant c.goes_on.ensures (ap not c.if-not-goes_on.false)).there)

pub overflow_add-i-in-92 : goal.overflow_add-i-in-92
overflow_add-i-in-92 c = omega (arith, (laws.next c.bytes.invariant c.goes_on-in-92.ensures (ap not c.if-not-goes_on-2.false)).there)

pub bytes-smaller-in-92 : goal.bytes-smaller-in-92
bytes-smaller-in-92 c = omega (arith, (laws.here c.bytes.invariant c.goes_on.ensures (ap not c.if-not-goes_on.false)).there)

pub bytes-preserved-in-92 : goal.bytes-preserved-in-92
bytes-preserved-in-92 c =
    laws.pair c.bytes.invariant (laws.here c.bytes.invariant c.goes_on.ensures (ap not c.if-not-goes_on.false)) c.in-92.is (laws.next c.bytes.invariant c.goes_on-in-92.ensures (ap not c.if-not-goes_on-2.false))

pub overflow_add-i-in-34 : goal.overflow_add-i-in-34
overflow_add-i-in-34 c = omega (arith, (laws.here c.bytes.invariant c.goes_on.ensures (ap not c.if-not-goes_on.false)).there)

pub bounds-s-i-in-34 : goal.bounds-s-i-in-34
bounds-s-i-in-34 c = omega (arith, (laws.here c.bytes.invariant c.goes_on.ensures (ap not c.if-not-goes_on.false)).there)

pub quote_end-requires : goal.quote_end-requires
quote_end-requires c = laws.quoting c.in-34.is

pub overflow_add-e : goal.overflow_add-e
overflow_add-e c = omega (arith, c.quote_end.ensures.shuts.within _ c.in-Some.is)

pub bytes-smaller-in-Some : goal.bytes-smaller-in-Some
bytes-smaller-in-Some c = omega (arith, c.quote_end.ensures.shuts.within _ c.in-Some.is, c.calm_end-i.ensures.0)

pub bytes-preserved-in-Some : goal.bytes-preserved-in-Some
bytes-preserved-in-Some c =
    calm.stretch (laws.passed c.bytes.invariant (laws.here c.bytes.invariant c.goes_on.ensures (ap not c.if-not-goes_on.false)) c.in-34.is c.quote_end.ensures.shuts c.in-Some.is) c.calm_end-i.ensures.1

pub overflow_add-i-in_default : goal.overflow_add-i-in_default
overflow_add-i-in_default c = omega (arith, (laws.here c.bytes.invariant c.goes_on.ensures (ap not c.if-not-goes_on.false)).there)

pub bytes-smaller : goal.bytes-smaller
bytes-smaller c = omega (arith, (laws.here c.bytes.invariant c.goes_on.ensures (ap not c.if-not-goes_on.false)).there, c.calm_end-i-in_default.ensures.0)

pub bytes-preserved : goal.bytes-preserved
bytes-preserved c =
    calm.stretch (laws.byte c.bytes.invariant (laws.here c.bytes.invariant c.goes_on.ensures (ap not c.if-not-goes_on.false)) c.in_default.in_default-own.rest.0.0.1 c.in_default.in_default-own.rest.0.1 c.in_default.in_default-own.rest.1) c.calm_end-i-in_default.ensures.1

pub returns-then-not-goes_on : goal.returns-then-not-goes_on
returns-then-not-goes_on c = laws.ended c.bytes.invariant (sym c.goes_on.ensures ∙ c.if-not-goes_on.true)

pub returns-in-125 : goal.returns-in-125
returns-in-125 c = laws.closed c.bytes.invariant (laws.here c.bytes.invariant c.goes_on.ensures (ap not c.if-not-goes_on.false)) c.in-125.is

pub returns-then-not-goes_on-2 : goal.returns-then-not-goes_on-2
returns-then-not-goes_on-2 c =
    laws.cut c.bytes.invariant (laws.here c.bytes.invariant c.goes_on.ensures (ap not c.if-not-goes_on.false)) c.in-92.is (sym c.goes_on-in-92.ensures ∙ c.if-not-goes_on-2.true)

pub returns-in-None : goal.returns-in-None
returns-in-None c =
    laws.unshut c.bytes.invariant (laws.here c.bytes.invariant c.goes_on.ensures (ap not c.if-not-goes_on.false)) c.in-34.is c.quote_end.ensures.shuts c.in-None.is
