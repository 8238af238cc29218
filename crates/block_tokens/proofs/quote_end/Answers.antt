use mathlib.Core.Bool.{false}
use Prim.Native.Nat.{◌-◌}
use native.Mathlib.Omega.{arith}
use lib.ListN.{length, drop}
use Rattle.block_grammar.specs.Computed.{shut_of}
use Rattle.block_tokens.specs.Inner.{shut_at}
use Rattle.block_tokens.proofs.Quotes as quotes
use Rattle.block_tokens.proofs.quote_end.Goals as goal

pub bytes-init : goal.bytes-init
bytes-init c = quotes.start _ _ _

pub bytes-preserved-then-s-k-eq92 : goal.bytes-preserved-then-s-k-eq92
bytes-preserved-then-s-k-eq92 c = quotes.pair c.bytes.invariant (omega arith) c.if-s-k-2.false c.if-s-k-eq92.true

pub bytes-preserved : goal.bytes-preserved
bytes-preserved c = quotes.byte c.bytes.invariant (omega arith) c.if-s-k-2.false c.if-s-k-eq92.false

pub returns-then-s-k : goal.returns-then-s-k
returns-then-s-k c = quotes.end c.bytes.invariant (omega arith)

pub returns-then-s-k-2 : goal.returns-then-s-k-2
returns-then-s-k-2 c = quotes.shut c.bytes.invariant (omega arith) c.if-s-k-2.true
