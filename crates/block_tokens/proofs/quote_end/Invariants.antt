use mathlib.Core.Bool.{false}
use Prim.Native.Nat.{◌-◌}
use native.Mathlib.Omega.{arith}
use lib.ListN.{length, drop}
use Rattle.block_grammar.specs.Computed.{shut_of}
use Rattle.block_tokens.specs.Inner.{shut_at}
use Rattle.block_tokens.proofs.Quotes as quotes
use Rattle.block_tokens.proofs.quote_end.Given as goal

abbrev pub invariant-bytes : goal.invariant-bytes
invariant-bytes l = quotes.Quotes l.q l.s (shut_at l.i (shut_of l.q (drop l.i l.s) false)) l.k

abbrev pub decreases-bytes : goal.decreases-bytes
decreases-bytes l = length l.s - l.k
