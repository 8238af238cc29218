use Prim.Native.Nat.{◌-◌}
use lib.ListN.{length}
use Rattle.block_grammar.specs.Computed.{read_from}
use Rattle.block_next_token.specs.Walk.{counted}
use Rattle.block_next_token.proofs.Counting as counting
use Rattle.block_next_token.proofs.token_count.Given as goal

abbrev pub invariant-tokens : goal.invariant-tokens
invariant-tokens l = counting.Counts l.mode l.text (counted (read_from l.mode l.text 0 0)) l.i l.n

abbrev pub decreases-tokens : goal.decreases-tokens
decreases-tokens l = length l.text - l.i
