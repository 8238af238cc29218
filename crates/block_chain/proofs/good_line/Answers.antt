use native.Mathlib.Omega.{arith}
use Rattle.block_chain.proofs.Good as good
use borrow.Author.Rules.{rules}
use Rattle.block_chain.proofs.good_line.Goals as goal

pub returns-then-s-from : goal.returns-then-s-from
returns-then-s-from c = good.empty _ _ _ c.front-s.ensures (omega (arith, c.if-s-from.true))

pub returns : goal.returns
returns c = good.whole _ _ _ c.front-s.ensures (omega (arith, c.if-s-from.false)) c.blocks_ok.ensures
