use native.Mathlib.Omega.{arith}
use borrow.Author.Rules.{rules}
use Rattle.set_fill.proofs.block_behind.Goals as goal

pub overflow_add-end : goal.overflow_add-end
overflow_add-end c = omega (arith, c.requires)

pub returns : goal.returns
returns c = c.next_block.ensures
