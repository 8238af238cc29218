use mathlib.Core.Path.{refl}
use borrow.Author.Rules.{rules}
use Rattle.read_blocks.proofs.no_block.Goals as goal

pub returns : goal.returns
returns c = record { value = rw (c.block_of.ensures, c.refusing.ensures.value) refl; outcome_value = rw (c.block_of.ensures, c.refusing.ensures.value) refl }
