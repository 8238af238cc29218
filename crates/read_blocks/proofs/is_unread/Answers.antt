use Rattle.base_refusals.specs.Numbers.{number_of}
use borrow.Author.Rules.{rules}
use Rattle.read_blocks.proofs.is_unread.Goals as goal

pub returns-in-Err : goal.returns-in-Err
unfolding number_of
returns-in-Err c = rw (c.in-Err.is, c.number.ensures, c.number-in-Err.ensures)
