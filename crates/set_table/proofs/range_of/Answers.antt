use Rattle.set_table.specs.Types.{range_bytes}
use borrow.Author.Rules.{rules}
use Rattle.set_table.proofs.range_of.Goals as goal

pub returns : goal.returns
unfolding range_bytes
returns c = rw (← c.text_of.ensures) c.bytes_of.ensures
