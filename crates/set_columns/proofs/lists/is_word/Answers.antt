use Rattle.set_table.specs.Types.{range_bytes}
use borrow.Author.Rules.{rules}
use Rattle.set_columns.proofs.lists.is_word.Goals as goal

pub returns-then-quoted : goal.returns-then-quoted
unfolding range_bytes
returns-then-quoted c = rw (c.if-quoted.true, ← c.bytes_of-piece.ensures) c.same_unescaped.ensures

pub returns : goal.returns
unfolding range_bytes
returns c = rw (c.if-quoted.false, ← c.bytes_of-piece.ensures) c.same_bytes.ensures
