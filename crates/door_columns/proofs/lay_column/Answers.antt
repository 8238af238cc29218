use Rattle.door_columns.specs.Inner.{column_told}
use borrow.Author.Rules.{rules}
use Rattle.door_columns.proofs.lay_column.Goals as goal

pub returns : goal.returns
unfolding column_told
returns c =
    rw (c.tell-5.ensures, c.width_to.ensures, c.tell-4.ensures, c.width_from.ensures, c.tell-3.ensures, c.width_no.ensures, c.tell-2.ensures, c.valign_no.ensures, c.tell.ensures, c.align_no.ensures)
