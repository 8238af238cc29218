use mathlib.Core.Path.{ap}
use Rattle.set_table.specs.Types.{two}
use Rattle.door_shared.proofs.Laws.{told_3}
use Rattle.door_columns.proofs.Said as laws
use borrow.Author.Rules.{rules}
use Rattle.door_columns.proofs.say_columns.Goals as goal

pub returns : goal.returns
returns c =
    laws.made_said_lem c.args.numbers.now c.args.told.now c.args.block (ap (two c.args.text.now) c.bytes_of-joined.ensures) c.table_columns-made.ensures.value
    c.first_of-refused.ensures.value c.lay_unless.ensures (told_3 _ _ _ _ c.tell.ensures c.tell-2.ensures c.tell-3.ensures) c.number_of.ensures
