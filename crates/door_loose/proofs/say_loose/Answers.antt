use mathlib.Core.Path.{ap}
use Rattle.set_table.specs.Types.{two}
use borrow.Author.Rules.{rules}
use Rattle.door_loose.proofs.Said as laws
use Rattle.door_loose.proofs.say_loose.Goals as goal

pub returns : goal.returns
returns c =
    laws.left_said_lem c.args.out.now c.args.told.now c.args.block (ap (two c.args.text.now) c.bytes_of-joined.ensures) c.consume_loose-consumed.ensures.value
    c.write_left-w.ensures.value c.write_left-w.ensures.out_after c.acted.ensures c.wrote_len.ensures
    (laws.told_6 _ _ _ _ _ _ _ c.tell.ensures c.tell-2.ensures c.tell-3.ensures c.tell-4.ensures c.tell-5.ensures c.tell-6.ensures) c.wrote_number.ensures
