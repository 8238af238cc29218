use mathlib.Core.List.{[], ◌∷◌}
use mathlib.Core.Path.{refl, ap}
use Rattle.set_table.specs.Types.{two}
use Rattle.door_shared.proofs.Laws.{came, set-said, told_5}
use borrow.Author.Rules.{rules}
use Rattle.door_blocks.proofs.say_block.Goals as goal

pub returns : goal.returns
returns c =
    set-said c.args.out.now c.args.told.now {a = c.args.block.set}
    {tell = λ n. c.args.block.lines ∷ c.args.block.next ∷ c.args.block.lookahead ∷ c.args.block.joined ∷ n ∷ []}
    {c = c.args.block.outcome} refl (ap (two c.args.text.now) c.bytes_of-joined.ensures)
    (came c.write_out-w.ensures c.wrote_len.ensures (told_5 _ _ _ _ _ _ c.tell.ensures c.tell-2.ensures c.tell-3.ensures c.tell-4.ensures c.tell-5.ensures) c.wrote_number.ensures)
