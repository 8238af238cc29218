use mathlib.Core.Path.{sym, ◌∙◌}
use borrow.Author.Rules.{rules}
use Rattle.door_blocks.proofs.Over as laws
use Rattle.door_blocks.proofs.read_in.Goals as goal

-- src/lib.rt:103:9
pub returns-then-is_place : goal.returns-then-is_place
returns-then-is_place c =
    let read = c.read_at-block in record { value = laws.at_place c.args.text.now c.args.at _ (sym c.is_place.ensures ∙ c.if-is_place.true) read.ensures.value; join_after = read.ensures.join_after }

-- src/lib.rt:97:1
pub returns : goal.returns
returns c =
    let read = c.read_at-block in record { value = laws.off_place c.args.text.now c.args.at _ (sym c.is_place.ensures ∙ c.if-is_place.false) read.ensures.value c.told_nowhere.ensures; join_after = read.ensures.join_after }
