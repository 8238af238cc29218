use Rattle.set_table.specs.Types.{two}
use Rattle.set_items.proofs.Means as laws
use borrow.Author.Rules.{rules}
use Rattle.set_items.proofs.value_at.Goals as goal

pub returns-in-None : goal.returns-in-None
returns-in-None c = let a = c.args in
    laws.both (laws.none_said (two a.first.now a.second.now) a.set _ c.classes_once-kept.ensures a.name.now c.slot_of.ensures a.n c.in-None.is)

pub returns-in-Some : goal.returns-in-Some
returns-in-Some c =
    let a = c.args in
    laws.both (laws.value_said (two a.first.now a.second.now) a.set _ c.classes_once-kept.ensures a.name.now c.slot_of.ensures a.n c.in-Some.is
    c.slot_count-count.ensures.0 c.slot_item-item.ensures)
