use Rattle.set_table.specs.Types.{two}
use Rattle.set_items.proofs.Means as laws
use borrow.Author.Rules.{rules}
use Rattle.set_items.proofs.item_at.Goals as goal

pub returns : goal.returns
returns c = let a = c.args in
    laws.both (laws.item_said (two a.first.now a.second.now) a.set _ c.classes_once-kept.ensures a.n c.count_in-count.ensures c.item_in-item.ensures)
