use Rattle.read_tags.specs.Tagged.{read_tagged}
use Rattle.read_tags.proofs.Orders.{tagged_said_lem}
use borrow.Author.Rules.{rules}
use Rattle.read_tags.proofs.read_attrs_at_tags.Goals as goal

pub returns-in-Any : goal.returns-in-Any
unfolding read_tagged
returns-in-Any c =
    let a = c.args in tagged_said_lem a.tags a.mode a.text.now a.place (rw c.in-Any.is c.read_attrs_at_with.ensures.value)

pub returns-in-WellFormed : goal.returns-in-WellFormed
returns-in-WellFormed c =
    let a = c.args in tagged_said_lem a.tags a.mode a.text.now a.place (rw c.in-WellFormed.is c.read_strictly.ensures)
