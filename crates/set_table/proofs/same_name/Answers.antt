use mathlib.Core.Path.{refl}
use borrow.Author.Rules.{rules}
use Rattle.set_table.proofs.same_name.Goals as goal

pub name_of-requires : goal.name_of-requires
name_of-requires c = refl

pub returns : goal.returns
returns c = rw (← c.name_of.ensures) c.is_named.ensures
