use mathlib.Core.Path.{refl}
use Rattle.set_table.proofs.Numbers.{said}
use borrow.Author.Rules.{rules}
use Rattle.set_fill.proofs.refusing.Goals as goal

pub returns : goal.returns
returns c = said refl (rw c.empty-set.ensures)
