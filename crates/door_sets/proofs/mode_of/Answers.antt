use mathlib.Core.Path.{refl}
use Rattle.base_refusals.proofs.Said.{said}
use Rattle.door_sets.specs.Sets.{mode_paper}
use Rattle.door_sets.proofs.Said.{loose_is}
use borrow.Author.Rules.{rules}
use Rattle.door_sets.proofs.mode_of.Goals as goal

pub returns-then-loose-eq0 : goal.returns-then-loose-eq0
returns-then-loose-eq0 c = said mode_paper refl (search rules)

pub returns : goal.returns
returns c = said mode_paper refl (loose_is _ c.if-loose-eq0.false)
