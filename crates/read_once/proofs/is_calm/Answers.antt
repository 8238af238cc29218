use mathlib.Core.Path.{refl}
use mathlib.Core.Bool.{true, false}
use mathlib.Core.List.{[], ◌∷◌}
use native.Mathlib.Omega.{arith}
use Rattle.base_lists.specs.Lists.{is_in}
use Rattle.base_lists.proofs.Steady.{met, missed}
use Rattle.read_once.specs.Inner.{is_calm}
use Rattle.read_once.proofs.is_calm.Goals as goal

pub returns-in-10 : goal.returns-in-10
unfolding is_calm is_in
returns-in-10 c = met is_calm false (10 ∷ 34 ∷ 39 ∷ 92 ∷ 125 ∷ []) c.args.b c.in-10.is refl

pub returns-in_default : goal.returns-in_default
unfolding is_calm is_in
returns-in_default c = missed is_calm true (10 ∷ 34 ∷ 39 ∷ 92 ∷ 125 ∷ []) 0 256 c.args.b c.in_default.in_default-own.rest.1 refl (omega arith) (omega arith)
