use mathlib.Core.Path.{refl}
use mathlib.Core.Bool.{true, false}
use mathlib.Core.List.{[], ◌∷◌}
use native.Mathlib.Omega.{arith}
use Rattle.base_bytes.specs.Bytes.{is_marked}
use Rattle.base_lists.specs.Lists.{is_in}
use Rattle.base_lists.proofs.Steady.{met, missed}
use Rattle.set_marks.proofs.is_marked.Goals as goal

pub returns-in-34 : goal.returns-in-34
unfolding is_marked is_in
returns-in-34 c = met is_marked true (34 ∷ 92 ∷ []) (c.args.b) (c.in-34.is) refl

pub returns-in_default : goal.returns-in_default
unfolding is_marked is_in
returns-in_default c = missed is_marked false (34 ∷ 92 ∷ []) 0 256 (c.args.b) (c.in_default.in_default-own.rest.1) refl (omega arith) (omega arith)
