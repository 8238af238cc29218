use mathlib.Core.Path.{refl, sym}
use mathlib.Core.Bool.{true, false, or-false}
use mathlib.Core.List.{[], ◌∷◌}
use native.Mathlib.Omega.{arith}
use Rattle.base_lists.specs.Lists.{is_in}
use Rattle.base_lists.proofs.Steady.{met, missed}
use Rattle.base_bytes.specs.Bytes.{is_blank}
use Rattle.base_bytes.specs.declared.Mode.TheVariants.{Loose}
use Rattle.base_bytes.proofs.is_blank.Goals as goal

pub returns-in-Strict : goal.returns-in-Strict
unfolding is_blank is_in
returns-in-Strict c = rw c.in-Strict.is (sym (or-false _))

pub returns-in-10 : goal.returns-in-10
unfolding is_blank is_in
returns-in-10 c = rw c.in-Loose.is (met (is_blank Loose) true (10 ∷ 13 ∷ 32 ∷ []) _ c.in-10.is refl)

pub returns-in_default : goal.returns-in_default
unfolding is_blank is_in
returns-in_default c = rw c.in-Loose.is (missed (is_blank Loose) false (10 ∷ 13 ∷ 32 ∷ []) 0 256 c.args.b c.in_default.in_default-own.rest.1 refl (omega arith) (omega arith))
