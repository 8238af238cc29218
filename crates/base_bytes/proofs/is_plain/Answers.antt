use mathlib.Core.Path.{refl}
use mathlib.Core.Bool.{true, false}
use mathlib.Core.List.{[], ◌∷◌}
use native.Mathlib.Omega.{arith}
use Rattle.base_lists.specs.Lists.{is_in}
use Rattle.base_lists.proofs.Steady.{met, missed}
use Rattle.base_bytes.specs.Bytes.{is_plain}
use Rattle.base_bytes.proofs.is_plain.Goals as goal
use Rattle.base_bytes.proofs.is_plain.Goals.{in_default, in_default-2, in_default-3, in-32, in-32-2, in-32-3}

pub returns : goal.returns
unfolding is_plain is_in
returns c =
    elim c.match-matches.branch [
      | in_default w ↦ rw w.matches-is (missed is_plain true (13 ∷ 32 ∷ 34 ∷ 39 ∷ 92 ∷ []) 0 9 c.args.b w.in_default.in_default-own.rest.1 refl (omega arith) (omega arith))
      | in_default-2 w ↦ rw w.matches-is (missed is_plain true (13 ∷ 32 ∷ 34 ∷ 39 ∷ 92 ∷ []) 11 113 c.args.b w.in_default.in_default-own.rest.1 refl (omega arith) (omega arith))
      | in_default-3 w ↦ rw w.matches-is (missed is_plain true (13 ∷ 32 ∷ 34 ∷ 39 ∷ 92 ∷ []) 126 130 c.args.b w.in_default.in_default-own.rest.1 refl (omega arith) (omega arith))
      | in-32 w ↦ rw w.matches-is (met is_plain false (13 ∷ 32 ∷ 34 ∷ 39 ∷ 92 ∷ []) c.args.b w.in-32.is refl)
      | in-32-2 w ↦ rw w.matches-is (missed is_plain false (13 ∷ 32 ∷ 34 ∷ 39 ∷ 92 ∷ []) 9 2 c.args.b w.in-32.in_default-own.rest.1 refl (omega arith) (omega arith))
      | in-32-3 w ↦ rw w.matches-is (missed is_plain false (13 ∷ 32 ∷ 34 ∷ 39 ∷ 92 ∷ []) 124 2 c.args.b w.in-32.in_default-own.rest.1 refl (omega arith) (omega arith))
    ]
