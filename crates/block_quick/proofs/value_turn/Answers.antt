use mathlib.Core.Path.{refl}
use mathlib.Core.Bool.{true, false}
use mathlib.Core.List.{[], ◌∷◌}
use native.Mathlib.Omega.{arith}
use Rattle.base_lists.specs.Lists.{is_in}
use Rattle.base_lists.proofs.Steady.{met, missed}
use Rattle.block_quick.proofs.value_turn.Goals as goal

pub returns-in_default : goal.returns-in_default
unfolding is_in
returns-in_default c = record { goes = λ rest. missed (is_in (125 ∷ 32 ∷ 9 ∷ 13 ∷ 10 ∷ [])) false (13 ∷ 32 ∷ 125 ∷ []) 0 9 c.args.c c.in_default.in_default-own.rest.1 refl (omega arith) (omega arith) }

pub returns-in_default-2 : goal.returns-in_default-2
unfolding is_in
returns-in_default-2 c = record { goes = λ rest. missed (is_in (125 ∷ 32 ∷ 9 ∷ 13 ∷ 10 ∷ [])) false (13 ∷ 32 ∷ 125 ∷ []) 11 245 c.args.c c.in_default.in_default-own.rest.1 refl (omega arith) (omega arith) }

pub returns-in-125 : goal.returns-in-125
unfolding is_in
returns-in-125 c = record { goes = λ rest. met (is_in (125 ∷ 32 ∷ 9 ∷ 13 ∷ 10 ∷ [])) true (13 ∷ 32 ∷ 125 ∷ []) c.args.c c.in-125.is refl }

pub returns-in-125-2 : goal.returns-in-125-2
unfolding is_in
returns-in-125-2 c = record { goes = λ rest. missed (is_in (125 ∷ 32 ∷ 9 ∷ 13 ∷ 10 ∷ [])) true (13 ∷ 32 ∷ 125 ∷ []) 9 2 c.args.c c.in-125.in_default-own.rest.1 refl (omega arith) (omega arith) }
