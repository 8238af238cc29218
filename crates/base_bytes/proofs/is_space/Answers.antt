use mathlib.Core.Path.{refl}
use mathlib.Core.Bool.{true, false}
use mathlib.Core.List.{[], ◌∷◌}
use native.Mathlib.Omega.{arith}
use Rattle.base_lists.specs.Lists.{is_in}
use Rattle.base_lists.proofs.Steady.{met, missed}
use Rattle.base_bytes.specs.Bytes.{is_space}
use Rattle.base_bytes.proofs.is_space.Goals as goal

pub returns-in_default : goal.returns-in_default
unfolding is_space is_in
returns-in_default c = missed is_space false (32 ∷ []) 0 9 c.args.b c.in_default.in_default-own.rest.1 refl (omega arith) (omega arith)

pub returns-in_default-2 : goal.returns-in_default-2
unfolding is_space is_in
returns-in_default-2 c = missed is_space false (32 ∷ []) 11 1 c.args.b c.in_default.in_default-own.rest.1 refl (omega arith) (omega arith)

pub returns-in_default-3 : goal.returns-in_default-3
unfolding is_space is_in
returns-in_default-3 c = missed is_space false (32 ∷ []) 14 242 c.args.b c.in_default.in_default-own.rest.1 refl (omega arith) (omega arith)

pub returns-in-9 : goal.returns-in-9
unfolding is_space is_in
returns-in-9 c = met is_space true (32 ∷ []) c.args.b c.in-9.is refl

pub returns-in-9-2 : goal.returns-in-9-2
unfolding is_space is_in
returns-in-9-2 c = missed is_space true (32 ∷ []) 9 2 c.args.b c.in-9.in_default-own.rest.1 refl (omega arith) (omega arith)

pub returns-in-9-3 : goal.returns-in-9-3
unfolding is_space is_in
returns-in-9-3 c = missed is_space true (32 ∷ []) 12 2 c.args.b c.in-9.in_default-own.rest.1 refl (omega arith) (omega arith)
