use mathlib.Core.Path.{refl}
use mathlib.Core.Bool.{true, false}
use mathlib.Core.List.{[], ◌∷◌}
use native.Mathlib.Omega.{arith}
use Rattle.base_lists.specs.Lists.{is_in}
use Rattle.base_lists.proofs.Steady.{met, missed}
use Rattle.base_bytes.specs.Bytes.{is_indent}
use Rattle.base_bytes.proofs.is_indent.Goals as goal

pub returns-in-9 : goal.returns-in-9
unfolding is_indent is_in
returns-in-9 c = met is_indent true (9 ∷ 32 ∷ []) c.args.b c.in-9.is refl

pub returns-in_default : goal.returns-in_default
unfolding is_indent is_in
returns-in_default c = missed is_indent false (9 ∷ 32 ∷ []) 0 256 c.args.b c.in_default.in_default-own.rest.1 refl (omega arith) (omega arith)
