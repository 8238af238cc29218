use mathlib.Core.Path.{refl}
use mathlib.Core.List.{[], ◌∷◌}
use mathlib.Core.Bool.{true, false}
use native.Mathlib.Omega.{arith}
use Rattle.base_lists.specs.Lists.{is_in}
use Rattle.base_lists.proofs.Steady.{met, missed}
use Rattle.base_bytes.specs.Bytes.{within}
use Rattle.text_langtags.specs.Letters.{small, is_x}
use Rattle.text_langtags.proofs.is_x.Goals as goal

pub returns-in-88 : goal.returns-in-88
unfolding is_x small within
returns-in-88 c = met is_x true (88 ∷ 120 ∷ []) c.args.b c.in-88.is refl

pub returns-in_default : goal.returns-in_default
unfolding is_x small within is_in
returns-in_default c = missed is_x false (88 ∷ 120 ∷ []) 0 256 c.args.b c.in_default.in_default-own.rest.1 refl (omega arith) (omega arith)
