use mathlib.Core.Path.{refl}
use mathlib.Core.List.{[], ◌∷◌}
use mathlib.Core.Bool.{true, false}
use Rattle.text_langtags.proofs.Keys as keys
use borrow.Enum.Refused as refused
use Rattle.text_langtags.proofs.may_end.Goals as goal

pub returns-in-Body : goal.returns-in-Body
returns-in-Body c = keys.ends_by true (2 ∷ 4 ∷ 6 ∷ []) c.args.st c.in-Body.in-Body-own.keys1 refl

pub returns-in_default : goal.returns-in_default
returns-in_default c = keys.ends_by false (0 ∷ 1 ∷ 3 ∷ 5 ∷ []) c.args.st (refused.opened c.in_default.in_default-own.keys2) refl
