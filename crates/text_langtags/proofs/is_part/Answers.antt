use mathlib.Core.Path.{refl}
use mathlib.Core.List.{[], ◌∷◌}
use mathlib.Core.Bool.{true, false}
use Rattle.text_langtags.specs.Computed.{is_part}
use Rattle.text_langtags.proofs.Keys as keys
use borrow.Enum.Refused as refused
use Rattle.text_langtags.proofs.is_part.Goals as goal

pub returns-in-Other : goal.returns-in-Other
returns-in-Other c = keys.by_kind (λ k. false) is_part (0 ∷ 1 ∷ 2 ∷ []) c.args.k c.in-Other.in-Other-own.keys1 refl

pub returns-in_default : goal.returns-in_default
returns-in_default c = keys.by_kind (λ k. true) is_part (3 ∷ 4 ∷ 5 ∷ 6 ∷ 7 ∷ 8 ∷ 9 ∷ []) c.args.k (refused.opened c.in_default.in_default-own.keys2) refl
