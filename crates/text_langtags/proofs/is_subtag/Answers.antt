use mathlib.Core.Path.{refl}
use mathlib.Core.List.{[], ◌∷◌}
use mathlib.Core.Bool.{true}
use Rattle.text_langtags.specs.Computed.{is_subtag}
use Rattle.text_langtags.proofs.Keys as keys
use borrow.Author.Rules.{rules}
use borrow.Enum.Refused as refused
use Rattle.text_langtags.proofs.is_subtag.Goals as goal

pub returns-in_default : goal.returns-in_default
returns-in_default c = keys.by_kind (λ k. true) is_subtag (1 ∷ 2 ∷ 3 ∷ 4 ∷ 5 ∷ 6 ∷ 7 ∷ 8 ∷ 9 ∷ []) c.args.k (refused.opened c.in_default.in_default-own.keys2) refl
