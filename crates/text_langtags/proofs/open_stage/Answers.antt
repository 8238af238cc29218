use mathlib.Core.Path.{refl}
use mathlib.Core.List.{[], ◌∷◌}
use Rattle.text_langtags.specs.declared.Stage.TheVariants as at
use Rattle.text_langtags.specs.Computed.{opened}
use Rattle.text_langtags.proofs.Keys as keys
use borrow.Author.Rules.{rules}
use borrow.Enum.Refused as refused
use Rattle.text_langtags.proofs.open_stage.Goals as goal

pub returns-in_default : goal.returns-in_default
returns-in_default c = keys.by_kind (λ k. at.Bad) opened (0 ∷ 3 ∷ 4 ∷ 5 ∷ 6 ∷ 7 ∷ 8 ∷ 9 ∷ []) c.args.k (refused.opened c.in_default.in_default-own.keys3) refl
