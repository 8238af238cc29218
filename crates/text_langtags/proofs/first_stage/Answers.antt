use mathlib.Core.Path.{refl}
use mathlib.Core.List.{[], ◌∷◌}
use Rattle.text_langtags.specs.declared.Stage.TheVariants as at
use Rattle.text_langtags.specs.Computed.{began}
use Rattle.text_langtags.proofs.Keys as keys
use borrow.Author.Rules.{rules}
use borrow.Enum.Refused as refused
use Rattle.text_langtags.proofs.first_stage.Goals as goal

pub returns-in-Two : goal.returns-in-Two
returns-in-Two c = keys.by_kind (λ k. at.Body 5) began (3 ∷ 4 ∷ []) c.args.k c.in-Two.in-Two-own.keys2 refl

pub returns-in-Four : goal.returns-in-Four
returns-in-Four c = keys.by_kind (λ k. at.Body 2) began (5 ∷ 6 ∷ []) c.args.k c.in-Four.in-Four-own.keys3 refl

pub returns-in_default : goal.returns-in_default
returns-in_default c = keys.by_kind (λ k. at.Bad) began (0 ∷ 2 ∷ 7 ∷ 8 ∷ 9 ∷ []) c.args.k c.in_default.in_default-own.keys4 refl
