use mathlib.Core.Path.{refl, ◌∙◌}
use mathlib.Core.List.{[], ◌∷◌}
use mathlib.Core.Bool.{cond}
use Rattle.text_langtags.specs.declared.Stage.TheVariants as at
use Rattle.text_langtags.specs.Computed.{opened, continued}
use Rattle.text_langtags.proofs.Keys as keys
use lib.Dec.{leb}
use borrow.Author.Rules.{rules}
use borrow.Enum.Refused as refused
use Rattle.text_langtags.proofs.body_stage.Goals as goal

pub returns-in-Three : goal.returns-in-Three
returns-in-Three c = rw c.in-Three.is c.behind_extlang.ensures

pub returns-in-Four : goal.returns-in-Four
returns-in-Four c = rw c.in-Four.is c.only.ensures

pub returns-in-Two : goal.returns-in-Two
returns-in-Two c = c.only-in-Two.ensures ∙ keys.by_kind (λ k. cond (leb 1 c.args.n) (at.Body 0) at.Bad) (continued c.args.n) (3 ∷ 7 ∷ []) c.args.k c.in-Two.in-Two-own.keys3 refl

pub returns-in-Long : goal.returns-in-Long
returns-in-Long c = keys.by_kind (λ k. at.Body 0) (continued c.args.n) (6 ∷ 8 ∷ []) c.args.k c.in-Long.in-Long-own.keys4 refl

pub returns-in_default : goal.returns-in_default
returns-in_default c = c.open_stage.ensures ∙ keys.by_kind opened (continued c.args.n) (0 ∷ 1 ∷ 2 ∷ 9 ∷ []) c.args.k c.in_default.in_default-own.keys5 refl
