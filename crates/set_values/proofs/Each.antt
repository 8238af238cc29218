-- The answer of an iterator's `all` is that of the definitions' `all`.
-- Assumes nothing.
use mathlib.Core.Path.{◌≡◌}
use mathlib.Core.Bool.{Bool, true}
use mathlib.Core.List.{List}
use Rattle.std.specs.Prelude.{IsTrue, ◌↔◌, All}
use Rattle.std.specs.Bool.{one_answer}
use Rattle.base_lists.specs.Lists.{all}
use Rattle.base_lists.proofs.Each.{all_at, all_each}

pub all_is : {A : Type 0} (f : A → Bool) (d : A) (xs : List A) (r : Bool) → (IsTrue r ↔ All (λ x. f x ≡ true) xs) → r ≡ all f xs
all_is f d xs r h = one_answer r (all f xs) h ((λ e k x i. all_at f x xs e k i), (λ g. all_each f d xs (λ k i. g k d i)))
