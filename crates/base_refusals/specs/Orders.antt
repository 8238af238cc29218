-- Orders of refusals: a list of grounds, of which the first that holds is told.
use Rattle.std.specs.Prelude.{ℕ, Bool, true, cond, List, [], ◌∷◌, Err, Ok, Result}
use Rattle.base_refusals.specs.declared.Refusal.{Refusal}
use Rattle.base_refusals.specs.Numbers.{number_of, Paper, refused_paper, passed_paper}

-- "Given exactly when": a refusal, with what is so where it is given, or with what isn't so there
pub data Ground : Type 0 where
  given : Refusal → Bool → Ground
  lacking : Refusal → Bool → Ground

-- the first ground that holds, told by f, or `next` where none does
unfoldable pub in_order : {A : Type 0} → (Refusal → A) → List Ground → A → A
in_order f [] next = next
in_order f (Ground.given r b ∷ gs) next = cond b (f r) (in_order f gs next)
in_order f (Ground.lacking r b ∷ gs) next = cond b (in_order f gs next) (f r)

-- the number of an order: that of the first ground that holds, 0 where none does
unfoldable pub order_no : List Ground → ℕ
unfolding in_order
order_no gs = in_order number_of gs 0

-- the same with values, which are answered where no ground holds
unfoldable pub on_paper : List Ground → List ℕ → Paper
unfolding in_order
on_paper gs vs = in_order refused_paper gs (passed_paper vs)

-- what is refused already, as an order
abbrev pub met : Result (Unit {0}) Refusal → List Ground
met (Ok _) = []
met (Err r) = Ground.given r true ∷ []
