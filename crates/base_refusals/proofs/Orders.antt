-- The one law by which every entry's number is its order's.
-- Assumes nothing.
use Rattle.std.specs.Prelude.{Err, Ok}
use Prim.Native.Nat.{ℕ, ◌≤◌}
use mathlib.Core.Path.{◌≡◌, refl}
use mathlib.Core.Bool.{Bool, true, false, cond}
use mathlib.Core.List.{List, [], ◌∷◌, ◌++◌}
use native.Mathlib.Omega.{arith}
use borrow.Author.Tests.{ltb-false}
use lib.ListN.{length}
use Rattle.base_refusals.specs.declared.Refusal.{Refusal}
use Rattle.base_refusals.specs.declared.Refusal.TheVariants.{TextTooLong}
use Rattle.base_refusals.specs.Numbers.{number_of, passed, max_text, too_long, Paper, refused_paper, passed_paper}
use Rattle.base_refusals.specs.Orders.{Ground, in_order, order_no, on_paper}

-- where n sees f tell a refusal as g does, and what comes behind the grounds is seen as hs says if none of them holds, the whole is seen as the grounds and then hs say
module _ {A B : Type 0} (n : A → B) (f : Refusal → A) (g : Refusal → B) (z : B) (tells : (r : Refusal) → n (f r) ≡ g r) where
  pub order_by : (gs hs : List Ground) {next : A} → (in_order Err gs passed ≡ passed → n next ≡ in_order g hs z) → n (in_order f gs next) ≡ in_order g (gs ++ hs) z
  unfolding in_order
  order_by [] hs e = e refl
  order_by (Ground.given r true ∷ gs) hs e = tells r
  order_by (Ground.given r false ∷ gs) hs e = order_by gs hs e
  order_by (Ground.lacking r true ∷ gs) hs e = order_by gs hs e
  order_by (Ground.lacking r false ∷ gs) hs e = tells r

-- of numbers
module _ {A : Type 0} (n : A → ℕ) (f : Refusal → A) (tells : (r : Refusal) → n (f r) ≡ number_of r) where
  pub order_where : (gs hs : List Ground) {next : A} → (in_order Err gs passed ≡ passed → n next ≡ order_no hs) → n (in_order f gs next) ≡ order_no (gs ++ hs)
  unfolding order_no
  order_where = order_by n f number_of 0 tells

  pub order_no_lem : (gs hs : List Ground) {next : A} → n next ≡ order_no hs → n (in_order f gs next) ≡ order_no (gs ++ hs)
  order_no_lem gs hs e = order_where gs hs (λ p. e)

-- of numbers and values
module _ {A : Type 0} (n : A → Paper) (f : Refusal → A) (vs : List ℕ) (tells : (r : Refusal) → n (f r) ≡ refused_paper r) where
  pub paper_where : (gs hs : List Ground) {next : A} → (in_order Err gs passed ≡ passed → n next ≡ on_paper hs vs) → n (in_order f gs next) ≡ on_paper (gs ++ hs) vs
  unfolding on_paper
  paper_where = order_by n f refused_paper (passed_paper vs) tells

  pub paper_by : (gs hs : List Ground) {next : A} → n next ≡ on_paper hs vs → n (in_order f gs next) ≡ on_paper (gs ++ hs) vs
  paper_by gs hs e = paper_where gs hs (λ p. e)

-- the number on paper is the order's
pub paper_no : (gs : List Ground) (vs : List ℕ) → (on_paper gs vs).number ≡ order_no gs
unfolding on_paper order_no in_order
paper_no [] vs = refl
paper_no (Ground.given r true ∷ gs) vs = refl
paper_no (Ground.given r false ∷ gs) vs = paper_no gs vs
paper_no (Ground.lacking r true ∷ gs) vs = paper_no gs vs
paper_no (Ground.lacking r false ∷ gs) vs = refl

-- where "text above 65,535 bytes" is asked first and no ground holds, the text has the size
pub order_short : (t : List ℕ) (gs : List Ground) → in_order Err (Ground.given TextTooLong (too_long t) ∷ gs) passed ≡ passed → length t ≤ max_text
unfolding in_order
order_short t gs = go (too_long t) refl
  where
    go : (x : Bool) → too_long t ≡ x → cond x (Err TextTooLong) (in_order Err gs (Ok tt)) ≡ passed → length t ≤ max_text
    go true e p = let z : ◌≡◌ {A = ℕ} 0 1 = cc in absurd (omega arith)
    go false e p = ltb-false max_text (length t) e
