-- Lists whose members are alike one by one, and what follows of them.
-- Assumes nothing.
use mathlib.Core.Path.{◌≡◌, refl, sym, ◌∙◌, ap}
use mathlib.Core.Bool.{Bool, true}
use mathlib.Core.List.{List, [], ◌∷◌, ◌++◌, map, map-id, flat_map}
use Prim.Native.Nat.{ℕ, zero, suc, ◌<◌}
use native.Mathlib.Omega.{arith}
use lib.ListN.{length, get_or}
use Rattle.base_lists.specs.Lists.{all, is_some}
use Rattle.base_lists.proofs.Scan.{both}
use Rattle.base_lists.proofs.Each.{get_map}

pub data Pairs {A : Type 0} (R : A → A → Type 0) : List A → List A → Type 0 where
  none : Pairs R [] []
  more : {x y : A} {xs ys : List A} → R x y → Pairs R xs ys → Pairs R (x ∷ xs) (y ∷ ys)

module _ {A : Type 0} {R : A → A → Type 0} where
  pub pairs-append : {xs ys us vs : List A} → Pairs R xs ys → Pairs R us vs → Pairs R (xs ++ us) (ys ++ vs)
  pairs-append Pairs.none q = q
  pairs-append (Pairs.more r p) q = Pairs.more r (pairs-append p q)

  pub pairs-length : {xs ys : List A} → Pairs R xs ys → length ys ≡ length xs
  pairs-length Pairs.none = refl
  pairs-length (Pairs.more r p) = ap suc (pairs-length p)

  pub pairs_some : {xs ys : List A} → Pairs R xs ys → is_some ys ≡ is_some xs
  pairs_some Pairs.none = refl
  pairs_some (Pairs.more r p) = refl

  pub pairs-map : {B : Type 0} (f g : A → B) → ((x y : A) → R x y → g y ≡ f x) → {xs ys : List A} → Pairs R xs ys → map g ys ≡ map f xs
  pairs-map f g h Pairs.none = refl
  pairs-map f g h (Pairs.more {x} {y} r p) = rw (h x y r, pairs-map f g h p)

  pub pairs-all : (f g : A → Bool) → ((x y : A) → R x y → g y ≡ f x) → {xs ys : List A} → Pairs R xs ys → all g ys ≡ all f xs
  unfolding all
  pairs-all f g h Pairs.none = refl
  pairs-all f g h (Pairs.more {x} {y} r p) = rw (h x y r, pairs-all f g h p)

  pub pairs_at : (d : A) {xs ys : List A} → Pairs R xs ys → (k : ℕ) → k < length xs → R (get_or xs k d) (get_or ys k d)
  pairs_at d Pairs.none k h = absurd (omega arith)
  pairs_at d (Pairs.more r p) zero h = r
  pairs_at d (Pairs.more r p) (suc k) h = pairs_at d p k (omega arith)

  pub pairs_flat : {B : Type 0} (f g : B → List A) (q : B → Bool) → ((b : B) → q b ≡ true → Pairs R (f b) (g b)) → (bs : List B) → all q bs ≡ true → Pairs R (flat_map f bs) (flat_map g bs)
  unfolding flat_map all
  pairs_flat f g q h [] e = Pairs.none
  pairs_flat f g q h (b ∷ bs) e = let z = both (q b) (all q bs) e in pairs-append (h b z.0) (pairs_flat f g q h bs z.1)

  -- each of the first list has what follows of being alike
  pub pairs_each : (f : A → Bool) → ((x y : A) → R x y → f x ≡ true) → {xs ys : List A} → Pairs R xs ys → all f xs ≡ true
  unfolding all
  pairs_each f h Pairs.none = refl
  pairs_each f h (Pairs.more {x} {y} r p) = rw (h x y r) (pairs_each f h p)

  -- what is alike is f of the other, is the other
  pub pairs_are : (f : A → A) → ((x y : A) → R x y → y ≡ f x) → {xs ys : List A} → Pairs R xs ys → ys ≡ map f xs
  pairs_are f h Pairs.none = refl
  pairs_are f h (Pairs.more {x} {y} r p) = rw (h x y r, pairs_are f h p)

  pub pairs-same : ((x y : A) → R x y → y ≡ x) → {xs ys : List A} → Pairs R xs ys → ys ≡ xs
  pairs-same h {xs} p = pairs_are (λ x. x) h p ∙ map-id xs

  -- a list beside itself
  pub diagonal : (f : A → Bool) → ((x : A) → f x ≡ true → R x x) → (xs : List A) → all f xs ≡ true → Pairs R xs xs
  unfolding all
  diagonal f h [] e = Pairs.none
  diagonal f h (x ∷ xs) e = let z = both (f x) (all f xs) e in Pairs.more (h x z.0) (diagonal f h xs z.1)

-- ---- two maps
module _ {A B : Type 0} (f g : A → B) where
  -- that are the same at each member
  pub same_map : ((x : A) → f x ≡ g x) → (xs : List A) → map f xs ≡ map g xs
  same_map h [] = refl
  same_map h (x ∷ xs) = rw (h x, same_map h xs)

  -- lists that they map to the same, read at a place
  pub same_at : (d : A) (xs ys : List A) → map f xs ≡ map g ys → f d ≡ g d → (k : ℕ) → f (get_or xs k d) ≡ g (get_or ys k d)
  same_at d xs ys e z k = sym (get_map f d xs k) ∙ (rw (e, z) (get_map g d ys k))
