-- Lists of anything: whether there is any, and what each of a list has. A loop over the first n asks it row by row.
-- Assumes nothing.
use mathlib.Core.Path.{◌≡◌, refl, sym}
use mathlib.Core.Bool.{Bool, true, false}
use mathlib.Core.List.{List, [], ◌∷◌, ◌++◌, map}
use Prim.Native.Nat.{ℕ, zero, suc, ◌+◌, ◌<◌, ◌≤◌}
use native.Mathlib.Numerals.{add-one}
use native.Mathlib.Omega.{arith}
use lib.Dec.{ltb}
use lib.ListN.{length, get_or, take, drop, drop_of_length-le}
use lib.Seq.{drop-cons, get_or-take, length-take-le}
use borrow.Author.Tests.{lt-ltb}
use Rattle.base_lists.specs.Lists.{all, is_some}
use Rattle.base_lists.proofs.Scan.{both}
use Rattle.base_lists.proofs.More.{contra}

-- ---- whether there is any
module _ {A : Type 0} where
  pub is_some_lem : (s : List A) → 0 < length s → is_some s ≡ true
  is_some_lem [] h = absurd (omega arith)
  is_some_lem (a ∷ s) h = refl

  pub is_none : (s : List A) → length s ≡ 0 → is_some s ≡ false
  is_none [] e = refl
  is_none (a ∷ s) e = absurd (omega arith)

  pub some_after : (s : List A) (a : A) → is_some (s ++ (a ∷ [])) ≡ true
  some_after [] a = refl
  some_after (b ∷ s) a = refl

  pub some_take : (s : List A) (n : ℕ) → n ≤ length s → is_some (take n s) ≡ ltb 0 n
  some_take s zero h = refl
  some_take [] (suc n) h = absurd (omega arith)
  some_take (a ∷ s) (suc n) h = sym (lt-ltb 0 (suc n) (omega arith))

-- ---- `map`, at a place
pub get_map : {A B : Type 0} (f : A → B) (d : A) (xs : List A) (i : ℕ) → get_or (map f xs) i (f d) ≡ f (get_or xs i d)
get_map f d [] i = refl
get_map f d (x ∷ xs) zero = refl
get_map f d (x ∷ xs) (suc i) = get_map f d xs i

-- ---- `all`, at a place and of a mapped list
module _ {A : Type 0} (f : A → Bool) (d : A) where
  pub all_at : (xs : List A) → all f xs ≡ true → (k : ℕ) → k < length xs → f (get_or xs k d) ≡ true
  unfolding all
  all_at [] e k h = absurd (omega arith)
  all_at (x ∷ xs) e zero h = (both (f x) (all f xs) e).0
  all_at (x ∷ xs) e (suc k) h = all_at xs (both (f x) (all f xs) e).1 k (omega arith)

pub all_map : {A B : Type 0} (f : B → Bool) (g : A → B) (xs : List A) → all f (map g xs) ≡ all (λ x. f (g x)) xs
unfolding all
all_map f g [] = refl
all_map f g (x ∷ xs) = rw (all_map f g xs)

pub every_same : {A : Type 0} (f g : A → Bool) → ((x : A) → f x ≡ g x) → (xs : List A) → all f xs ≡ all g xs
unfolding all
every_same f g h [] = refl
every_same f g h (x ∷ xs) = rw (h x, every_same f g h xs)

-- ---- each of the first n: the answer for the rest is the answer for the whole
pub record Each {A : Type 0} (f : A → Bool) (xs : List A) (n : ℕ) (r : Bool) (k : ℕ) : Type 0 where
  pub long : n ≤ length xs
  pub rest : all f (drop k (take n xs)) ≡ r

pub each_start : {A : Type 0} (f : A → Bool) (xs : List A) (n : ℕ) → n ≤ length xs → Each f xs n (all f (take n xs)) 0
each_start f xs n h = record { long = h; rest = refl }

module _ {A : Type 0} {f : A → Bool} {xs : List A} {n : ℕ} {r : Bool} {k : ℕ} (inv : Each f xs n r k) (d : A) where
  next : k < n → drop k (take n xs) ≡ get_or xs k d ∷ drop (suc k) (take n xs)
  next h = rw (← get_or-take n xs k d h) (drop-cons (take n xs) k d (omega (arith, length-take-le n xs inv.long)))

  pub each_stop : k < n → f (get_or xs k d) ≡ false → false ≡ r
  unfolding all
  each_stop h e = rw (next h, e) at inv.rest

  pub each_go : k < n → f (get_or xs k d) ≡ true → Each f xs n r (k + 1)
  unfolding all
  each_go h e = record { long = inv.long; rest = rw add-one (rw (next h, e) at inv.rest) }

pub each_end : {A : Type 0} {f : A → Bool} {xs : List A} {n : ℕ} {r : Bool} {k : ℕ} → Each f xs n r k → n ≤ k → true ≡ r
unfolding all
each_end {xs = xs} {n = n} {k = k} inv h = rw (drop_of_length-le (take n xs) {i = k} (omega (arith, length-take-le n xs inv.long))) at inv.rest

pub some_not : {A : Type 0} (s : List A) → is_some s ≡ true → s ≡ [] → ⊥
some_not [] h e = contra false h refl
some_not (x ∷ s) h e = contra true refl (cc)

pub not_some : {A : Type 0} (s : List A) → (s ≡ [] → ⊥) → is_some s ≡ true
not_some [] n = absurd (n refl)
not_some (x ∷ s) n = refl

pub some_append : (us vs : List (List ℕ)) → is_some us ≡ true → is_some (us ++ vs) ≡ true
some_append [] vs h = contra false h refl
some_append (u ∷ us) vs h = refl

pub all_each : {A : Type 0} (f : A → Bool) (d : A) (xs : List A) → ((k : ℕ) → k < length xs → f (get_or xs k d) ≡ true) → all f xs ≡ true
unfolding all
all_each f d [] h = refl
all_each f d (x ∷ xs) h = rw (h 0 (omega arith)) (all_each f d xs (λ k i. h (suc k) (omega arith)))
