-- The loop that changes the first rows of an array, one by one.
-- Assumes nothing.
use mathlib.Core.Path.{◌≡◌, refl, ◌∙◌, ap}
use mathlib.Core.List.{List, [], ◌∷◌, ◌++◌, map, map-append, append_assoc, append-nil}
use Prim.Native.Nat.{ℕ, suc, ◌+◌, ◌<◌, ◌≤◌, min}
use native.Mathlib.Numerals.{add-one}
use native.Mathlib.Omega.{arith}
use lib.ListN.{length, get_or, set, take, drop, length-map, drop_of_length-le}
use lib.Seq.{take-suc, take_all, drop-cons, length-take-le, set-append_seam, get_or-append_seam}
use Rattle.std.proofs.lemmas.List.{take_min, drop_min}
use Rattle.set_exchange.specs.Exchange.{firsts_by}

-- the first i are changed
pub record Changes {A : Type 0} (f : A → A) (xs out : List A) (i : ℕ) : Type 0 where
  pub is : out ≡ firsts_by f i xs

pub start : {A : Type 0} (f : A → A) (xs : List A) → Changes f xs xs 0
unfolding firsts_by
start f xs = record { is = refl }

module _ {A : Type 0} {f : A → A} {xs out : List A} {i : ℕ} (inv : Changes f xs out i) where
  pub go : (d : A) → i < length xs → Changes f xs (set out i (f (get_or out i d))) (i + 1)
  unfolding firsts_by
  go d h =
      let k : length (map f (take i xs)) ≡ i = length-map (take i xs) f ∙ length-take-le i xs (omega arith) in
      let g : get_or (map f (take i xs) ++ (get_or xs i d ∷ drop (suc i) xs)) i d ≡ get_or xs i d = rw k at (get_or-append_seam (map f (take i xs)) (get_or xs i d) (drop (suc i) xs) d) in
      let z = set-append_seam (map f (take i xs)) (get_or xs i d) (drop (suc i) xs) (f (get_or xs i d)) in
      let y : map f (take (suc i) xs) ≡ map f (take i xs) ++ (f (get_or xs i d) ∷ []) = ap (map f) (take-suc xs i d h) ∙ map-append f (take i xs) (get_or xs i d ∷ []) in
      record { is = rw (inv.is, add-one, y, append_assoc, drop-cons xs i d h, g) (rw k at z) }

-- the first m of the rows are changed, n or all of them, and the others stand behind them
pub end : {A : Type 0} (m n : ℕ) (xs : List A) {f : A → A} {out : List A} {i : ℕ} → m ≡ min n (length xs) → Changes f (take m xs) out i → length (take m xs) ≤ i → out ++ drop m xs ≡ firsts_by f n xs
unfolding firsts_by
end m n xs {i = i} q inv h =
    rw (inv.is, take_all i (take m xs) h, drop_of_length-le (take m xs) {i = i} h, append-nil, q, take_min n xs, drop_min n xs)
