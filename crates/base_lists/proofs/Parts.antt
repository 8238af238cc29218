-- Parts of a list: the library's `slice` by two places, and the `take` and `drop` that the code's `&s[a..e]` is.
-- Assumes nothing.
use mathlib.Core.Path.{◌≡◌, refl, ap, sym, ◌∙◌}
use mathlib.Core.List.{List, [], ◌∷◌, ◌++◌}
use Prim.Native.Nat.{ℕ, zero, suc, ◌+◌, ◌-◌, ◌≤◌, min}
use native.Mathlib.Nat.{zero-add, suc-add, zero-min, suc-min-suc, sub-zero, zero-sub, suc-sub-suc, add-zero}
use native.Mathlib.Omega.{arith}
use lib.ListN.{length, take, drop, length-drop, get_or, take-append-drop}
use lib.Seq.{take-nil, drop-nil, drop-drop, drop-append_seam, slice, length-slice, drop-append-le, take-append-le, get_or-drop}

-- a part by its two ends
pub slice_part : (a e : ℕ) (s : List ℕ) → slice a e s ≡ take (e - a) (drop a s)
slice_part zero e s = rw sub-zero
slice_part (suc a) zero s = rw zero-sub (drop-nil (suc a))
slice_part (suc a) (suc e) [] = rw take-nil
slice_part (suc a) (suc e) (b ∷ s) = rw suc-sub-suc (slice_part a e s)

-- a part by its place and its length
pub slice_add : (a k : ℕ) (s : List ℕ) → slice a (a + k) s ≡ take k (drop a s)
slice_add zero k s = rw zero-add
slice_add (suc a) k [] = rw (suc-add, take-nil)
slice_add (suc a) k (b ∷ s) = rw suc-add (slice_add a k s)

-- nothing stands behind the end
pub drop_min : (n : ℕ) (s : List ℕ) → drop (min n (length s)) s ≡ drop n s
drop_min zero s = rw zero-min
drop_min (suc n) [] = drop-nil (min (suc n) 0)
drop_min (suc n) (b ∷ s) = rw suc-min-suc (drop_min n s)

-- what stands behind a part that stands at a place
pub drop_past : (w a b : List ℕ) (at from : ℕ) → drop at w ≡ a ++ b → from ≡ at + length a → drop from w ≡ b
drop_past w a b at from d e = rw (e, ← drop-drop (length a) at w, d, drop-append_seam a b)

-- where a part that lies in the list ends
pub part_end : (s : List ℕ) (f e : ℕ) → f ≤ e → e ≤ length s → f + length (slice f e s) ≡ e
part_end s f e h l = omega (arith, length-slice f e s l)

pub drop-behind : (v : List ℕ) (q : ℕ) (rest : List ℕ) → drop (suc (length v)) (v ++ (q ∷ rest)) ≡ rest
drop-behind [] q rest = refl
drop-behind (a ∷ v) q rest = drop-behind v q rest

pub part_front : (l r : List ℕ) (a k : ℕ) → a + k ≤ length l → slice a (a + k) (l ++ r) ≡ slice a (a + k) l
part_front l r a k h =
    rw (slice_add a k (l ++ r), slice_add a k l, drop-append-le a l r (omega arith)) (take-append-le k (drop a l) r (omega (arith, length-drop a l)))

pub part-behind : (t : List ℕ) (at a k : ℕ) → slice (at + a) (at + (a + k)) t ≡ slice a (a + k) (drop at t)
part-behind t at a k =
    let z : at + (a + k) ≡ at + a + k = omega arith in
    rw (z, slice_add (at + a) k t, slice_add a k (drop at t), drop-drop a at t)

pub byte_at : (w : List ℕ) (at b : ℕ) (s : List ℕ) → drop at w ≡ b ∷ s → get_or w at 0 ≡ b
byte_at w at b s d = sym (get_or-drop at w 0 0 ∙ rw add-zero) ∙ ap (λ l. get_or l 0 0) d

pub drop_next : (w : List ℕ) (at b : ℕ) (s : List ℕ) → drop at w ≡ b ∷ s → drop (suc at) w ≡ s
drop_next w at b s d = let z : at + 1 ≡ suc at = omega arith in rw (← z, ← drop-drop 1 at w, d)

pub drop-take : (i j : ℕ) (s : List ℕ) → drop i (take j s) ≡ take (j - i) (drop i s)
drop-take zero j s = rw sub-zero
drop-take (suc i) zero s = rw zero-sub
drop-take (suc i) (suc j) [] = sym (take-nil (suc j - suc i))
drop-take (suc i) (suc j) (a ∷ s) = rw suc-sub-suc (drop-take i j s)

pub seam : (w : List ℕ) (from to : ℕ) → from ≤ to → drop from w ≡ slice from to w ++ drop to w
seam w from to h =
    let e : from + (to - from) ≡ to = omega arith in
    rw (slice_part from to w) (sym (rw (drop-drop (to - from) from w, e) at (take-append-drop (to - from) (drop from w))))
