-- Orders in two parts, and the join buffer behind the same tries twice over.
-- Assumes nothing.
use Rattle.std.specs.Prelude.{Err}
use mathlib.Core.Path.{◌≡◌, refl, sym, ◌∙◌, ap}
use mathlib.Core.Bool.{Bool, true, false}
use mathlib.Core.List.{List, [], ◌∷◌, ◌++◌, append_assoc, append-nil}
use Prim.Native.Nat.{ℕ, ◌+◌, ◌-◌, ◌<◌}
use native.Mathlib.Omega.{arith}
use borrow.Author.Tests.{leb-true, leb-false}
use lib.Dec.{leb}
use lib.ListN.{length, drop, length-append, length-drop, drop_of_length-le}
use lib.Seq.{drop-drop, drop-append-le, drop-append_seam}
use Rattle.base_lists.specs.Lists.{over}
use Rattle.base_refusals.specs.Numbers.{passed}
use Rattle.base_refusals.specs.Orders.{Ground, in_order}
use Rattle.base_refusals.specs.declared.Refusal.{Refusal}
use Rattle.read_blocks.specs.Blocks.{joined_in, join_holds}
use Rattle.sheet_blocks.specs.Sheets.{Try, join_behind}

-- ---- an order whose first part is asked by itself

module _ {A : Type 0} (f : Refusal → A) (x : A) where
  pub order_met : (gs hs : List Ground) {r : Refusal} → in_order Err gs passed ≡ Err r → in_order f (gs ++ hs) x ≡ f r
  unfolding in_order
  order_met [] hs e = let z : ◌≡◌ {A = ℕ} 0 1 = cc in absurd (omega arith)
  order_met (Ground.given q true ∷ gs) hs {r} e = let z : q ≡ r = cc in ap f z
  order_met (Ground.given q false ∷ gs) hs e = order_met gs hs e
  order_met (Ground.lacking q true ∷ gs) hs e = order_met gs hs e
  order_met (Ground.lacking q false ∷ gs) hs {r} e = let z : q ≡ r = cc in ap f z

  pub order_past : (gs hs : List Ground) → in_order Err gs passed ≡ passed → in_order f (gs ++ hs) x ≡ in_order f hs x
  unfolding in_order
  order_past [] hs e = refl
  order_past (Ground.given q true ∷ gs) hs e = let z : ◌≡◌ {A = ℕ} 0 1 = cc in absurd (omega arith)
  order_past (Ground.given q false ∷ gs) hs e = order_past gs hs e
  order_past (Ground.lacking q true ∷ gs) hs e = order_past gs hs e
  order_past (Ground.lacking q false ∷ gs) hs e = let z : ◌≡◌ {A = ℕ} 0 1 = cc in absurd (omega arith)

-- where no ground of both parts holds, none of either does
pub order_parts : (gs hs : List Ground) → in_order Err (gs ++ hs) passed ≡ passed
    → (in_order Err gs passed ≡ passed) × (in_order Err hs passed ≡ passed)
unfolding in_order
order_parts [] hs e = (refl, e)
order_parts (Ground.given q true ∷ gs) hs e = let z : ◌≡◌ {A = ℕ} 0 1 = cc in absurd (omega arith)
order_parts (Ground.given q false ∷ gs) hs e = order_parts gs hs e
order_parts (Ground.lacking q true ∷ gs) hs e = order_parts gs hs e
order_parts (Ground.lacking q false ∷ gs) hs e = let z : ◌≡◌ {A = ℕ} 0 1 = cc in absurd (omega arith)

-- ---- one thing laid over another

pub over-over : (ys p b : List ℕ) → over ys (over p b) ≡ over (over ys p) b
over-over ys p b = go (leb (length ys) (length p)) refl
  where
    long : length (over ys p) ≡ length ys + (length p - length ys)
    long = length-append ys (drop (length ys) p) ∙ omega (arith, length-drop (length ys) p)

    behind : drop (length ys) (p ++ drop (length p) b) ≡ drop (length ys) p ++ drop (length (over ys p)) b → over ys (over p b) ≡ over (over ys p) b
    behind e = ap (λ (x : List ℕ). ys ++ x) e ∙ sym (append_assoc ys (drop (length ys) p) (drop (length (over ys p)) b))

    go : (x : Bool) → leb (length ys) (length p) ≡ x → over ys (over p b) ≡ over (over ys p) b
    go true q =
        let h = leb-true (length ys) (length p) q in
        let k : length (over ys p) ≡ length p = omega (arith, long) in
        behind (drop-append-le (length ys) p (drop (length p) b) h ∙ ap (λ (n : ℕ). drop (length ys) p ++ drop n b) (sym k))
    go false q =
        let h = leb-false (length ys) (length p) q in
        let k : length (over ys p) ≡ length ys = omega (arith, long) in
        let d : drop (length ys) p ≡ [] = drop_of_length-le p {i = length ys} (omega arith) in
        let n : length p + (length ys - length p) ≡ length ys = omega arith in
        behind (past h n ∙ (ap (λ (n : ℕ). drop n b) (sym k) ∙ ap (λ (x : List ℕ). x ++ drop (length (over ys p)) b) (sym d)))
      where
        past : length p < length ys → length p + (length ys - length p) ≡ length ys → drop (length ys) (p ++ drop (length p) b) ≡ drop (length ys) b
        past h n =
            ap (λ (i : ℕ). drop i (p ++ drop (length p) b)) (sym n)
            ∙ (sym (drop-drop (length ys - length p) (length p) (p ++ drop (length p) b))
            ∙ (ap (drop (length ys - length p)) (drop-append_seam p (drop (length p) b))
            ∙ (drop-drop (length ys - length p) (length p) b ∙ ap (λ (i : ℕ). drop i b) n)))

pub over-same : (p : List ℕ) → over p p ≡ p
over-same p = ap (λ (x : List ℕ). p ++ x) (drop_of_length-le p {i = length p} (omega arith)) ∙ append-nil p

-- ---- the join buffer: one list at its front, whatever stood there before

join_front : (p b : List ℕ) (xs : List Try) → join_behind (over p b) xs ≡ over (join_behind p xs) b
unfolding join_behind join_holds
join_front p b [] = refl
join_front p b (x ∷ xs) = ap (λ c. join_behind c xs) (over-over (joined_in x.found) p b) ∙ join_front (over (joined_in x.found) p) b xs

join_over : (b : List ℕ) (xs : List Try) → join_behind b xs ≡ over (join_behind [] xs) b
join_over b xs = join_front [] b xs

-- "twice over is the same"
pub join_twice : (b : List ℕ) (xs : List Try) → join_behind (join_behind b xs) xs ≡ join_behind b xs
join_twice b xs =
    join_over (join_behind b xs) xs
    ∙ (ap (over (join_behind [] xs)) (join_over b xs)
    ∙ (over-over (join_behind [] xs) (join_behind [] xs) b
    ∙ (ap (λ (p : List ℕ). over p b) (over-same (join_behind [] xs)) ∙ sym (join_over b xs))))
