-- The lines that are read again: by what they are, and by computing.
-- Assumes nothing.
use Rattle.std.specs.Prelude.{Some}
use mathlib.Core.Path.{◌≡◌, refl, sym, ◌∙◌, ap}
use mathlib.Core.Bool.{Bool, true, false, cond}
use mathlib.Core.List.{List, [], ◌∷◌, ◌++◌, append_assoc}
use mathlib.Core.Logic.{◌⊎◌, inl, inr}
use Prim.Native.Nat.{ℕ, suc, ◌+◌, ◌-◌, ◌<◌, ◌≤◌}
use native.Mathlib.Omega.{arith}
use borrow.Author.Tests.{ltb-true, ltb-false}
use lib.Dec.{eqb, ltb}
use lib.ListN.{length, take, drop, length-append, length-drop}
use lib.Seq.{take-append_seam, drop-append_seam, take-append-add, drop-append-add, take_at, length-take-le}
use Rattle.base_lists.proofs.More.{contra}
use Rattle.base_bytes.specs.Bytes.{is_indent}
use Rattle.block_trimmed_line.specs.Fronts.{begins_indented}
use Rattle.sheet_splits.specs.Parting.{is_whole}
use Rattle.sheet_edits.specs.Edits.{is_flat, flat_from, last_flat, till_flat, more_again, again_in, again_of, is_again, Replaced}
use Rattle.sheet_edits.specs.Rules.{FlatLine, LastFlat, FirstFlat, ReadAgain}
use Rattle.sheet_edits.proofs.Walks.{till_le}
use Rattle.sheet_edits.proofs.Cuts.{whole_snoc, snoc_append, till_stops, last_flat_lem, span_within, keeps-all, again_replaced, some_parts}

-- where such a line begins behind x, the byte there says so
here_flat : (t x : List ℕ) (b : ℕ) (s : List ℕ) → t ≡ x ++ (b ∷ s) → FlatLine t (length x) → is_flat (is_whole x) b ≡ true
here_flat t x b s e f =
    let w : is_whole x ≡ true = sym (ap is_whole (ap (take (length x)) e ∙ take-append_seam x (b ∷ s))) ∙ f.whole in
    let i : is_indent b ≡ false = sym (ap (λ (l : List ℕ). begins_indented l) (ap (drop (length x)) e ∙ drop-append_seam x (b ∷ s))) ∙ f.flat in
    rw (w, i)

-- ---- the last such line

flat_last : (t : List ℕ) (fresh : Bool) (x s : List ℕ) (last : ℕ) → t ≡ x ++ s → fresh ≡ is_whole x → ((q : ℕ) → q < length x → FlatLine t q → q ≤ last)
    → (q : ℕ) → FlatLine t q → q ≤ flat_from fresh (length x) last s
unfolding flat_from
flat_last t fresh x [] last e w h q f = h q (omega (arith, f.within, ap length e, length-append x [])) f
flat_last t fresh x (b ∷ s) last e w h q f =
    let l : length (x ++ (b ∷ [])) ≡ suc (length x) = omega (arith, length-append x (b ∷ [])) in
    rw l at (flat_last t (eqb b 10) (x ++ (b ∷ [])) s (cond (is_flat fresh b) (length x) last) (e ∙ snoc_append x b s) (sym (whole_snoc x b)) (here (is_flat fresh b) refl) q f)
  where
    here : (p : Bool) → is_flat fresh b ≡ p → (q : ℕ) → q < length (x ++ (b ∷ [])) → FlatLine t q → q ≤ cond p (length x) last
    here true g q i f = omega (arith, i, length-append x (b ∷ []))
    here false g q i f = go (ltb q (length x)) refl
      where
        go : (y : Bool) → ltb q (length x) ≡ y → q ≤ last
        go true j = h q (ltb-true q (length x) j) f
        go false j =
            let k : q ≡ length x = omega (arith, ltb-false q (length x) j, i, length-append x (b ∷ [])) in
            contra (is_flat fresh b) (ap (λ (y : Bool). is_flat y b) w ∙ here_flat t x b s e (rw k at f)) g

last_line : (t : List ℕ) → LastFlat t (last_flat t)
unfolding is_whole
last_line t = record { at = last_flat_lem t; last = flat_last t true [] t 0 refl refl (λ q i f. absurd (omega (arith, i))) }

one_last : {t : List ℕ} {p q : ℕ} → LastFlat t p → LastFlat t q → p ≤ q
one_last {t} {p} {q} v w = go v.at
  where
    go : (p ≡ 0) ⊎ FlatLine t p → p ≤ q
    go (inl e) = omega arith
    go (inr f) = w.last p f

-- ---- the first

till_first : (t : List ℕ) (fresh : Bool) (x s : List ℕ) → t ≡ x ++ s → fresh ≡ is_whole x → (q : ℕ) → length x ≤ q → FlatLine t q → length x + till_flat fresh s ≤ q
unfolding till_flat
till_first t fresh x [] e w q i f = absurd (omega (arith, f.within, i, ap length e, length-append x []))
till_first t fresh x (b ∷ s) e w q i f = go (is_flat fresh b) refl (till_first t (eqb b 10) (x ++ (b ∷ [])) s (e ∙ snoc_append x b s) (sym (whole_snoc x b)) q)
  where
    go : (p : Bool) → is_flat fresh b ≡ p → (length (x ++ (b ∷ [])) ≤ q → FlatLine t q → length (x ++ (b ∷ [])) + till_flat (eqb b 10) s ≤ q)
        → length x + cond p 0 (suc (till_flat (eqb b 10) s)) ≤ q
    go true g ih = omega (arith, i)
    go false g ih = beyond (ltb (length x) q) refl
      where
        beyond : (y : Bool) → ltb (length x) q ≡ y → length x + suc (till_flat (eqb b 10) s) ≤ q
        beyond true j = let l = length-append x (b ∷ []) in omega (arith, l, ih (omega (arith, l, ltb-true (length x) q j)) f)
        beyond false j =
            let k : q ≡ length x = omega (arith, i, ltb-false (length x) q j) in
            contra (is_flat fresh b) (ap (λ (y : Bool). is_flat y b) w ∙ here_flat t x b s e (rw k at f)) g

first_line : (x s : List ℕ) → FirstFlat (x ++ s) (length x) (length x + till_flat (is_whole x) s)
first_line x s = record { at = go (ltb (till_flat (is_whole x) s) (length s)) refl; behind = omega arith; first = till_first (x ++ s) (is_whole x) x s refl refl }
  where
    go : (y : Bool) → ltb (till_flat (is_whole x) s) (length s) ≡ y
        → (length x + till_flat (is_whole x) s ≡ length (x ++ s)) ⊎ FlatLine (x ++ s) (length x + till_flat (is_whole x) s)
    go true j =
        let h = ltb-true (till_flat (is_whole x) s) (length s) j in
        let r = till_stops (is_whole x) x s (λ f. f) h in
        inr (record { within = omega (arith, h, length-append x s); whole = rw (take-append-add x s (till_flat (is_whole x) s)) r.whole; flat = rw (drop-append-add x s (till_flat (is_whole x) s)) r.flat })
    go false j = inl (omega (arith, ltb-false (till_flat (is_whole x) s) (length s) j, till_le (is_whole x) s, length-append x s))

one_first : {t : List ℕ} {from n m : ℕ} → FirstFlat t from n → FirstFlat t from m → n ≤ m
one_first {t} {from} {n} {m} v w = go w.at v.at
  where
    go : (m ≡ length t) ⊎ FlatLine t m → (n ≡ length t) ⊎ FlatLine t n → n ≤ m
    go (inr f) y = v.first m w.behind f
    go (inl e) (inl g) = omega arith
    go (inl e) (inr g) = omega (arith, e, g.within)

first_moved : {t u : List ℕ} {i j n m : ℕ} → FirstFlat t i n → t ≡ u → i ≡ j → n ≡ m → FirstFlat u j m
first_moved f e g h = rw (← e, ← g, ← h) f

-- ---- the two agree

module _ (old new : List ℕ) (a b : ℕ) where
  module _ (r : Replaced old new a b) where
    -- the new text up to what stays behind
    abbrev front : List ℕ
    front = take r.from old ++ r.middle

    abbrev more : ℕ
    more = more_again old new r.to

    new_is : new ≡ front ++ drop r.to old
    new_is = r.text ∙ sym (append_assoc (take r.from old) r.middle (drop r.to old))

    to_within : (r.from ≤ r.to) × (r.to ≤ length old)
    to_within = span_within old a b r.lines

    front_length : length front ≡ r.from + length r.middle
    front_length = omega (arith, length-append (take r.from old) r.middle, length-take-le r.from old (omega (arith, to_within.0, to_within.1)))

    new_length : length new ≡ length front + (length old - r.to)
    new_length = ap length new_is ∙ omega (arith, length-append front (drop r.to old), length-drop r.to old)

    front_end : length front ≡ length new - (length old - r.to)
    front_end = omega (arith, new_length)

    more_is : more ≡ till_flat (is_whole front) (drop r.to old)
    more_is = ap (λ (l : List ℕ). till_flat (is_whole l) (drop r.to old)) (ap (take (length new - (length old - r.to))) new_is ∙ take_at front (drop r.to old) (length new - (length old - r.to)) front_end)

    first_of : FirstFlat new (r.from + length r.middle) (length new - (length old - r.to) + more)
    first_of = first_moved (first_line front (drop r.to old)) (sym new_is) front_length (omega (arith, front_end, more_is))

    computed : again_of old new a b ≡ Some (last_flat (take r.from old), r.to + more, length new - (length old - r.to) + more)
    unfolding again_of again_in
    computed = rw (r.lines, keeps-all old new a b r.lines r.middle r.text)

    place_of : r.to + more + length new ≡ length new - (length old - r.to) + more + length old
    place_of = omega (arith, new_length, to_within.1)

  pub again_rule : {p e n : ℕ} → again_of old new a b ≡ Some (p, e, n) → ReadAgain old new a b p e n
  again_rule {p} {e} {n} q =
      let r = again_replaced old new a b (ap (λ x. is_again x) q) in
      let c : Some (last_flat (take r.from old), r.to + more_again old new r.to, length new - (length old - r.to) + more_again old new r.to) ≡ Some (p, e, n) = sym (computed r) ∙ q in
      let w = some_parts c in
      let i : last_flat (take r.from old) ≡ p = w.0 in
      let j : r.to + more_again old new r.to ≡ e = w.1 in
      let k : length new - (length old - r.to) + more_again old new r.to ≡ n = w.2 in
      record { replaced = r; begin = rw i at (last_line (take r.from old)); end = rw k at (first_of r); old_end = omega (arith, j, k, place_of r) }

  pub rule_again : {p e n : ℕ} → ReadAgain old new a b p e n → again_of old new a b ≡ Some (p, e, n)
  rule_again {p} {e} {n} w =
      let r = w.replaced in
      let l = last_line (take r.from old) in
      let f = first_of r in
      let i : last_flat (take r.from old) ≡ p = omega (arith, one_last w.begin l, one_last l w.begin) in
      let k : length new - (length old - r.to) + more_again old new r.to ≡ n = omega (arith, one_first w.end f, one_first f w.end) in
      let j : r.to + more_again old new r.to ≡ e = omega (arith, k, w.old_end, place_of r) in
      computed r ∙ cc
