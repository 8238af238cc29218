-- Parts of a text whose ends are character boundaries: what stands on either side of an ASCII byte is one, so all that a payload's tokens hold is.
-- Assumes nothing.
use mathlib.Core.Path.{◌≡◌, refl, sym, ◌∙◌, ap}
use mathlib.Core.Bool.{Bool, true, false, not}
use mathlib.Core.List.{List, [], ◌∷◌, ◌++◌, append_assoc}
use Prim.Native.Nat.{ℕ, suc, ◌+◌, ◌-◌, ◌<◌, ◌≤◌}
use native.Mathlib.Nat.{add-zero}
use native.Mathlib.Omega.{arith}
use lib.Dec.{leb}
use lib.ListN.{length, get_or, drop, length-append, length-drop}
use lib.Seq.{slice, get_or-drop, drop-append_seam, take-append_seam, get_or-append_seam}
use borrow.Author.Tests.{le-leb, leb-true, leb-false}
use Rattle.base_lists.proofs.Parts.{slice_part, slice_add, drop_past, seam}
use Rattle.base_lists.proofs.Scan.{both}
use Rattle.base_bytes.specs.Bytes.{is_tail}
use Rattle.text_utf8.specs.Computed.{is_utf8}
use Rattle.text_utf8.specs.Utf8.{is_boundary}
use Rattle.text_utf8.proofs.Laws.{past_ascii}
use Rattle.proved_texts.proofs.Utf8Boundaries.{parts, rest_boundary, before_ascii}
use Rattle.proved_texts.proofs.Utf8Grammar.{utf8_append}
use Rattle.set_table.specs.Types.{one, range_bytes}
use Rattle.set_table.specs.declared.Origin.TheVariants.{First}
use Rattle.set_values.specs.Values.{range_ok}

-- b stands in w at `from`, and `rest` behind it
pub record Part (w : List ℕ) (from : ℕ) (b rest : List ℕ) : Type 0 where
  pub within : from ≤ length w
  pub stands : drop from w ≡ b ++ rest
  pub front : is_utf8 (b ++ rest) ≡ true
  pub back : is_utf8 rest ≡ true

module _ {w : List ℕ} {from : ℕ} {b rest : List ℕ} (p : Part w from b rest) where
  part_length : length w ≡ from + length b + length rest
  part_length = omega (arith, p.within, length-drop from w, ap length p.stands, length-append b rest)

  pub range_ok_lem : range_ok (one w) First from (from + length b) ≡ true
  unfolding range_ok
  range_ok_lem =
      let n = part_length in
      let a : is_boundary w from ≡ true = rest_boundary w from p.within (rw p.stands p.front) in
      let e : drop (from + length b) w ≡ rest = drop_past w b rest from (from + length b) p.stands refl in
      let z : is_boundary w (from + length b) ≡ true = rest_boundary w (from + length b) (omega arith) (rw e p.back) in
      rw (le-leb from (from + length b) (omega arith), a, z)

  pub range_is : range_bytes (one w) First from (from + length b) ≡ b
  unfolding range_bytes
  range_is = rw (slice_add from (length b) w, p.stands, take-append_seam b rest)

-- ---- at an ASCII byte
low_cut : (a : List ℕ) (c : ℕ) (r : List ℕ) → c ≤ 0x7F → is_utf8 (a ++ (c ∷ r)) ≡ true → is_utf8 (c ∷ r) ≡ true
low_cut a c r low u =
    let s = a ++ (c ∷ r) in
    let i : length a < length s = omega (arith, length-append a (c ∷ r)) in
    let l : get_or s (length a) 0 ≤ 0x7F = rw (get_or-append_seam a c r 0) low in
    rw (drop-append_seam a (c ∷ r)) at (parts s (length a) u (before_ascii s (length a) i l)).1

low_past : (a : List ℕ) (c : ℕ) (r : List ℕ) → c ≤ 0x7F → is_utf8 (a ++ (c ∷ r)) ≡ true → is_utf8 r ≡ true
unfolding is_utf8
low_past a c r low u = sym (past_ascii c r low) ∙ low_cut a c r low u

module _ {w : List ℕ} {from : ℕ} (a : List ℕ) (c : ℕ) (b : List ℕ) {rest : List ℕ} (low : c ≤ 0x7F) (p : Part w from (a ++ (c ∷ b)) rest) where
  here : drop from w ≡ a ++ (c ∷ (b ++ rest))
  here = p.stands ∙ append_assoc a (c ∷ b) rest

  start : is_utf8 (a ++ (c ∷ (b ++ rest))) ≡ true
  start = rw (← append_assoc a (c ∷ b) rest) p.front

  -- what stands before it
  pub before : Part w from a ((c ∷ b) ++ rest)
  before = record { within = p.within; stands = here; front = start; back = low_cut a c (b ++ rest) low start }

  -- what stands behind it
  pub behind : {next : ℕ} → next ≡ suc (from + length a) → Part w next b rest
  behind {next} e =
      record {
        within = omega (arith, part_length p, length-append a (c ∷ b));
        stands = drop_past w (a ++ (c ∷ [])) (b ++ rest) from next (here ∙ sym (append_assoc a (c ∷ []) (b ++ rest))) (omega (arith, length-append a (c ∷ [])));
        front = low_past a c (b ++ rest) low start;
        back = p.back;
      }

-- ---- a part of a text that is UTF-8
-- a part that isn't empty ends behind where it begins
ordered : (w : List ℕ) (from to : ℕ) {a : ℕ} {x : List ℕ} → slice from to w ≡ a ∷ x → from ≤ to
ordered w from to {a} {x} e = go (leb from to) refl
  where
    go : (b : Bool) → leb from to ≡ b → from ≤ to
    go true q = leb-true from to q
    go false q =
        let l = leb-false from to q in
        let z : to - from ≡ 0 = omega arith in
        let n : [] ≡ a ∷ x = rw (slice_part from to w, z) at e in
        absurd (omega (arith, ap length n))

module _ (w : List ℕ) (from to : ℕ) (u : is_utf8 w ≡ true) where
  -- between two boundaries
  pub cut_out : from ≤ to → is_boundary w from ≡ true → is_boundary w to ≡ true → Part w from (slice from to w) (drop to w)
  unfolding is_boundary
  cut_out h a z =
      record {
        within = leb-true from (length w) (both (leb from (length w)) _ a).0;
        stands = seam w from to h;
        front = rw (← seam w from to h) (parts w from u a).1;
        back = (parts w to u z).1;
      }

  -- that isn't empty
  module _ {a : ℕ} {x : List ℕ} (h : slice from to w ≡ a ∷ x) where
    whole : drop from w ≡ slice from to w ++ drop to w
    whole = seam w from to (ordered w from to h)

    begun : drop from w ≡ a ∷ (x ++ drop to w)
    begun = whole ∙ ap (λ s. s ++ drop to w) h

    inside : from < length w
    inside = omega (arith, length-drop from w, ap length begun)

    first : get_or w from 0 ≡ a
    first = let p : get_or (drop from w) 0 0 ≡ get_or w from 0 = rw (get_or-drop, add-zero) in sym p ∙ (rw begun)

    -- it begins on a boundary, and what stands behind it is UTF-8
    between : is_boundary w from ≡ true → (is_utf8 (slice from to w ++ drop to w) ≡ true → is_utf8 (drop to w) ≡ true) → Part w from (slice from to w) (drop to w)
    between b z = let f = rw whole at (parts w from u b).1 in record { within = omega (arith, inside); stands = whole; front = f; back = z f }

    -- with an ASCII byte at either end
    pub low_ends : (y : List ℕ) {z : ℕ} → slice from to w ≡ y ++ (z ∷ []) → a ≤ 0x7F → z ≤ 0x7F → Part w from (slice from to w) (drop to w)
    low_ends y {z} e l k =
        between (before_ascii w from inside (omega (arith, first))) (λ f. low_past y z (drop to w) k (rw (e, append_assoc y (z ∷ []) (drop to w)) at f))

    -- that is UTF-8 by itself
    pub own_part : is_utf8 (slice from to w) ≡ true → Part w from (slice from to w) (drop to w)
    unfolding is_boundary
    own_part o = between start (λ f. sym (utf8_append (slice from to w) (drop to w) o) ∙ f)
      where
        start : is_boundary w from ≡ true
        start =
            let b = (both (leb 0 (length (slice from to w))) (not (is_tail (get_or (slice from to w) 0 0))) (rest_boundary (slice from to w) 0 (omega arith) o)).1 in
            rw (le-leb from (length w) (omega (arith, inside)), first) (rw h at b)
