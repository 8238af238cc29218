-- Each way through reading at a brace, as the code goes it.
-- Assumes nothing.
use Rattle.std.specs.Prelude.{None, Option, Some}
use mathlib.Core.Path.{◌≡◌, refl, sym, ◌∙◌, ap}
use mathlib.Core.Bool.{Bool, true, false, cond}
use mathlib.Core.List.{List, ◌∷◌, ◌++◌}
use Prim.Native.Nat.{ℕ, suc, ◌+◌, ◌-◌, ◌<◌, ◌≤◌}
use native.Mathlib.Numerals.{add-one}
use native.Mathlib.Omega.{arith}
use borrow.Author.Tests.{lt-ltb, le-ltb, ltb-true}
use lib.Dec.{ltb, eqb}
use lib.ListN.{length, get_or, take, drop}
use lib.Seq.{slice}
use Rattle.base_lists.proofs.Scan.{both}
use Rattle.base_lists.proofs.Parts.{slice_part}
use Rattle.base_bytes.specs.declared.Mode.{Mode}
use Rattle.text_utf8.specs.Computed.{is_utf8}
use Rattle.base_refusals.specs.Numbers.{max_text}
use Rattle.base_refusals.specs.declared.Refusal.TheVariants.{NotUtf8}
use Rattle.block_grammar.specs.ComputedClose.{find_close}
use Rattle.block_grammar.proofs.Close.{found}
use Rattle.set_table.specs.Types.{one}
use Rattle.set_fill.specs.Fill as fills
use Rattle.set_table.specs.declared.Filled.{Filled}
use Rattle.text_lines.specs.declared.Range.{Range}
use Rattle.block_places.specs.Computed.{payload_place}
use Rattle.read_brace.proofs.Places.{is_five, said_only}
use Rattle.read_brace.specs.Brace.{refusing_read, brace_at, payload_of, finished, read_to, at_brace, empty_front, part_to, payload_at}

-- ---- 1, 3, and then the close: one law for whatever is answered
module _ {A : Type 0} (long none : A) (to : Option ℕ → A) (t : List ℕ) (i : ℕ) where
  pub too_long_lem : max_text < length t → long ≡ at_brace long none to t i
  unfolding at_brace
  too_long_lem h = rw (lt-ltb max_text (length t) h)

  pub no_brace : length t ≤ max_text → brace_at t i ≡ false → none ≡ at_brace long none to t i
  unfolding at_brace
  no_brace h e = rw (le-ltb max_text (length t) h, e)

  pub at_close : {p q : Option ℕ} {r : A} → length t ≤ max_text → brace_at t i ≡ true → p ≡ find_close t (i + 1) → p ≡ q → r ≡ to q → r ≡ at_brace long none to t i
  unfolding at_brace
  at_close h e f g k = rw (le-ltb max_text (length t) h, e) (k ∙ ap to (sym g ∙ f ∙ ap (find_close t) (add-one i)))

pub opens_in : (t : List ℕ) (i : ℕ) → brace_at t i ≡ true → i < length t
unfolding brace_at
opens_in t i e = ltb-true i (length t) (both (ltb i (length t)) (eqb (get_or t i 0) 123) e).0

-- where the close was found
pub close_in : (t : List ℕ) (i e : ℕ) {p : Option ℕ} → p ≡ find_close t (i + 1) → p ≡ Some e → (i < e) × ((e < length t) × (find_close t (suc i) ≡ Some e))
close_in t i e f g =
    let h : find_close t (suc i) ≡ Some e = ap (find_close t) (sym (add-one i)) ∙ sym f ∙ g in
    let z = found t (suc i) e h in
    (omega (arith, z.from), (z.to, h))

-- ---- the payload, as the code cuts it out
pub part : (t : List ℕ) (i e : ℕ) → take (e - (i + 1)) (drop (i + 1) t) ≡ payload_of t i e
part t i e = rw add-one (sym (slice_part (suc i) e t))

module _ (t : List ℕ) (i e : ℕ) where
  pub part_bad : is_utf8 (take (e - (i + 1)) (drop (i + 1) t)) ≡ false → empty_front ≡ part_to t i (Some e)
  part_bad u = rw (rw part at u)

  pub part_good : is_utf8 (take (e - (i + 1)) (drop (i + 1) t)) ≡ true → record { from = i + 1; to = e } ≡ part_to t i (Some e)
  part_good u = rw (rw part at u, add-one i)

module _ (m : Mode) (t : List ℕ) (i e : ℕ) where
  pub not_utf8 : is_utf8 (take (e - (i + 1)) (drop (i + 1) t)) ≡ false → refusing_read NotUtf8 ≡ read_to m t i (Some e)
  not_utf8 u = rw (rw part at u)

  -- what is filled of a text that isn't too long
  pub filled_of_lem : length t ≤ max_text → {f : Filled} → f ≡ fills.fill_at m t (i + 1) e → f ≡ fills.filled_of m (one t) (i + 1) (slice (i + 1) e t)
  unfolding fills.fill_at
  filled_of_lem h k = k ∙ (rw (le-ltb max_text (length t) h))

  pub filled : is_utf8 (take (e - (i + 1)) (drop (i + 1) t)) ≡ true → {f : Filled} → f ≡ fills.filled_of m (one t) (i + 1) (slice (i + 1) e t)
      → {n : ℕ} → n ≡ cond (is_five f.outcome) (payload_place m (slice (i + 1) e t)) 0 → finished f (e + 1) n ≡ read_to m t i (Some e)
  unfolding finished
  filled u {f} k {n} g =
      let z : f ≡ fills.filled_of m (one t) (suc i) (payload_of t i e) = k ∙ rw (add-one i) in
      let w : n ≡ cond (is_five f.outcome) (payload_place m (payload_of t i e)) 0 = g ∙ rw (add-one i) in
      rw (rw part at u, w, said_only, z, add-one e)

-- ---- the range that is handed back lies in the text
pub record Inside (t : List ℕ) (r : Range) : Type 0 where
  pub ordered : r.from ≤ r.to
  pub within : r.to ≤ length t

pub range_in : (t : List ℕ) (i : ℕ) → Inside t (payload_at t i)
unfolding payload_at at_brace
range_in t i = go (ltb max_text (length t)) (brace_at t i) (find_close t (suc i)) refl
  where
    at_front : Inside t empty_front
    at_front = record { ordered = omega arith; within = omega arith }

    cut : (b : Bool) (e : ℕ) → find_close t (suc i) ≡ Some e → Inside t (cond b (record { from = suc i; to = e }) empty_front)
    cut true e h = let z = found t (suc i) e h in record { ordered = z.from; within = omega (arith, z.to) }
    cut false e h = at_front

    closed : (p : Option ℕ) → find_close t (suc i) ≡ p → Inside t (part_to t i p)
    closed None h = at_front
    closed (Some e) h = cut (is_utf8 (payload_of t i e)) e h

    go : (a b : Bool) (p : Option ℕ) → find_close t (suc i) ≡ p → Inside t (cond a empty_front (cond b (part_to t i p) empty_front))
    go true b p h = at_front
    go false true p h = closed p h
    go false false p h = at_front
