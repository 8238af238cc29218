-- The line that begins at a place, trimmed: what the code's range cuts out of the text.
-- Assumes nothing.
use mathlib.Core.Path.{◌≡◌, refl, sym, ◌∙◌, ap}
use mathlib.Core.Bool.{Bool, true, false, cond}
use borrow.Author.Tests.{eqb-true, ltb-true, ltb-false}
use mathlib.Core.List.{List, [], ◌∷◌, ◌++◌}
use Prim.Native.Nat.{ℕ, suc, ◌+◌, ◌-◌, ◌<◌, ◌≤◌}
use native.Mathlib.Nat.{add-zero}
use native.Mathlib.Omega.{arith}
use lib.Dec.{eqb, ltb}
use lib.ListN.{length, get_or, take, drop, take-append-drop}
use lib.Seq.{slice, length-slice, drop-cons}
use Rattle.base_lists.proofs.Parts.{slice_part, slice_add, part_front, part-behind}
use Rattle.base_lists.proofs.Scan.{both}
use Rattle.base_lists.proofs.More.{contra}
use Rattle.base_lists.specs.Lists.{is_in, run, all}
use Rattle.base_bytes.specs.Bytes.{is_indent, is_space}
use Rattle.text_lines.specs.Lines.{before_lf, is_dropped, lines, first_of, line_from, line_at}
use Rattle.text_lines.specs.Trim.{trim, trim_start, trim_end, trim_range}
use Rattle.text_lines.specs.declared.Range.{Range}
use Rattle.text_lines.specs.declared.LineEnd.{LineEnd}
use Rattle.text_lines.proofs.First.{first_take, first_cons}
use Rattle.text_lines.proofs.Lines.{to_from, to_next, next_le, lines_end}
use Rattle.text_lines.proofs.Trim.{trim_from, trim_to, trim_slice}
use Rattle.block_payloads.specs.Payloads.{begins_open, ends_in_close, opens}
use Rattle.block_payloads.proofs.Lines.{ends}
use Rattle.block_trimmed_line.specs.declared.Front.{Front}
use Rattle.block_trimmed_line.specs.Fronts.{front_of, opens_at, begins_indented}

-- ---- the first and the last byte of a trimmed line

-- what is dropped at the end leaves the first byte that is no whitespace
pub opens-trim : (s : List ℕ) → begins_open (trim s) ≡ opens s
unfolding trim trim_start trim_end all
opens-trim [] = refl
opens-trim (b ∷ s) = go (is_space b) refl (opens-trim s)
  where
    go : (x : Bool) → is_space b ≡ x → begins_open (trim_end (trim_start s)) ≡ opens s → begins_open (trim_end (cond x (trim_start s) (b ∷ s))) ≡ begins_open (cond x (trim_start s) (b ∷ s))
    go true e h = h
    go false e h = rw e

module _ (s : List ℕ) where
  pub no_open : length s ≡ 0 → false ≡ begins_open s
  no_open = go s
    where
      go : (s : List ℕ) → length s ≡ 0 → false ≡ begins_open s
      go [] h = refl
      go (b ∷ s) h = absurd (omega (arith, h))

  pub open_is : (length s ≡ 0 → ⊥) → eqb (get_or s 0 0) 123 ≡ begins_open s
  open_is = go s
    where
      go : (s : List ℕ) → (length s ≡ 0 → ⊥) → eqb (get_or s 0 0) 123 ≡ begins_open s
      go [] h = absurd (h refl)
      go (b ∷ s) h = refl

  pub no_close : length s ≡ 0 → false ≡ ends_in_close s
  unfolding ends_in_close
  no_close = go s
    where
      go : (s : List ℕ) → length s ≡ 0 → false ≡ ends_in_close s
      go [] h = refl
      go (b ∷ s) h = absurd (omega (arith, h))

  pub close_is : (length s ≡ 0 → ⊥) → eqb (get_or s (length s - 1) 0) 125 ≡ ends_in_close s
  close_is h = sym (ends s h)

-- ---- the line

pub line_is : (t : List ℕ) (at : ℕ) → line_at t at ≡ slice at (line_from t at).to t
unfolding line_from
line_is t at = rw slice_add (first_take (drop at t))

pub line_none : (t : List ℕ) (at : ℕ) → length t ≤ at → line_at t at ≡ []
line_none t at h = rw (lines_end t at h)

to_le : (t : List ℕ) (at : ℕ) → at < length t → (line_from t at).to ≤ length t
to_le t at h = omega (arith, to_next t at, next_le t at h)

-- ---- a part of a part

-- the range r of the line that begins at `at`, up to `to`
inner : (t : List ℕ) (at to : ℕ) (r : Range) → at ≤ to → to ≤ length t → r.from ≤ r.to → r.to ≤ length (slice at to t)
    → slice (at + r.from) (at + r.to) t ≡ slice r.from r.to (slice at to t)
inner t at to r h l o w =
    let k = r.to - r.from in
    let z : r.to ≡ r.from + k = omega arith in
    let s : drop at t ≡ slice at to t ++ drop (to - at) (drop at t) = rw (slice_part at to t) (sym (take-append-drop (to - at) (drop at t))) in
    rw z (part-behind t at r.from k ∙ ap (slice r.from (r.from + k)) s ∙ part_front (slice at to t) _ r.from k (omega arith))

line_slice : (t : List ℕ) (at : ℕ) → at < length t → slice (at + (trim_range (line_at t at)).from) (at + (trim_range (line_at t at)).to) t ≡ trim (line_at t at)
line_slice t at h =
    inner t at (line_from t at).to (trim_range (line_at t at)) (to_from t at) (to_le t at h) (trim_from (line_at t at)) (rw (← line_is t at) (trim_to (line_at t at)))
    ∙ (rw (← line_is t at) (trim_slice (line_at t at)))

-- ---- what the code answers: where the text ends before `at`, and where a line begins there

module _ (t : List ℕ) (at : ℕ) {l : LineEnd} (e : l ≡ line_from t at) where
  pub front_none : length t ≤ at → record { from = at; to = at; next = l.next; opens = false; closes = false } ≡ front_of t at
  unfolding front_of opens_at trim_range run trim trim_start trim_end ends_in_close
  front_none h = rw (e, line_none t at h, add-zero at)

  module _ (h : at < length t) where
    pub front_to : (at ≤ l.to) × (l.to ≤ length t)
    front_to = rw e (to_from t at, to_le t at h)

    module _ {r : Range} (q : r ≡ trim_range (take (l.to - at) (drop at t))) where
      is_range : r ≡ trim_range (line_at t at)
      is_range = rw (← slice_part at l.to t, e, ← line_is t at) at q

      pub front_fits : (r.from ≤ r.to) × (at + r.to ≤ length t)
      front_fits =
          let k : length (line_at t at) ≡ (line_from t at).to - at = rw (line_is t at) (length-slice at (line_from t at).to t (to_le t at h)) in
          rw is_range (trim_from (line_at t at), omega (arith, k, trim_to (line_at t at), to_le t at h))

      trimmed_is : take (at + r.to - (at + r.from)) (drop (at + r.from) t) ≡ trim (line_at t at)
      trimmed_is =
          rw (← slice_part (at + r.from) (at + r.to) t, is_range) (line_slice t at h)

      pub front_is : {o c : Bool} → o ≡ begins_open (take (at + r.to - (at + r.from)) (drop (at + r.from) t))
          → c ≡ ends_in_close (take (at + r.to - (at + r.from)) (drop (at + r.from) t))
          → record { from = at + r.from; to = at + r.to; next = l.next; opens = o; closes = c } ≡ front_of t at
      unfolding front_of opens_at
      front_is x y = rw (x, y, trimmed_is, is_range, e, opens-trim)

-- ---- what is known of a line whose front the code has as f

module _ (t : List ℕ) (at : ℕ) {f : Front} (p : f ≡ front_of t at) {b : Bool} where
  pub opens_by : f.opens ≡ b → opens_at t at ≡ b
  unfolding front_of
  opens_by e = rw p at e

  pub closes_by : f.closes ≡ b → (front_of t at).closes ≡ b
  closes_by e = rw p at e

-- its range has the trimmed line, where it opens with a brace
pub front_slice : (t : List ℕ) (at : ℕ) → opens_at t at ≡ true → slice (front_of t at).from (front_of t at).to t ≡ trim (line_at t at)
unfolding front_of opens_at trim trim_start trim_end
front_slice t at o = go (ltb at (length t)) refl
  where
    go : (b : Bool) → ltb at (length t) ≡ b → slice (at + (trim_range (line_at t at)).from) (at + (trim_range (line_at t at)).to) t ≡ trim (line_at t at)
    go true e = line_slice t at (ltb-true at (length t) e)
    go false e = contra false (rw (line_none t at (ltb-false at (length t) e)) at o) refl

-- ---- the first byte of the whole line
module _ (t : List ℕ) (at : ℕ) where
  pub no_indent : length t ≤ at → false ≡ begins_indented (line_at t at)
  no_indent h = rw (line_none t at h)

  pub indent_is : at < length t → is_indent (get_or t at 0) ≡ begins_indented (line_at t at)
  unfolding is_indent is_in
  indent_is h = rw (drop-cons t at 0 h, first_cons) (go (eqb b 10) refl (is_dropped b s) refl)
    where
      b : ℕ
      b = get_or t at 0

      s : List ℕ
      s = drop (suc at) t

      go : (x : Bool) → eqb b 10 ≡ x → (y : Bool) → is_dropped b s ≡ y → is_indent b ≡ begins_indented (cond x [] (cond y [] (b ∷ first_of (lines s))))
      go true e y p = ap is_indent (eqb-true b 10 e)
      go false e true p = ap is_indent (eqb-true b 13 (both (eqb b 13) (before_lf s) p).0)
      go false e false p = refl
