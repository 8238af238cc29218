-- A width's range lies on character boundaries, and a width is set exactly where its list has a piece.
-- Assumes nothing.
use Rattle.std.specs.Prelude.{None, Option, Some}
use mathlib.Core.Path.{◌≡◌, refl, sym, ◌∙◌}
use mathlib.Core.Bool.{Bool, true, false, cond, ◌&&◌}
use mathlib.Core.List.{List, [], ◌∷◌, map}
use Prim.Native.Nat.{ℕ, zero, suc, ◌+◌, ◌<◌, ◌≤◌}
use native.Mathlib.Nat.{add-zero}
use native.Mathlib.Omega.{arith}
use borrow.Author.Tests.{leb-true, le-leb, ltb-true}
use lib.Dec.{leb}
use lib.ListN.{length, get_or, take}
use lib.Seq.{slice, get_or-take, get_or-drop}
use Rattle.base_lists.specs.Lists.{all, same}
use Rattle.base_lists.proofs.Each.{all_at}
use Rattle.base_lists.proofs.Parts.{part_end}
use Rattle.base_lists.proofs.Scan.{both}
use Rattle.text_utf8.specs.Computed.{is_utf8}
use Rattle.text_utf8.specs.Utf8.{is_boundary}
use Rattle.block_grammar.specs.Meaning.{PieceAt}
use Rattle.block_grammar.specs.Close.{no_lf}
use Rattle.set_table.specs.Types.{Texts, text_at, range_bytes, zero_row, name_bytes, value_bytes}
use Rattle.set_table.specs.Rows.{Rows, rows_in}
use Rattle.set_table.specs.Shape.{is_present}
use Rattle.set_table.specs.declared.Attrs.{Attrs}
use Rattle.set_table.specs.declared.Origin.{Origin}
use Rattle.set_table.specs.declared.Slot.{Slot}
use Rattle.set_table.specs.declared.Slot.TheVariants.{Id, Class, Key}
use Rattle.set_table.specs.declared.Text as texts
use Rattle.set_table.specs.declared.Text.TheVariants as text
use Rattle.set_values.specs.Values.{range_ok, text_ok, value_ok, key_ok}
use Rattle.set_wellformed.specs.WellFormed.{well_formed}
use Rattle.set_wellformed.proofs.Shape.{Passed, table_passed, slots_named, keyed}
use Rattle.set_keyed.specs.Keyed.{slot_found, or_keyed, first_by, key_in, key_found}
use Rattle.set_commas.specs.Commas.{cuts_of}
use Rattle.set_commas.specs.Rules.{Parted}
use Rattle.set_commas.proofs.Only.{cuts_order}
use Rattle.set_columns.specs.declared.Width.TheVariants as width
use Rattle.set_columns.specs.Columns.{width_at, widths_by, found_widths}
use Rattle.proved_texts.proofs.Utf8Boundaries.{before_ascii, after_ascii}
use Rattle.proved_sets.proofs.WellFormedShape.{formed_parts}
use Rattle.proved_sets.proofs.MeansUtf8.{text_utf8}
use Rattle.proved_columns.specs.Columns.{is_unset, width_ok}
use Rattle.set_table.specs.declared.Value.{Value}

-- ---- set where the list has a piece
set_at : (o : Origin) (base : ℕ) (rs : List PieceAt) (k : ℕ) → k < length (map (width_at o base) rs) → is_unset (get_or (map (width_at o base) rs) k None) ≡ false
set_at o base [] k h = absurd (omega arith)
set_at o base (r ∷ rs) zero h = refl
set_at o base (r ∷ rs) (suc k) h = set_at o base rs k (omega (arith, h))

pub widths_set : (t : Texts) (f : Option Value) (k : ℕ) → k < length (found_widths t f) → is_unset (get_or (found_widths t f) k None) ≡ false
unfolding found_widths
widths_set t None k h = absurd (omega arith)
widths_set t (Some v) k h = go v.text k h
  where
    go : (x : texts.Text) (k : ℕ) → k < length (widths_by t x) → is_unset (get_or (widths_by t x) k None) ≡ false
    go (text.Plain o from to) k h = set_at o from (cuts_of false (range_bytes t o from to)) k h
    go (text.Quoted o from to) k h = set_at o from (cuts_of true (range_bytes t o from to)) k h
    go text.Empty zero h = refl
    go text.Empty (suc k) h = absurd (omega arith)

-- ---- the ranges of a value that lies on boundaries
module _ (t : Texts) (o : Origin) (base upto : ℕ) (u : is_utf8 (text_at t o) ≡ true) (h : base ≤ upto) (l : upto ≤ length (text_at t o))
    (x : is_boundary (text_at t o) base ≡ true) (y : is_boundary (text_at t o) upto ≡ true) where
  abbrev w : List ℕ
  w = text_at t o

  long : base + length (slice base upto w) ≡ upto
  long = part_end w base upto h l

  -- an ASCII byte of the value, before and behind which a character ends
  module _ (i b : ℕ) (k : i < length (slice base upto w)) (e : get_or (slice base upto w) i 0 ≡ b) (low : b ≤ 0x7F) where
    byte : get_or w (base + i) 0 ≡ b
    byte = sym (get_or-drop base (take upto w) i 0 ∙ get_or-take upto w (base + i) 0 (omega (arith, long))) ∙ e

    before : is_boundary w (base + i) ≡ true
    before = before_ascii w (base + i) (omega (arith, long)) (rw byte low)

    behind : (n : ℕ) → n ≡ i + 1 → is_boundary w (base + n) ≡ true
    behind n e = let m : base + n ≡ base + i + 1 = omega (arith, e) in rw m (after_ascii w (base + i) (omega (arith, long)) (rw byte low) u)

  range_ok_lem : (from to : ℕ) → from ≤ to → is_boundary w (base + from) ≡ true → is_boundary w (base + to) ≡ true → range_ok t o (base + from) (base + to) ≡ true
  unfolding range_ok
  range_ok_lem from to h a b = rw (le-leb (base + from) (base + to) (omega arith), a, b)

  ranges_ok : (q : Bool) {from : ℕ} {rs : List PieceAt} → Parted q (slice base upto w) from rs → is_boundary w (base + from) ≡ true → (k : ℕ) → width_ok t (get_or (map (width_at o base) rs) k None) ≡ true
  ranges_ok q (Parted.last {from} h) a zero = range_ok_lem from (length (slice base upto w)) h.ordered a (rw long y)
  ranges_ok q (Parted.last {from} h) a (suc k) = refl
  ranges_ok q (Parted.comma {from} {to} {rs} h l e p) a zero = range_ok_lem from to h.piece.ordered a (before to 44 l e (omega arith))
  ranges_ok q (Parted.comma {from} {to} {rs} h l e p) a (suc k) = ranges_ok q p (behind to 44 l e (omega arith) (to + 1) refl) k
  ranges_ok q (Parted.escaped {from} {to} {rs} z h l d e p) a zero = range_ok_lem from to h.piece.ordered a (before to 92 (omega (arith, l)) d (omega arith))
  ranges_ok q (Parted.escaped {from} {to} {rs} z h l d e p) a (suc k) = ranges_ok q p (behind (to + 1) 44 l e (omega arith) (to + 2) (omega arith)) k

  pub value_ok_lem : (q : Bool) (k : ℕ) → width_ok t (get_or (map (width_at o base) (cuts_of q (slice base upto w))) k None) ≡ true
  value_ok_lem q k = ranges_ok q (cuts_order q (slice base upto w)) (rw (add-zero base) x) k

-- ---- the value that was found is one of a row
abbrev found_ok : Texts → Option Value → Bool
found_ok t None = true
found_ok t (Some v) = value_ok t v

or_ok : (t : Texts) (a b : Option Value) → found_ok t a ≡ true → found_ok t b ≡ true → found_ok t (or_keyed a b) ≡ true
or_ok t None b x y = y
or_ok t (Some v) b x y = x

module _ (t : Texts) (s : Rows) (p : Passed t s) (n : List ℕ) where
  slot_ok : (x : Slot) → is_present s x ≡ true → found_ok t (slot_found t s.keys n x) ≡ true
  unfolding slot_found
  slot_ok Id h = refl
  slot_ok Class h = refl
  slot_ok (Key k) h = go (same (name_bytes t (get_or s.keys k zero_row).name) n)
    where
      go : (b : Bool) → found_ok t (cond b (Some (get_or s.keys k zero_row).value) None) ≡ true
      go true = (keyed (all_at (key_ok t) zero_row s.keys p.keys k (ltb-true k (length s.keys) h))).value
      go false = refl

  first_ok : (xs : List Slot) → all (is_present s) xs ≡ true → found_ok t (first_by (slot_found t s.keys n) xs) ≡ true
  unfolding first_by all
  first_ok [] h = refl
  first_ok (x ∷ xs) h =
      let z = both (is_present s x) (all (is_present s) xs) h in
      or_ok t (slot_found t s.keys n x) (first_by (slot_found t s.keys n) xs) (slot_ok x z.0) (first_ok xs z.1)

module _ (t : Texts) (a : Attrs) (e : well_formed t a ≡ true) where
  found_ok_lem : (n : List ℕ) → found_ok t (key_found t a n) ≡ true
  unfolding key_found key_in
  found_ok_lem n = let p = table_passed t a (formed_parts t a e).2 in first_ok t (rows_in a) p n (rows_in a).order (slots_named (rows_in a) p.slots)

  text_ok_lem : (q : Bool) (o : Origin) (from to : ℕ) → range_ok t o from to ≡ true → (k : ℕ) → width_ok t (get_or (map (width_at o from) (cuts_of q (range_bytes t o from to))) k None) ≡ true
  unfolding range_ok is_boundary range_bytes
  text_ok_lem q o from to h k =
      let x = both (leb from to) (is_boundary (text_at t o) from && is_boundary (text_at t o) to) h in
      let y = both (is_boundary (text_at t o) from) (is_boundary (text_at t o) to) x.1 in
      let z = both (leb to (length (text_at t o))) _ y.1 in
      value_ok_lem t o from to (text_utf8 t a e o) (leb-true from to x.0) (leb-true to (length (text_at t o)) z.0) y.0 y.1 q k

  pub widths_ok : (n : List ℕ) (k : ℕ) → width_ok t (get_or (found_widths t (key_found t a n)) k None) ≡ true
  unfolding found_widths text_ok value_ok
  widths_ok n k = go (key_found t a n) (found_ok_lem n)
    where
      by : (x : texts.Text) (k : ℕ) → text_ok t x ≡ true → width_ok t (get_or (widths_by t x) k None) ≡ true
      by (text.Plain o from to) k h = text_ok_lem false o from to h k
      by (text.Quoted o from to) k h = text_ok_lem true o from to h k
      by text.Empty zero h = refl
      by text.Empty (suc k) h = refl

      go : (f : Option Value) → found_ok t f ≡ true → width_ok t (get_or (found_widths t f) k None) ≡ true
      go None h = refl
      go (Some v) h = by v.text k (both (text_ok t v.text) (no_lf (value_bytes t v)) h).0
