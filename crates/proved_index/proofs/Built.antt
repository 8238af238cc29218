-- What is built is of the form, and is read as it was built.
-- Assumes nothing.
use Rattle.std.specs.Prelude.{Err, Ok, Result}
use mathlib.Core.Path.{◌≡◌, refl, sym, ap}
use mathlib.Core.Bool.{Bool, true, false, cond}
use mathlib.Core.List.{List, [], ◌∷◌, ◌++◌, flat_map}
use Prim.Native.Nat.{ℕ, suc, ◌+◌, ◌≤◌}
use native.Mathlib.Omega.{arith}
use borrow.Author.Tests.{le-ltb}
use lib.Dec.{ltb}
use lib.ListN.{length}
use Rattle.base_lists.proofs.Scan.{both}
use Rattle.base_refusals.specs.Numbers.{max_text}
use Rattle.base_refusals.specs.Numbers as numbers
use Rattle.base_refusals.specs.Orders.{Ground, in_order, order_no}
use Rattle.base_refusals.specs.declared.Refusal.{Refusal}
use Rattle.base_refusals.specs.declared.Refusal.TheVariants.{JoinFull}
use Rattle.block_grammar.specs.Close.{no_lf}
use Rattle.text_checks.specs.Check.{text_order, check_of, is_text}
use Rattle.text_checks.proofs.Texts.{text_short, passed}
use Rattle.set_table.specs.Types.{Texts, value_bytes}
use Rattle.set_table.specs.Rows.{Ident, rows_in}
use Rattle.set_table.specs.declared.Attrs.{Attrs}
use Rattle.set_values.specs.Values.{text_ok, value_ok, ident_ok}
use Rattle.read_blocks.specs.Blocks.{lines_of, texts_in, filled_found, block_of}
use Rattle.read_lengths.specs.Lengths.{flush_left}
use Rattle.run_lines.specs.Runs.{past_lines}
use Rattle.proved_sets.proofs.WellFormedShape.{decides}
use Rattle.proved_reading.specs.HandedSets.{SetFormed}
use Rattle.proved_reading.proofs.BlockSets.{found_ok_lem}
use Rattle.proved_sheets.specs.Order.{Stands, InOrder}
use Rattle.proved_sheets.proofs.Order.{sheet_in_order}
use Rattle.sheet_blocks.specs.Sheets.{Try, is_block, blocks_of}
use Rattle.sheet_blocks.proofs.Tries.{flush_by}
use Rattle.sheet_verdicts.specs.Verdicts.{verdict_at}
use Rattle.sheet_records.specs.Records.{no_id, an_id, Record, InBounds, AllIn, id_fits, index_version, index_header, index_text, row_at, rows_at, index_rows, table_numbers, IsIndex}
use Rattle.sheet_records.specs.Listed.{id_of, record_of, listed_if, added_of, records_of}
use Rattle.sheet_records.specs.Writing.{table_size}
use Rattle.sheet_records.specs.Computed.{rows, is_other, read_index}
use Rattle.sheet_index.specs.Building.{sheet_order, room_for, form_order, build_order, built_of, built_text, built_table, count_order, counted_of, counted_table}
use Rattle.proved_index.specs.Built.{SheetInRange, BuiltIsIndex, BuiltPasses, BuiltIsRead}
use Rattle.proved_index.proofs.Form.{index_is_read, read_own}

-- ---- an id of a set handed out has no LF

id_flat : (t : Texts) (a : Attrs) → ident_ok t (rows_in a).ident ≡ true → id_fits (id_of t a)
unfolding rows_in id_of value_ok no_lf
id_flat t a e = go a.given e
  where
    go : (x : Bool) → ident_ok t (cond x (Ident.given a.id) Ident.missing) ≡ true → id_fits (cond x (an_id (value_bytes t a.id)) no_id)
    go true h = (both (text_ok t a.id.text) (no_lf (value_bytes t a.id)) h).1
    go false h = tt

-- ---- the records of a sheet are in range

module _ (t : List ℕ) (h : is_text t ≡ true) where
  set_formed : (at : ℕ) → is_block (flush_left t max_text at) ≡ true → SetFormed t at (flush_left t max_text at)
  set_formed at = flush_by (λ f. is_block f ≡ true → SetFormed t at f) t at max_text (λ e. let z : ◌≡◌ {A = ℕ} 0 1 = cc in absurd (omega arith)) (λ e. found_ok_lem t h at 0 max_text)

  block_fits : {n at : ℕ} (x : Try) → Stands t max_text n at x → 1 ≤ n → n ≤ at + 1 → InBounds (record_of t x)
  unfolding record_of block_of
  block_fits {n} {at} x w f g =
      let l = text_short t h in
      let b : is_block (flush_left t max_text x.at) ≡ true = rw w.found at w.is in
      record {
        line_from = omega (arith, w.number);
        line_to = omega (arith, l, w.number, w.order, w.some, w.bytes, w.inside);
        count_from = omega (arith, w.some);
        count_to = omega (arith, l, w.bytes, w.inside);
        offset_to = omega (arith, l, w.bytes, w.inside);
        id_fits_lem = id_flat (texts_in t x.found) (filled_found t x.at x.found).set (rw w.found ((decides _ _).0 (set_formed x.at b)).ident);
      }

  added-fits : (x : Try) (rs : List Record) → InBounds (record_of t x) → AllIn rs → AllIn (added_of t x ++ rs)
  unfolding added_of AllIn
  added-fits x rs w v = go (verdict_at t x)
    where
      go : (o : Result (Unit {0}) Refusal) → AllIn (listed_if (record_of t x) o ++ rs)
      go (Ok _) = (w, v)
      go (Err q) = v

  all_fit : (xs : List Try) (n at : ℕ) → InOrder t max_text n at xs → 1 ≤ n → n ≤ at + 1 → AllIn (flat_map (added_of t) xs)
  unfolding InOrder AllIn flat_map
  all_fit [] n at w f g = tt
  all_fit (x ∷ xs) n at (w, v) f g =
      added-fits x (flat_map (added_of t) xs) (block_fits x w f g)
      (all_fit xs (x.line + lines_of x.found) (past_lines (lines_of x.found) t x.at) v (omega (arith, w.number)) (omega (arith, w.number, w.order, w.bytes)))

pub sheet_in_range : SheetInRange
unfolding records_of
sheet_in_range t h = all_fit t h (blocks_of t) 1 0 (sheet_in_order t (text_short t h)) (omega arith) (omega arith)

-- ---- where something was built, no ground of the order holds

clear_records : (gs : List Ground) (a b k m : ℕ) → in_order {A = Result (ℕ × ℕ) Refusal} Err gs (Ok (a, b)) ≡ Ok (k, m) → a ≡ k
unfolding in_order
clear_records [] a b k m e = ap (λ (o : Result (ℕ × ℕ) Refusal). elim o [ Ok p ↦ p.0 | Err r ↦ a ]) e
clear_records (Ground.given q true ∷ gs) a b k m e = let z : ◌≡◌ {A = ℕ} 0 1 = cc in absurd (omega arith)
clear_records (Ground.given q false ∷ gs) a b k m e = clear_records gs a b k m e
clear_records (Ground.lacking q true ∷ gs) a b k m e = clear_records gs a b k m e
clear_records (Ground.lacking q false ∷ gs) a b k m e = let z : ◌≡◌ {A = ℕ} 0 1 = cc in absurd (omega arith)

clear : {A : Type 0} (f : Refusal → A) (x : A) (gs : List Ground) (a b k m : ℕ) → in_order {A = Result (ℕ × ℕ) Refusal} Err gs (Ok (a, b)) ≡ Ok (k, m) → in_order f gs x ≡ x
unfolding in_order
clear f x [] a b k m e = refl
clear f x (Ground.given q true ∷ gs) a b k m e = let z : ◌≡◌ {A = ℕ} 0 1 = cc in absurd (omega arith)
clear f x (Ground.given q false ∷ gs) a b k m e = clear f x gs a b k m e
clear f x (Ground.lacking q true ∷ gs) a b k m e = clear f x gs a b k m e
clear f x (Ground.lacking q false ∷ gs) a b k m e = let z : ◌≡◌ {A = ℕ} 0 1 = cc in absurd (omega arith)

-- what stands in front of an order that is clear is clear
front_clear : (gs hs : List Ground) → in_order Err (gs ++ hs) numbers.passed ≡ numbers.passed → in_order Err gs numbers.passed ≡ numbers.passed
unfolding in_order
front_clear [] hs e = refl
front_clear (Ground.given q true ∷ gs) hs e = e
front_clear (Ground.given q false ∷ gs) hs e = front_clear gs hs e
front_clear (Ground.lacking q true ∷ gs) hs e = front_clear gs hs e
front_clear (Ground.lacking q false ∷ gs) hs e = e

rows_long : (at : ℕ) (rs : List Record) → length (rows_at at rs) ≡ length rs
unfolding rows_at
rows_long at [] = refl
rows_long at (r ∷ rs) = ap suc (rows_long (row_at at r).next rs)

index_long : (rs : List Record) → length (index_rows rs) ≡ length rs
unfolding index_rows
index_long rs = rows_long (length index_header) rs

module _ (t : List ℕ) (cap n size k m : ℕ) (e : built_of t cap n size ≡ Ok (k, m)) where
  few : length (records_of t) ≡ k
  unfolding built_of
  few = clear_records (build_order t cap n size) (length (records_of t)) (length (index_text (records_of t))) k m e

  none : {A : Type 0} (f : Refusal → A) (x : A) → in_order f (build_order t cap n size) x ≡ x
  unfolding built_of
  none f x = clear f x (build_order t cap n size) (length (records_of t)) (length (index_text (records_of t))) k m e

  a_text : is_text t ≡ true
  unfolding check_of build_order sheet_order
  a_text = sym (passed t refl (front_clear (text_order t) (Ground.given JoinFull (ltb cap max_text) ∷ []) (front_clear (sheet_order t cap) (room_for n size (records_of t)) (none Err (Ok tt)))))

  text_is : built_text t cap n size ≡ index_text (records_of t)
  unfolding built_text
  text_is = none (λ r. []) (index_text (records_of t))

  table_is : built_table t cap n size ≡ table_numbers (index_rows (records_of t))
  unfolding built_table
  table_is = none (λ r. []) (table_numbers (index_rows (records_of t)))

  of_form : IsIndex (built_text t cap n size) (records_of t)
  of_form = record { in_range = sheet_in_range t a_text; text = text_is }

  is_read : read_index (built_text t cap n size) ≡ rows (index_rows (records_of t))
  is_read = (index_is_read (built_text t cap n size) (records_of t) of_form).0

  is_own : is_other index_version (built_text t cap n size) ≡ false
  is_own = read_own (built_text t cap n size) is_read

  never : order_no (form_order (built_text t cap n size)) ≡ 0
  unfolding order_no in_order
  never = rw (is_own, is_read)

  module _ (p : ℕ) (g : k ≤ table_size p) where
    counted_so : counted_of (built_text t cap n size) p ≡ Ok k
    unfolding counted_of count_order in_order
    counted_so = rw (is_own, is_read, index_long (records_of t), few, le-ltb (table_size p) k g)

    table_so : counted_table (built_text t cap n size) p ≡ built_table t cap n size
    unfolding counted_table count_order in_order
    table_so = rw (is_own, is_read, index_long (records_of t), few, le-ltb (table_size p) k g) (sym table_is)

pub built_is_index : BuiltIsIndex
built_is_index = of_form

pub built_passes : BuiltPasses
built_passes = never

pub built_is_read : BuiltIsRead
built_is_read t cap n size k m p e g = (counted_so t cap n size k m e p g, table_so t cap n size k m e p g)
