-- The counts of a block's set are those of what it lists.
-- Assumes nothing.
use Rattle.std.specs.Prelude.{Err, Ok, Result}
use mathlib.Core.Path.{◌≡◌, refl, sym, ◌∙◌}
use mathlib.Core.Bool.{Bool, true, false, cond, ◌&&◌}
use mathlib.Core.List.{List, [], ◌∷◌, map}
use Prim.Native.Nat.{ℕ, ◌-◌, ◌≤◌, zero-le}
use native.Mathlib.Omega.{arith}
use lib.ListN.{length, take, drop, length-append, length-map, length-take, length-drop, replicate}
use lib.Seq.{length-take-le}
use Rattle.base_lists.proofs.Scan.{both}
use Rattle.base_lists.specs.Lists.{all}
use Rattle.base_bytes.specs.declared.Mode.TheVariants.{Loose}
use Rattle.base_refusals.specs.Numbers.{max_text}
use Rattle.base_refusals.specs.declared.Refusal.TheVariants.{NothingThere}
use Rattle.text_checks.specs.Check.{check_of, is_text}
use Rattle.text_checks.proofs.Texts.{passed}
use Rattle.text_lines.specs.Lines.{line_at, ranges}
use Rattle.block_trimmed_line.specs.Fronts.{front_of, begins_indented}
use Rattle.proved_grammar.specs.Meaning.{distinct}
use Rattle.set_table.specs.Types.{Texts, empty_set, max_classes, max_keys, zero_value, zero_row}
use Rattle.set_table.specs.Rows.{Rows, padded, table_of, rows_in, listed_of}
use Rattle.set_table.specs.declared.Attrs.{Attrs}
use Rattle.set_table.specs.declared.Filled.{Filled}
use Rattle.set_exchange.specs.Exchange.{firsts_by, exchanged}
use Rattle.set_fill.specs.Fill.{chain_at}
use Rattle.set_wellformed.specs.WellFormed.{table_ok, well_formed}
use Rattle.set_wellformed.proofs.Shape.{shaped}
use Rattle.read_blocks.specs.Blocks.{Found, nothing, texts_in, filled_found, block_of, found}
use Rattle.read_lengths.specs.Lengths.{flush_left}
use Rattle.sheet_blocks.specs.Sheets.{Try, tries_from}
use Rattle.sheet_tally.specs.Counts.{tries_by, tries_in}
use Rattle.proved_sets.specs.Formed.{wf, entry_ok}
use Rattle.proved_sets.specs.HandedOut.{Settled}
use Rattle.proved_sets.specs.Limits.{class_count, key_count}
use Rattle.proved_sets.proofs.Counts.{class_rows, key_rows}
use Rattle.proved_sets.proofs.WellFormedMeans.{lists_wf}
use Rattle.proved_sets.proofs.Settled.{chain_settled}
use Rattle.proved_origins.proofs.Checks.{empty_text}
use Rattle.proved_reading.specs.HandedSets.{SetFormed}
use Rattle.proved_reading.proofs.BlockSets.{found_ok_lem, none_ok}
use Rattle.proved_sheets.specs.Order.{Each}
use Rattle.proved_tally.specs.Listed.{AsListed, CountsListed}
use Rattle.proved_tally.proofs.Sheets.{tries-found}
use Rattle.base_refusals.specs.declared.Refusal.{Refusal}

-- ---- a set has its rows

record Holds (a : Attrs) : Type 0 where
  pub classes : a.nclass ≤ length a.classes
  pub keys : a.nkey ≤ length a.keys

padded_long : {A : Type 0} (n : ℕ) (z : A) (xs : List A) → length xs ≤ length (padded n z xs)
unfolding padded
padded_long n z xs = omega (arith, length-append xs (replicate (n - length xs) z))

firsts_long : {A : Type 0} (f : A → A) (n : ℕ) (xs : List A) → length (firsts_by f n xs) ≡ length xs
unfolding firsts_by
firsts_long f n xs = omega (arith, length-append (map f (take n xs)) (drop n xs), length-map (take n xs) f, length-take n xs, length-drop n xs)

exchanged_holds : (a : Attrs) → Holds a → Holds (exchanged a)
unfolding exchanged
exchanged_holds a h = record { classes = rw firsts_long h.classes; keys = rw firsts_long h.keys }

empty_holds : Holds empty_set
empty_holds = record { classes = zero-le; keys = zero-le }

table_holds : (s : Rows) → Holds (table_of s)
unfolding table_of
table_holds s = record { classes = padded_long max_classes zero_value s.classes; keys = padded_long max_keys zero_row s.keys }

settled_holds : {f : Filled} → Settled f → Holds f.set
settled_holds (Settled.refused r) = empty_holds
settled_holds (Settled.done s) = table_holds s

found_holds : (t : List ℕ) (at : ℕ) (f : Found) → Holds (filled_found t at f).set
found_holds t at Found.line = settled_holds (chain_settled Loose t (front_of t at).from (front_of t at).to)
found_holds t at (Found.run r) = exchanged_holds (chain_at Loose r.text 0 (length r.text)).set (settled_holds (chain_settled Loose r.text 0 (length r.text)))
found_holds t at (Found.none q x n) = empty_holds

-- ---- a well-formed set lists as many as it counts

module _ (t : Texts) (a : Attrs) (e : table_ok t a ≡ true) (h : Holds a) where
  class_listed : a.nclass ≡ class_count (listed_of t a)
  unfolding listed_of rows_in
  class_listed = sym (class_rows (shaped t a e) ∙ length-take-le a.nclass a.classes h.classes)

  key_listed : a.nkey ≡ key_count (listed_of t a)
  unfolding listed_of rows_in wf
  key_listed = sym (key_rows (shaped t a e) (both (all entry_ok (listed_of t a)) (distinct (listed_of t a)) (lists_wf t a e)).1 ∙ length-take-le a.nkey a.keys h.keys)

-- ---- of each try of a sheet

module _ (t : List ℕ) (x : is_text t ≡ true) where
  flush_ok : (at : ℕ) → SetFormed t at (flush_left t max_text at)
  unfolding flush_left
  flush_ok at = go (begins_indented (line_at t at))
    where
      go : (b : Bool) → SetFormed t at (cond b (nothing NothingThere) (found t at 0 max_text))
      go true = none_ok t x at NothingThere [] 0 empty_text
      go false = found_ok_lem t x at 0 max_text

  formed_table : (u : Texts) (a : Attrs) → well_formed u a ≡ true → table_ok u a ≡ true
  unfolding well_formed
  formed_table u a e = (both (is_text u.second) (table_ok u a) (both (is_text u.first) (is_text u.second && table_ok u a) e).1).1

  as_listed : (y : Try) → y.found ≡ flush_left t max_text y.at → AsListed t y
  unfolding block_of
  as_listed y e =
      let a = (filled_found t y.at y.found).set in
      let k = formed_table (texts_in t y.found) a (rw e (flush_ok y.at)) in
      record { classes = class_listed (texts_in t y.found) a k (found_holds t y.at y.found); keys = key_listed (texts_in t y.found) a k (found_holds t y.at y.found) }

  each_listed : (ys : List Try) → Each (λ y. y.found ≡ flush_left t max_text y.at) ys → Each (AsListed t) ys
  unfolding Each
  each_listed [] h = h
  each_listed (y ∷ ys) (h, k) = (as_listed y h, each_listed ys k)

pub counts_listed : CountsListed
unfolding tries_in Each
counts_listed t = go (check_of t) refl
  where
    go : (o : Result (Unit {0}) Refusal) → check_of t ≡ o → Each (AsListed t) (tries_by t o)
    go (Err r) e = refl
    go (Ok _) e = each_listed t (sym (passed t refl e)) (tries_from t max_text 1 0 (ranges t)) (tries-found t max_text 1 0 (ranges t))
