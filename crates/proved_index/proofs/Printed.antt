-- A look-up in a built index and in its sheet, and one over the rows that were read.
-- Assumes nothing.
use Rattle.std.specs.Prelude.{Err, Ok, Result}
use mathlib.Core.Path.{◌≡◌, refl, ◌∙◌, ap}
use mathlib.Core.Bool.{Bool, true, false, cond, not, ◌&&◌}
use mathlib.Core.List.{List, [], ◌∷◌, ◌++◌, flat_map}
use Prim.Native.Nat.{ℕ, suc}
use native.Mathlib.Omega.{arith}
use borrow.Author.Tests.{le-ltb}
use lib.Dec.{ltb}
use lib.ListN.{length, drop}
use Rattle.base_lists.specs.Lists.{all, over}
use Rattle.base_lists.proofs.Same.{same_refl, same_true}
use Rattle.base_lists.proofs.More.{all_parts}
use Rattle.base_lists.proofs.Scan.{both, all_append}
use Rattle.base_refusals.specs.Orders.{in_order}
use Rattle.base_refusals.specs.declared.Refusal.TheVariants.{NotAnIndex, TableFull, AnotherVersion}
use Rattle.read_blocks.specs.Blocks.{texts_in, filled_found}
use Rattle.sheet_blocks.specs.Sheets.{Try, blocks_of}
use Rattle.sheet_verdicts.specs.Verdicts.{verdict_at}
use Rattle.sheet_records.specs.Records.{RecordId, no_id, an_id, Record, index_version, table_numbers}
use Rattle.sheet_records.specs.Listed.{id_of, record_of, added_of, records_of}
use Rattle.sheet_records.specs.Writing.{table_size}
use Rattle.sheet_records.specs.Computed.{Index, not_index, rows, is_other, read_index, record_in}
use Rattle.sheet_records.specs.declared.IndexRow.{IndexRow}
use Rattle.sheet_index.specs.Building.{count_order, counted_of, counted_table}
use Rattle.sheet_index.specs.Finding.{is_id, has_id, first_with, records_by, find_record, table_rows, find_row}
use Rattle.proved_index.specs.Lookups.{lacks_id, PrintedWith, MissesNoBlock, RowsAnswer}
use Rattle.proved_index.proofs.Found.{misses_exactly}
use Rattle.proved_index.proofs.Built.{built_is_index}
use Rattle.base_refusals.specs.declared.Refusal.{Refusal}

-- ---- the blocks of a sheet

is_same : (i : RecordId) (id : List ℕ) → is_id i id ≡ true → i ≡ an_id id
is_same no_id id e = let z : ◌≡◌ {A = ℕ} 0 1 = cc in absurd (omega arith)
is_same (an_id s) id e = ap an_id (same_true s id e)

module _ (t id : List ℕ) where
  -- a printed block with the id isn't lacking
  lacks_none : (xs front : List Try) (x : Try) (behind : List Try) → xs ≡ front ++ (x ∷ behind) → verdict_at t x ≡ Ok tt
      → id_of (texts_in t x.found) (filled_found t x.at x.found).set ≡ an_id id → lacks_id id (flat_map (added_of t) xs) ≡ true → ⊥
  unfolding flat_map added_of record_of all
  lacks_none xs [] x behind s p i e =
      let l : not (is_id (an_id id) id) && all (λ r. not (has_id id r)) (flat_map (added_of t) behind) ≡ true = rw (s, p, i) at e in
      let z = (both (not (is_id (an_id id) id)) (all (λ r. not (has_id id r)) (flat_map (added_of t) behind)) l).0 in
      let w : false ≡ true = rw (same_refl id) at z in
      let y : ◌≡◌ {A = ℕ} 0 1 = cc in absurd (omega arith)
  lacks_none xs (y ∷ front) x behind s p i e =
      lacks_none (front ++ (x ∷ behind)) front x behind refl p i (all_parts (λ r. not (has_id id r)) (added_of t y) (flat_map (added_of t) (front ++ (x ∷ behind))) (rw s at e)).1

  later : {x : Try} {xs : List Try} → (PrintedWith t id (x ∷ xs) → ⊥) → PrintedWith t id xs → ⊥
  later {x} {xs} n w = n (record { block = w.block; front = x ∷ w.front; behind = w.behind; stands = ap (λ (l : List Try). x ∷ l) w.stands; printed = w.printed; has = w.has })

  -- where no printed block has the id, no record of them has it
  none_lacks : (xs : List Try) → (PrintedWith t id xs → ⊥) → lacks_id id (flat_map (added_of t) xs) ≡ true
  unfolding flat_map added_of record_of all
  none_lacks [] n = refl
  none_lacks (x ∷ xs) n = all_append (λ r. not (has_id id r)) (added_of t x) (flat_map (added_of t) xs) (go (verdict_at t x) refl) (none_lacks xs (later n))
    where
      has_not : (b : Bool) → has_id id (record_of t x) ≡ b → verdict_at t x ≡ Ok tt → (not b && true) ≡ true
      has_not true h p = absurd (n (record { block = x; front = []; behind = xs; stands = refl; printed = p; has = is_same (record_of t x).id id h }))
      has_not false h p = refl

      go : (o : Result (Unit {0}) Refusal) → verdict_at t x ≡ o → all (λ r. not (has_id id r)) (added_of t x) ≡ true
      go (Ok _) p = rw p (has_not (has_id id (record_of t x)) refl p)
      go (Err q) p = rw p

pub misses_no_block : MissesNoBlock
unfolding records_of
misses_no_block t id cap n size k m e =
    let w = misses_exactly _ id (records_of t) (built_is_index t cap n size k m e) in
    (λ f p. lacks_none t id (blocks_of t) p.front p.block p.behind p.stands p.printed p.has (w.0 f), λ f. w.1 (none_lacks t id (blocks_of t) f))

-- ---- the rows that were read

rows_none : (s : List ℕ) → table_rows 0 s ≡ []
unfolding table_rows
rows_none s = refl

rows_first : (n l c o f p : ℕ) (s : List ℕ) → table_rows (suc n) (l ∷ c ∷ o ∷ f ∷ p ∷ s) ≡ record { line = l; count = c; offset = o; from = f; to = p; next = 0 } ∷ table_rows n s
unfolding table_rows
rows_first n l c o f p s = rw (le-ltb (length (l ∷ c ∷ o ∷ f ∷ p ∷ s)) 5 (omega arith))

rows_say : (t : List ℕ) (es : List IndexRow) (z : List ℕ) → records_by t (table_rows (length es) (table_numbers es ++ z)) ≡ records_by t es
unfolding table_numbers flat_map
rows_say t [] z = ap (records_by t) (rows_none (table_numbers [] ++ z))
rows_say t (e ∷ es) z = ap (records_by t) (rows_first (length es) e.line e.count e.offset e.from e.to (table_numbers es ++ z)) ∙ ap (λ (rs : List Record). record_in t e ∷ rs) (rows_say t es z)

rows_found : (t id table : List ℕ) (x : Index) (o : Bool) (k : ℕ) → read_index t ≡ x → is_other index_version t ≡ o → counted_of t (length table) ≡ Ok k
    → find_row t (over (counted_table t (length table)) table) k id ≡ find_record t id
unfolding counted_of counted_table count_order find_record find_row in_order
rows_found t id table x true k q p e = let f : Err AnotherVersion ≡ Ok k = rw p at e in let z : ◌≡◌ {A = ℕ} 0 1 = cc in absurd (omega arith)
rows_found t id table (not_index r) false k q p e = let f : Err NotAnIndex ≡ Ok k = rw (p, q) at e in let z : ◌≡◌ {A = ℕ} 0 1 = cc in absurd (omega arith)
rows_found t id table (rows es) false k q p e = rw (p, q) (go (ltb (table_size (length table)) (length es)) refl (rw (p, q) at e))
  where
    go : (b : Bool) → ltb (table_size (length table)) (length es) ≡ b → cond b (Err TableFull) (Ok (length es)) ≡ Ok k
        → first_with id (records_by t (table_rows k (over (cond b [] (table_numbers es)) table))) ≡ first_with id (records_by t es)
    go true l f = let z : ◌≡◌ {A = ℕ} 0 1 = cc in absurd (omega arith)
    go false l f = let z : length es ≡ k = cc in rw (← z) (ap (first_with id) (rows_say t es (drop (length (table_numbers es)) table)))

pub rows_answer : RowsAnswer
rows_answer t id table k e = rows_found t id table (read_index t) (is_other index_version t) k refl refl e
