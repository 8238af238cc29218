-- Records told one after the other: what they come to all together.
-- Assumes nothing.
use mathlib.Core.Path.{◌≡◌, refl, sym, ◌∙◌, ap}
use mathlib.Core.Bool.{Bool, true, false, ◌&&◌}
use mathlib.Core.List.{List, [], ◌∷◌, ◌++◌, flat_map}
use Prim.Native.Nat.{ℕ, ◌+◌, ◌*◌, ◌≤◌}
use native.Mathlib.Omega.{arith}
use borrow.Author.Tests.{le-leb, lt-ltb}
use lib.ListN.{length, length-append}
use lib.Seq.{sets, length-sets}
use Rattle.base_lists.proofs.Sets.{sets-append}
use Rattle.sheet_records.specs.Records.{Record, record_line, row_at, rows_at, row_numbers, table_numbers}
use Rattle.sheet_records.specs.Writing.{table_size, line_over, row_over}
use Rattle.sheet_records.proofs.Lines.{row_next}
use Rattle.sheet_index.specs.Inner.{lines_text}
use Rattle.sheet_stands.specs.Stands.{is_front, stands_at}
use Rattle.sheet_stands.proofs.Fronts.{stands_append}
use Rattle.sheet_mends.specs.Inner.{Telling, tell_one, tell_all}

module _ (index : List ℕ) where
  pub tell_append : (t : Telling) (xs ys : List Record) → tell_all index t (xs ++ ys) ≡ tell_all index (tell_all index t xs) ys
  unfolding tell_all
  tell_append t [] ys = refl
  tell_append t (x ∷ xs) ys = tell_append (tell_one index t x) xs ys

  -- whether the lines stand in the index from the place on, how many they are, and where they end
  pub tell_good : (t : Telling) (rs : List Record) → (tell_all index t rs).so.good ≡ (t.so.good && stands_at index t.so.next (lines_text rs))
  unfolding tell_all flat_map is_front
  tell_good t [] = right t.so.good
    where
      right : (p : Bool) → p ≡ (p && true)
      right true = refl
      right false = refl
  tell_good t (r ∷ rs) =
      tell_good (tell_one index t r) rs
      ∙ (and_assoc t.so.good (stands_at index t.so.next (record_line r)) (stands_at index (t.so.next + length (record_line r)) (lines_text rs))
      ∙ ap (λ (x : Bool). t.so.good && x) (sym (stands_append index t.so.next (record_line r) (lines_text rs))))
    where
      and_assoc : (p q r : Bool) → ((p && q) && r) ≡ (p && (q && r))
      and_assoc true q r = refl
      and_assoc false q r = refl

  pub tell_count : (t : Telling) (rs : List Record) → (tell_all index t rs).so.records ≡ t.so.records + length rs
  unfolding tell_all
  tell_count t [] = omega arith
  tell_count t (r ∷ rs) = tell_count (tell_one index t r) rs ∙ omega arith

  pub tell_next : (t : Telling) (rs : List Record) → (tell_all index t rs).so.next ≡ t.so.next + length (lines_text rs)
  unfolding tell_all flat_map
  tell_next t [] = omega arith
  tell_next t (r ∷ rs) = tell_next (tell_one index t r) rs ∙ omega (arith, length-append (record_line r) (lines_text rs))

  -- in a table that has seats for them, and a buffer that has room
  pub tell_table : (t : Telling) (rs : List Record) → t.so.records + length rs ≤ table_size (length t.table)
      → (tell_all index t rs).table ≡ sets t.table (t.so.records * 5) (table_numbers (rows_at t.so.next rs))
  unfolding tell_all flat_map row_over rows_at table_numbers
  tell_table t [] h = refl
  tell_table t (r ∷ rs) h =
      let at : ℕ = t.so.next in
      let k : ℕ = t.so.records in
      let s : List ℕ = row_numbers (row_at at r) in
      let a : row_over t.table k (row_at at r) ≡ sets t.table (k * 5) s = rw (lt-ltb k (table_size (length t.table)) (omega arith)) in
      let l : length (row_over t.table k (row_at at r)) ≡ length t.table = ap length a ∙ length-sets t.table (k * 5) s in
      let n : (k + 1) * 5 ≡ k * 5 + 5 = omega arith in
      let w : k + 1 + length rs ≤ table_size (length (row_over t.table k (row_at at r))) = rw l (omega arith) in
      tell_table (tell_one index t r) rs w ∙ rw (a, n, ← row_next at r) (sym (sets-append t.table (k * 5) s (table_numbers (rows_at (row_at at r).next rs))))

  pub tell_out : (t : Telling) (rs : List Record) → t.so.next + length (lines_text rs) ≤ length t.out
      → (tell_all index t rs).out ≡ sets t.out t.so.next (lines_text rs)
  unfolding tell_all flat_map line_over
  tell_out t [] h = refl
  tell_out t (r ∷ rs) h =
      let at : ℕ = t.so.next in
      let z = length-append (record_line r) (lines_text rs) in
      let a : line_over t.out at r ≡ sets t.out at (record_line r) = rw (le-leb (at + length (record_line r)) (length t.out) (omega (arith, z, h))) in
      let l : length (line_over t.out at r) ≡ length t.out = ap length a ∙ length-sets t.out at (record_line r) in
      let w : at + length (record_line r) + length (lines_text rs) ≤ length (line_over t.out at r) = rw l (omega (arith, z, h)) in
      tell_out (tell_one index t r) rs w ∙ rw a (sym (sets-append t.out at (record_line r) (lines_text rs)))
