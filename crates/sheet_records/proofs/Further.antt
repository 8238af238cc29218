-- The next record begins behind the one before; and the walk over the rows of an index text.
-- Assumes nothing.
use Rattle.std.specs.Prelude.{None, Option, Some}
use mathlib.Core.Path.{◌≡◌, refl, sym}
use mathlib.Core.Bool.{Bool, true, false, cond}
use mathlib.Core.List.{List, []}
use Prim.Native.Nat.{ℕ, zero, suc, ◌+◌, ◌-◌, ◌<◌, ◌≤◌}
use native.Mathlib.Omega.{arith}
use borrow.Author.Tests.{lt-ltb, le-ltb}
use lib.Dec.{ltb}
use lib.ListN.{length, take, drop}
use Rattle.base_lists.specs.Lists.{run, begins}
use Rattle.base_bytes.specs.Bytes.{is_digit, tab, lf}
use Rattle.base_refusals.specs.declared.Refusal.TheVariants.{NotAnIndex}
use Rattle.text_digits.specs.Digits.{number_in}
use Rattle.sheet_records.specs.Records.{most_number, index_header}
use Rattle.sheet_records.specs.Computed.{least_number, field_of, field_at, on_field, behind_tab, id_end, id_at, end_at, offset_at, count_at, record_at, Index, not_index, rows, with_row, on_row, rows_from}
use Rattle.sheet_records.specs.declared.IndexRow.{IndexRow}
use Rattle.sheet_records.proofs.Lines.{header_long}

-- ---- each part of a record ends where it began, or behind

-- what goes on at a place or behind it answers rows whose next stands further than `at`
Beyond : ℕ → Option IndexRow → Type 0
Beyond at None = Unit {0}
Beyond at (Some e) = at < e.next

field_on : (t : List ℕ) (at least : ℕ) (k : ℕ → ℕ → Option IndexRow) → ((n p : ℕ) → at ≤ p → Beyond at (k n p)) → Beyond at (on_field (field_at t at least) k)
unfolding field_at field_of least_number on_field Beyond
field_on t at least k h = go (number_in most_number (take (run is_digit (drop at t)) (drop at t)))
  where
    low : (n : ℕ) (x : Bool) → Beyond at (on_field (cond {A = Option (ℕ × ℕ)} x None (Some (n, at + run is_digit (drop at t)))) k)
    low n true = tt
    low n false = h n (at + run is_digit (drop at t)) (omega arith)

    go : (x : Option ℕ) → Beyond at (on_field (least_number least (at + run is_digit (drop at t)) x) k)
    go None = tt
    go (Some n) = low n (ltb n least)

tab_on : (t : List ℕ) (at p : ℕ) (k : ℕ → Option IndexRow) → Beyond at (k (suc p)) → Beyond at (behind_tab t p k)
unfolding behind_tab Beyond
tab_on t at p k h = go (begins (drop p t) tab)
  where
    go : (x : Bool) → Beyond at (cond x (k (suc p)) None)
    go true = h
    go false = tt

id_on : (t : List ℕ) (at l c o p : ℕ) → at ≤ p → Beyond at (id_at t l c o p)
unfolding id_at id_end Beyond
id_on t at l c o p h = go (ltb (id_end t p) (length t))
  where
    go : (x : Bool) → Beyond at (cond x (Some (record { line = l; count = c; offset = o; from = p; to = id_end t p; next = suc (id_end t p) })) None)
    go true = omega arith
    go false = tt

end_on : (t : List ℕ) (at l c o p : ℕ) → at ≤ p → Beyond at (end_at t l c o p)
unfolding end_at Beyond
end_on t at l c o p h = go (begins (drop p t) lf)
  where
    go : (x : Bool) → Beyond at (cond x (Some (record { line = l; count = c; offset = o; from = 0; to = 0; next = suc p })) (behind_tab t p (id_at t l c o)))
    go true = omega arith
    go false = tab_on t at p (id_at t l c o) (id_on t at l c o (suc p) (omega arith))

lower : (at p : ℕ) (x : Option IndexRow) → at ≤ p → Beyond p x → Beyond at x
unfolding Beyond
lower at p None h b = tt
lower at p (Some e) h b = omega arith

beyond : (t : List ℕ) (at : ℕ) → Beyond at (record_at t at)
unfolding record_at count_at offset_at
beyond t at =
    field_on t at 1 (λ n p. behind_tab t p (count_at t n)) (λ n p h. tab_on t at p (count_at t n) (lower at (suc p) (count_at t n (suc p)) (omega arith)
    (field_on t (suc p) 1 (λ m q. behind_tab t q (offset_at t n m)) (λ m q i. tab_on t (suc p) q (offset_at t n m) (lower (suc p) (suc q) (offset_at t n m (suc q)) (omega arith)
    (field_on t (suc q) 0 (end_at t n m) (λ o r j. end_on t (suc q) n m o r j)))))))

pub further : (t : List ℕ) (at : ℕ) (e : IndexRow) → record_at t at ≡ Some e → at < e.next
unfolding Beyond
further t at e q = rw q at (beyond t at)

-- ---- the walk: what is still to be read from a place on

pub record RowsLeft (t : List ℕ) (at : ℕ) (x : Index) : Type 0 where
  pub fuel : ℕ
  pub enough : length t - at < fuel
  pub rest : rows_from fuel t at ≡ x

pub left_start : (t : List ℕ) → RowsLeft t 19 (rows_from (suc (length t)) t (length index_header))
left_start t = record { fuel = suc (length t); enough = omega arith; rest = rw header_long }

-- behind a row
pub record Onward (t : List ℕ) (e : IndexRow) (x : Index) : Type 0 where
  pub more : Index
  pub is : x ≡ with_row e more
  pub left : RowsLeft t e.next more

module _ {t : List ℕ} {at : ℕ} {x : Index} (inv : RowsLeft t at x) where
  pub left_end : length t ≤ at → x ≡ rows []
  unfolding rows_from
  left_end h = go inv.fuel inv.enough inv.rest
    where
      go : (f : ℕ) → length t - at < f → rows_from f t at ≡ x → x ≡ rows []
      go zero n q = absurd (omega arith)
      go (suc f) n q = sym (rw (le-ltb at (length t) h) at q)

  pub left_bad : at < length t → record_at t at ≡ None → x ≡ not_index NotAnIndex
  unfolding rows_from on_row
  left_bad h g = go inv.fuel inv.enough inv.rest
    where
      go : (f : ℕ) → length t - at < f → rows_from f t at ≡ x → x ≡ not_index NotAnIndex
      go zero n q = absurd (omega arith)
      go (suc f) n q = sym (rw (lt-ltb at (length t) h, g) at q)

  pub left_go : (e : IndexRow) → at < length t → record_at t at ≡ Some e → Onward t e x
  unfolding rows_from on_row
  left_go e h g = go inv.fuel inv.enough inv.rest
    where
      go : (f : ℕ) → length t - at < f → rows_from f t at ≡ x → Onward t e x
      go zero n q = absurd (omega arith)
      go (suc f) n q = record { more = rows_from f t e.next; is = sym (rw (lt-ltb at (length t) h, g) at q); left = record { fuel = f; enough = omega (arith, further t at e g); rest = refl } }

  pub left_less : (e : IndexRow) → at < length t → record_at t at ≡ Some e → length t - e.next < length t - at
  left_less e h g = omega (arith, further t at e g)
