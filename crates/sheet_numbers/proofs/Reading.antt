-- A report read along the row of names.
-- Assumes nothing.
use Rattle.std.specs.Prelude.{None, Some}
use mathlib.Core.Path.{◌≡◌, refl, sym, ◌∙◌, ap}
use mathlib.Core.Bool.{Bool, true, false, cond}
use mathlib.Core.List.{List, [], ◌∷◌, ◌++◌, append_assoc, append-nil}
use Prim.Native.Nat.{ℕ, zero, suc, ◌+◌, ◌≤◌, ◌<◌}
use native.Mathlib.Numerals.{add-one}
use native.Mathlib.Omega.{arith}
use borrow.Author.Tests.{eq-eqb, ne_eqb}
use lib.Dec.{eqb}
use lib.ListN.{length, get_or, drop, take, set, length-set, drop_of_length-le}
use lib.Seq.{drop-cons, take-suc-set, take_all}
use Rattle.base_bytes.specs.Bytes.{tab}
use Rattle.sheet_totals.specs.Totals.{total_places}
use Rattle.sheet_totals.specs.declared.Totals.{Totals}
use Rattle.sheet_numbers.specs.Computed.{names_row, at_lf, Numbers, number_before, on_part, numbers_along, numbers_read, reported_by}
use Rattle.sheet_numbers.specs.Inner.{number_at}
use Rattle.sheet_numbers.specs.declared.Reported.{Reported}
use Rattle.sheet_numbers.proofs.Along.{tabs_in, row_long, row_tabs, tab_left, name_left, tabs_end}
use Rattle.sheet_numbers.proofs.Fields.{part_none, part_is}

-- numbers in front of those still to be read
abbrev ahead : List ℕ → Numbers → Numbers
ahead xs Numbers.bad = Numbers.bad
ahead xs (Numbers.are ns) = Numbers.are (xs ++ ns)

ahead_none : (x : Numbers) → x ≡ ahead [] x
ahead_none Numbers.bad = refl
ahead_none (Numbers.are ns) = refl

ahead_more : (xs : List ℕ) (n : ℕ) (x : Numbers) → ahead xs (number_before n x) ≡ ahead (xs ++ (n ∷ [])) x
ahead_more xs n Numbers.bad = refl
ahead_more xs n (Numbers.are ns) = ap Numbers.are (sym (append_assoc xs (n ∷ []) ns))

-- ---- j bytes of the row are read, and i numbers

pub record Reads (row t ns : List ℕ) (at i j : ℕ) : Type 0 where
  pub is_row : row ≡ names_row
  pub long : length ns ≡ total_places
  pub within : j ≤ 111
  pub count : i + tabs_in (drop j row) ≡ total_places
  pub rest : numbers_read t ≡ ahead (take i ns) (numbers_along (drop j row) (drop at t))

pub reads_start : {row : List ℕ} (t : List ℕ) {ns : List ℕ} → row ≡ names_row → length ns ≡ total_places → Reads row t ns 0 0 0
unfolding numbers_read
reads_start {row} t {ns} e h = record {
  is_row = e;
  long = h;
  within = omega arith;
  count = rw e (omega (arith, row_tabs));
  rest = rw e (ahead_none (numbers_along names_row t));
}

module _ {row t ns : List ℕ} {at i j : ℕ} (inv : Reads row t ns at i j) where
  row_is_long : length row ≡ 111
  row_is_long = rw inv.is_row row_long

  inside : j < 111 → j < length row
  inside h = omega (arith, row_is_long)

  -- what is read along shows that it is no report
  not_one : numbers_along (drop j row) (drop at t) ≡ Numbers.bad → {r : Reported} → r ≡ reported_by Numbers.bad → r ≡ reported_by (numbers_read t)
  not_one e f = rw (inv.rest, e) f

  pub reads_short : j < 111 → length t ≤ at → {r : Reported} → r ≡ reported_by Numbers.bad → r ≡ reported_by (numbers_read t)
  unfolding numbers_along
  reads_short h l = not_one (rw (drop-cons row j 0 (inside h), drop_of_length-le t {i = at} l))

  pub reads_other : j < 111 → at < length t → (get_or t at 0 ≡ get_or row j 0 → ⊥) → {r : Reported} → r ≡ reported_by Numbers.bad → r ≡ reported_by (numbers_read t)
  unfolding numbers_along
  reads_other h l n = not_one (rw (drop-cons row j 0 (inside h), drop-cons t at 0 l, ne_eqb (get_or t at 0) (get_or row j 0) n))

  module _ (h : j < 111) (l : at < length t) (e : get_or t at 0 ≡ get_or row j 0) where
    pub reads_name : (get_or row j 0 ≡ tab → ⊥) → Reads row t ns (at + 1) i (j + 1)
    unfolding numbers_along
    reads_name n = record {
      is_row = inv.is_row;
      long = inv.long;
      within = omega arith;
      count = rw add-one (omega (arith, inv.count, name_left row (inside h) n));
      rest =
          rw (add-one, add-one)
          (rw (drop-cons row j 0 (inside h), drop-cons t at 0 l, eq-eqb (get_or t at 0) (get_or row j 0) e, ne_eqb (get_or row j 0) tab n) at inv.rest);
    }

    at_tab_lem : get_or row j 0 ≡ tab → numbers_along (drop j row) (drop at t) ≡ on_part (at_lf (drop (at + 1) t)) (λ r. numbers_along (drop (suc j) row) r)
    unfolding numbers_along
    at_tab_lem q = rw (add-one, drop-cons row j 0 (inside h), drop-cons t at 0 l, eq-eqb (get_or t at 0) (get_or row j 0) e, eq-eqb (get_or row j 0) tab q)

    pub reads_bad : get_or row j 0 ≡ tab → {f : _} → f ≡ number_at t (at + 1) → f ≡ None → {r : Reported} → r ≡ reported_by Numbers.bad → r ≡ reported_by (numbers_read t)
    reads_bad q p g = not_one (at_tab_lem q ∙ part_none t (at + 1) (λ r. numbers_along (drop (suc j) row) r) (sym p ∙ g))

    pub reads_left : get_or row j 0 ≡ tab → i < total_places
    reads_left q = omega (arith, inv.count, tab_left row (inside h) q)

    pub reads_number : get_or row j 0 ≡ tab → {f : _} → f ≡ number_at t (at + 1) → {n next : ℕ} → f ≡ Some (n, next) → Reads row t (set ns i n) next (i + 1) (j + 1)
    reads_number q p {n} {next} g = record {
      is_row = inv.is_row;
      long = length-set ns i n ∙ inv.long;
      within = omega arith;
      count = rw (add-one, add-one) (omega (arith, inv.count, tab_left row (inside h) q));
      rest =
          rw (add-one, add-one, take-suc-set ns i n (omega (arith, inv.long, reads_left q)))
          (inv.rest
          ∙ (ap (ahead (take i ns)) (at_tab_lem q ∙ part_is t (at + 1) (λ r. numbers_along (drop (suc j) row) r) (sym p ∙ g))
          ∙ ahead_more (take i ns) n (numbers_along (drop (suc j) row) (drop next t))));
    }

  module _ (h : 111 ≤ j) where
    gone : drop j row ≡ []
    gone = drop_of_length-le row {i = j} (omega (arith, row_is_long))

    -- more behind the last record
    pub reads_more : at < length t → {r : Reported} → r ≡ reported_by Numbers.bad → r ≡ reported_by (numbers_read t)
    unfolding numbers_along
    reads_more l = not_one (rw (gone, drop-cons t at 0 l))

    pub reads_whole : length t ≤ at → numbers_read t ≡ Numbers.are ns
    unfolding numbers_along
    reads_whole l =
        let c : i ≡ total_places = omega (arith, inv.count, tabs_end row {j = j} (omega (arith, row_is_long))) in
        inv.rest ∙ rw (gone, drop_of_length-le t {i = at} l, append-nil) (ap Numbers.are (take_all i ns (omega (arith, c, inv.long))))

-- the report that was read
pub reads_end : {row t : List ℕ} {totals : Totals} {at i j : ℕ} → Reads row t totals.numbers at i j → 111 ≤ j → length t ≤ at
    → record { good = true; totals = totals } ≡ reported_by (numbers_read t)
reads_end inv h l = rw (reads_whole inv h l)
