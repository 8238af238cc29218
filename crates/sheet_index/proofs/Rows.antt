-- Reading: counting rows, laying them, and looking one up.
-- Assumes nothing.
use Rattle.std.specs.Prelude.{Err, None, Ok, Option, Result, Some}
use mathlib.Core.Path.{◌≡◌, refl, sym, ◌∙◌, ap}
use mathlib.Core.Bool.{Bool, true, false, cond}
use mathlib.Core.List.{List, [], ◌∷◌, append-nil, flat_map}
use Prim.Native.Nat.{ℕ, zero, suc, ◌+◌, ◌-◌, ◌*◌, ◌/◌, ◌≤◌, ◌<◌}
use native.Mathlib.Nat.{div-add-mod}
use native.Mathlib.Omega.{arith}
use borrow.Author.Tests.{lt-ltb, le-ltb}
use lib.Dec.{ltb}
use lib.ListN.{length, get_or, drop, length-drop}
use lib.Seq.{slice, sets, length-sets, drop-drop, get_or-drop}
use Rattle.base_lists.specs.Lists.{same, over}
use Rattle.base_lists.proofs.Sets.{sets-append}
use Rattle.base_refusals.specs.Numbers.{passed_paper}
use Rattle.base_refusals.specs.Orders.{Ground, in_order, on_paper}
use Rattle.base_refusals.specs.declared.Refusal.{Refusal}
use Rattle.base_refusals.specs.declared.Refusal.TheVariants.{NotAnIndex, TableFull, AnotherVersion}
use Rattle.base_refusals.proofs.Orders.{paper_by}
use Rattle.sheet_records.specs.Records.{Record, index_version, header_of, index_header, row_numbers, table_numbers}
use Rattle.sheet_records.specs.Computed.{Index, not_index, rows, with_row, on_row, rows_from, record_at, id_in, record_in, is_headed_by, is_other, other_told, head_in, head_of, index_by, read_index_of, read_index}
use Rattle.sheet_records.specs.Writing.{table_size, row_over}
use Rattle.sheet_records.specs.declared.IndexRow.{IndexRow}
use Rattle.sheet_records.proofs.Further as walk
use Rattle.sheet_records.proofs.Lines.{front_laid}
use Rattle.sheet_index.specs.Building.{is_read, rows_read, form_order, count_order, counted_of, counted_table, counted_paper}
use Rattle.sheet_index.specs.Finding.{is_id, has_id, first_with, values_with, records_by, find_record, first_row, table_rows, find_row, look_paper}
use Rattle.sheet_index.specs.Inner.{counted_by, or_first, found_among}

-- ---- counting

pub record Counts (t : List ℕ) (R : Result ℕ Refusal) (n at : ℕ) : Type 0 where
  pub rest : Index
  pub left : walk.RowsLeft t at rest
  pub is : counted_by n rest ≡ R
  pub few : n ≤ at

whole : List ℕ → Index
whole t = rows_from (suc (length t)) t (length index_header)

pub counts_start : (t : List ℕ) → Counts t (counted_by 0 (rows_from (suc (length t)) t (length index_header))) 0 19
counts_start t = record { rest = rows_from (suc (length t)) t (length index_header); left = walk.left_start t; is = refl; few = omega arith }

counted_row : (n : ℕ) (e : IndexRow) (x : Index) → counted_by n (with_row e x) ≡ counted_by (n + 1) x
counted_row n e (not_index r) = refl
counted_row n e (rows es) = let z : n + suc (length es) ≡ n + 1 + length es = omega arith in ap (λ z. Ok z) z

module _ {t : List ℕ} {R : Result ℕ Refusal} {n at : ℕ} (inv : Counts t R n at) where
  pub counts_end : length t ≤ at → Ok n ≡ R
  counts_end h = let z : n + 0 ≡ n = omega arith in sym (ap (λ z. Ok z) z) ∙ (rw (walk.left_end inv.left h) at inv.is)

  module _ {got : Option IndexRow} (g : got ≡ record_at t at) (h : at < length t) where
    pub counts_bad : got ≡ None → Err NotAnIndex ≡ R
    counts_bad b = rw (walk.left_bad inv.left h (sym g ∙ b)) at inv.is

    module _ {e : IndexRow} (b : got ≡ Some e) where
      pub row_less : length t - e.next < length t - at
      row_less = walk.left_less inv.left e h (sym g ∙ b)

      pub counts_go : Counts t R (n + 1) e.next
      counts_go =
          let w = walk.left_go inv.left e h (sym g ∙ b) in
          record { rest = w.more; left = w.left; is = sym (counted_row n e w.more) ∙ (rw w.is at inv.is); few = omega (arith, inv.few, walk.further t at e (sym g ∙ b)) }

-- by the first line
module _ (t : List ℕ) {o : Result (Unit {0}) Refusal} (e : o ≡ head_of t) where
  pub head_refused : {r : Refusal} → o ≡ Err r → read_index t ≡ not_index r
  unfolding read_index_of
  head_refused f = ap (index_by index_version t) (sym e ∙ f)

  pub head_passed : o ≡ Ok tt → read_index t ≡ rows_from (suc (length t)) t (length index_header)
  unfolding read_index_of
  head_passed f = ap (index_by index_version t) (sym e ∙ f)

pub count_refused : (t : List ℕ) {o : Result (Unit {0}) Refusal} {r : Refusal} → o ≡ head_of t → o ≡ Err r → Err r ≡ counted_by 0 (read_index t)
count_refused t e f = rw (head_refused t e f)

pub count_passed : (t : List ℕ) {o : Result (Unit {0}) Refusal} {c : Result ℕ Refusal} → o ≡ head_of t → o ≡ Ok tt → c ≡ counted_by 0 (rows_from (suc (length t)) t (length index_header)) → c ≡ counted_by 0 (read_index t)
count_passed t e f q = q ∙ ap (counted_by 0) (sym (head_passed t e f))

-- ---- laying rows

pub record Fills (t table₀ table : List ℕ) (k at : ℕ) : Type 0 where
  pub rest : Index
  pub left : walk.RowsLeft t at rest
  pub good : is_read rest ≡ true
  pub seats : k + length (rows_read rest) ≤ length table / 5
  pub long : length table ≡ length table₀
  pub numbers : sets table (k * 5) (table_numbers (rows_read rest)) ≡ sets table₀ 0 (table_numbers (rows_read (read_index t)))

-- a text that is read has the first line
good_head : (t : List ℕ) → is_read (read_index t) ≡ true → read_index t ≡ rows_from (suc (length t)) t (length index_header)
unfolding read_index_of
good_head t g = go (head_of t) refl g
  where
    go : (o : Result (Unit {0}) Refusal) → head_of t ≡ o → is_read (index_by index_version t o) ≡ true → index_by index_version t o ≡ rows_from (suc (length t)) t (length index_header)
    go (Ok _) e h = refl
    go (Err r) e h = let z : ◌≡◌ {A = ℕ} 0 1 = cc in absurd (omega arith)

pub fills_start : (t table : List ℕ) → (is_read (read_index t) ≡ true) × (length (rows_read (read_index t)) ≤ table_size (length table)) → Fills t table table 0 19
fills_start t table (g, h) =
    record { rest = read_index t; left = rw (good_head t g) (walk.left_start t); good = g; seats = omega (arith, h); long = refl; numbers = refl }

module _ {t table₀ table : List ℕ} {k at : ℕ} (inv : Fills t table₀ table k at) where
  pub fills_end : length t ≤ at → table ≡ sets table₀ 0 (table_numbers (rows_read (read_index t)))
  unfolding table_numbers flat_map
  fills_end h = rw (walk.left_end inv.left h) at inv.numbers

  module _ {got : Option IndexRow} (g : got ≡ record_at t at) (h : at < length t) where
    pub fills_bad : {A : Type 0} → got ≡ None → A
    fills_bad b = let y : false ≡ true = rw (walk.left_bad inv.left h (sym g ∙ b)) at inv.good in let z : ◌≡◌ {A = ℕ} 0 1 = cc in absurd (omega arith)

    module _ {e : IndexRow} (b : got ≡ Some e) where
      onward : walk.Onward t e inv.rest
      onward = walk.left_go inv.left e h (sym g ∙ b)

      more_good : (x : Index) → is_read (with_row e x) ≡ true → (is_read x ≡ true) × (rows_read (with_row e x) ≡ e ∷ rows_read x)
      more_good (not_index r) y = let z : ◌≡◌ {A = ℕ} 0 1 = cc in absurd (omega arith)
      more_good (rows es) y = (refl, refl)

      rest_is : (is_read onward.more ≡ true) × (rows_read inv.rest ≡ e ∷ rows_read onward.more)
      rest_is = let w = more_good onward.more (rw onward.is at inv.good) in (w.0, ap rows_read onward.is ∙ w.1)

      pub fill_seat : k < length table / 5
      fill_seat = omega (arith, inv.seats, ap length rest_is.1)

      pub fill_less : length t - e.next < length t - at
      fill_less = walk.left_less inv.left e h (sym g ∙ b)

      pub fills_go : {table' : List ℕ} → table' ≡ row_over table k e → Fills t table₀ table' (k + 1) e.next
      unfolding row_over table_numbers flat_map
      fills_go {table'} q =
          let d : table' ≡ sets table (k * 5) (row_numbers e) = q ∙ rw (lt-ltb k (length table / 5) fill_seat) in
          let dl : length table' ≡ length table = ap length d ∙ length-sets table (k * 5) (row_numbers e) in
          let i5 : (k + 1) * 5 ≡ k * 5 + 5 = omega arith in
          record {
            rest = onward.more;
            left = onward.left;
            good = rest_is.0;
            seats = omega (arith, dl, inv.seats, ap length rest_is.1);
            long = dl ∙ inv.long;
            numbers = rw (d, i5) (sym (sets-append table (k * 5) (row_numbers e) (table_numbers (rows_read onward.more))) ∙ (rw rest_is.1 at inv.numbers));
          }

-- ---- looking up

pub id_none : (t id : List ℕ) (from to : ℕ) → from ≡ 0 → false ≡ is_id (id_in t from to) id
id_none t id from to e = rw e

pub id_some : (t id : List ℕ) (from to : ℕ) {s : List ℕ} {x : Bool} → (from ≡ 0 → ⊥) → s ≡ slice from to t → x ≡ same s id → x ≡ is_id (id_in t from to) id
id_some t id from to n e q = q ∙ rw e (go from n)
  where
    go : (from : ℕ) → (from ≡ 0 → ⊥) → same (slice from to t) id ≡ is_id (id_in t from to) id
    go zero n = absurd (n refl)
    go (suc from) n = refl

module _ (t id : List ℕ) (e : IndexRow) {x : Bool} (h : x ≡ is_id (id_in t e.from e.to) id) where
  pub first_yes : x ≡ true → Ok (Some (e.line, e.count, e.offset)) ≡ first_with id (record_in t e ∷ [])
  unfolding first_with
  first_yes y = rw (← h, y)

  pub first_no : x ≡ false → Ok None ≡ first_with id (record_in t e ∷ [])
  unfolding first_with
  first_no y = rw (← h, y)

pub or_kept : (f x : Result (Option (ℕ × ℕ × ℕ)) Refusal) (l c o : ℕ) → f ≡ Ok (Some (l, c, o)) → Ok (Some (l, c, o)) ≡ or_first f x
or_kept f x l c o e = rw e

pub or_refused : (f x : Result (Option (ℕ × ℕ × ℕ)) Refusal) (r : Refusal) → f ≡ Err r → Err r ≡ or_first f x
or_refused f x r e = rw e

pub or_on : (f r x : Result (Option (ℕ × ℕ × ℕ)) Refusal) → f ≡ Ok None → r ≡ x → r ≡ or_first f x
or_on f r x e q = rw e q

pub record Looks (t id : List ℕ) (R found : Result (Option (ℕ × ℕ × ℕ)) Refusal) (at : ℕ) : Type 0 where
  pub rest : Index
  pub left : walk.RowsLeft t at rest
  pub is : found_among t found id rest ≡ R

pub looks_start : (t id : List ℕ) → Looks t id (found_among t (Ok None) id (rows_from (suc (length t)) t (length index_header))) (Ok None) 19
looks_start t id = record { rest = rows_from (suc (length t)) t (length index_header); left = walk.left_start t; is = refl }

or_or : (a b c : Result (Option (ℕ × ℕ × ℕ)) Refusal) → or_first a (or_first b c) ≡ or_first (or_first a b) c
or_or (Err r) b c = refl
or_or (Ok None) b c = refl
or_or (Ok (Some (l, k, o))) b c = refl

or_missing : (a : Result (Option (ℕ × ℕ × ℕ)) Refusal) → or_first a (Ok None) ≡ a
or_missing (Err r) = refl
or_missing (Ok None) = refl
or_missing (Ok (Some (l, k, o))) = refl

first_cons : (id : List ℕ) (r : Record) (rs : List Record) → first_with id (r ∷ rs) ≡ or_first (first_with id (r ∷ [])) (first_with id rs)
unfolding first_with
first_cons id r rs = go (has_id id r)
  where
    go : (x : Bool) → cond {A = Result (Option (ℕ × ℕ × ℕ)) Refusal} x (Ok (Some (r.line, r.count, r.offset))) (first_with id rs) ≡ or_first (cond {A = Result (Option (ℕ × ℕ × ℕ)) Refusal} x (Ok (Some (r.line, r.count, r.offset))) (Ok None)) (first_with id rs)
    go true = refl
    go false = refl

found_row : (t id : List ℕ) (found : Result (Option (ℕ × ℕ × ℕ)) Refusal) (e : IndexRow) (x : Index) → found_among t found id (with_row e x) ≡ found_among t (or_first found (first_with id (record_in t e ∷ []))) id x
found_row t id found e (not_index r) = refl
found_row t id found e (rows es) = ap (or_first found) (first_cons id (record_in t e) (records_by t es)) ∙ or_or found (first_with id (record_in t e ∷ [])) (first_with id (records_by t es))

module _ {t id : List ℕ} {R found : Result (Option (ℕ × ℕ × ℕ)) Refusal} {at : ℕ} (inv : Looks t id R found at) where
  pub looks_end : length t ≤ at → found ≡ R
  unfolding first_with
  looks_end h = sym (or_missing found) ∙ (rw (walk.left_end inv.left h) at inv.is)

  module _ {got : Option IndexRow} (g : got ≡ record_at t at) (h : at < length t) where
    pub looks_bad : got ≡ None → Err NotAnIndex ≡ R
    looks_bad b = rw (walk.left_bad inv.left h (sym g ∙ b)) at inv.is

    module _ {e : IndexRow} (b : got ≡ Some e) where
      pub look_less : length t - e.next < length t - at
      look_less = walk.left_less inv.left e h (sym g ∙ b)

      pub looks_go : {f : Result (Option (ℕ × ℕ × ℕ)) Refusal} → f ≡ or_first found (first_with id (record_in t e ∷ [])) → Looks t id R f e.next
      looks_go q =
          let w = walk.left_go inv.left e h (sym g ∙ b) in
          record { rest = w.more; left = w.left; is = rw q (sym (found_row t id found e w.more) ∙ (rw w.is at inv.is)) }

-- ---- only 14 is said of a text that is no index

Only : Index → Type 0
Only (not_index r) = r ≡ NotAnIndex
Only (rows es) = Unit {0}

only_row : (e : IndexRow) (x : Index) → Only x → Only (with_row e x)
unfolding Only
only_row e (not_index r) h = h
only_row e (rows es) h = tt

only_from : (f : ℕ) (t : List ℕ) (at : ℕ) → Only (rows_from f t at)
unfolding rows_from on_row Only
only_from zero t at = refl
only_from (suc f) t at = go (ltb at (length t)) (record_at t at) (only_from f t)
  where
    go : (x : Bool) (r : Option IndexRow) → ((p : ℕ) → Only (rows_from f t p)) → Only (cond x (on_row r (rows_from f t)) (rows []))
    go false r ih = tt
    go true None ih = refl
    go true (Some e) ih = only_row e (rows_from f t e.next) (ih e.next)

-- why a text is read as no index: where x is so, for q, and else for 14
unfoldable pub Whys : Refusal → Bool → Index → Type 0
Whys q x (not_index r) = r ≡ cond x q NotAnIndex
Whys q x (rows es) = x ≡ false

only_whys : (q : Refusal) (x : Index) → Only x → Whys q false x
unfolding Only Whys
only_whys q (not_index r) h = h
only_whys q (rows es) h = refl

-- by a reader of any version: for the number of the first line, or else for 14
pub whys : (v : ℕ) (t : List ℕ) → Whys (other_told v) (is_other v t) (read_index_of v t)
unfolding read_index_of head_in in_order Whys
whys v t = go (is_other v t) (is_headed_by v t)
  where
    go : (x y : Bool) → Whys (other_told v) x (index_by v t (cond x (Err (other_told v)) (cond y (Ok tt) (Err NotAnIndex))))
    go true y = refl
    go false true = only_whys (other_told v) (rows_from (suc (length t)) t (length (header_of v))) (only_from (suc (length t)) t (length (header_of v)))
    go false false = refl

own_whys : (t : List ℕ) → Whys AnotherVersion (is_other index_version t) (read_index t)
unfolding index_version
own_whys t = whys index_version t

-- ---- the whole of a look-up

first_paper : (id : List ℕ) (rs : List Record) → look_paper (first_with id rs) ≡ passed_paper (values_with id rs)
unfolding first_with values_with
first_paper id [] = refl
first_paper id (r ∷ rs) = go (has_id id r) (first_paper id rs)
  where
    go : (x : Bool) → look_paper (first_with id rs) ≡ passed_paper (values_with id rs)
        → look_paper (cond {A = Result (Option (ℕ × ℕ × ℕ)) Refusal} x (Ok (Some (r.line, r.count, r.offset))) (first_with id rs)) ≡ passed_paper (cond x (r.line ∷ r.count ∷ r.offset ∷ []) (values_with id rs))
    go true h = refl
    go false h = h

pub find_paper : (t id : List ℕ) → look_paper (find_record t id) ≡ on_paper (form_order t) (values_with id (records_by t (rows_read (read_index t))))
unfolding find_record on_paper in_order
find_paper t id =
    let rs : List Record = records_by t (rows_read (read_index t)) in
    paper_by look_paper Err (values_with id rs) (λ r. refl) (form_order t) [] {next = first_with id rs} (first_paper id rs)

pub row_paper : (t table id : List ℕ) (n : ℕ) → look_paper (find_row t table n id) ≡ on_paper [] (values_with id (records_by t (table_rows n table)))
unfolding find_row on_paper in_order
row_paper t table id n = first_paper id (records_by t (table_rows n table))

module _ (t id : List ℕ) where
  found_is : found_among t (Ok None) id (read_index t) ≡ find_record t id
  unfolding find_record in_order Whys
  found_is = go (read_index t) (is_other index_version t) (own_whys t)
    where
      go : (x : Index) (b : Bool) → Whys AnotherVersion b x
          → found_among t (Ok None) id x ≡ in_order Err (Ground.given AnotherVersion b ∷ Ground.lacking NotAnIndex (is_read x) ∷ []) (first_with id (records_by t (rows_read x)))
      go (not_index r) true h = ap (λ z. Err z) h
      go (not_index r) false h = ap (λ z. Err z) h
      go (rows es) true h = let z : ◌≡◌ {A = ℕ} 0 1 = cc in absurd (omega arith)
      go (rows es) false h = refl

  module _ {o : Result (Unit {0}) Refusal} (e : o ≡ head_of t) where
    pub find_refused : {r : Refusal} → o ≡ Err r → Err r ≡ find_record t id
    find_refused f = sym (ap (found_among t (Ok None) id) (head_refused t e f)) ∙ found_is

    pub find_passed : {l : Result (Option (ℕ × ℕ × ℕ)) Refusal} → o ≡ Ok tt → l ≡ found_among t (Ok None) id (rows_from (suc (length t)) t (length index_header)) → l ≡ find_record t id
    find_passed f q = q ∙ (sym (ap (found_among t (Ok None) id) (head_passed t e f)) ∙ found_is)

-- ---- over a table

pub record Seeks (t table id : List ℕ) (n k i : ℕ) : Type 0 where
  pub within : i ≤ length table
  pub rest : first_with id (records_by t (table_rows (n - k) (drop i table))) ≡ find_row t table n id

pub seeks_start : (t table id : List ℕ) (n : ℕ) → Seeks t table id n 0 0
unfolding find_row
seeks_start t table id n = let z : n - 0 ≡ n = omega arith in record { within = omega arith; rest = rw z }

module _ {t table id : List ℕ} {n k i : ℕ} (inv : Seeks t table id n k i) where
  pub seeks_many : n ≤ k → Ok None ≡ find_row t table n id
  unfolding table_rows first_with
  seeks_many h = let z : n - k ≡ 0 = omega arith in rw z at inv.rest

  pub seeks_few : k < n → length table - i < 5 → Ok None ≡ find_row t table n id
  unfolding table_rows first_with
  seeks_few h l =
      let z : n - k ≡ suc (n - suc k) = omega arith in
      rw (z, lt-ltb (length (drop i table)) 5 (omega (arith, length-drop i table))) at inv.rest

  module _ (h : k < n) (l : 5 ≤ length table - i) where
    row : IndexRow
    row = record { line = get_or table i 0; count = get_or table (i + 1) 0; offset = get_or table (i + 2) 0; from = get_or table (i + 3) 0; to = get_or table (i + 4) 0; next = 0 }

    row_is_lem : first_row (drop i table) ≡ row
    unfolding row
    row_is_lem =
        let a : i + 0 ≡ i = omega arith in
        rw (get_or-drop i table 0 0, get_or-drop i table 1 0, get_or-drop i table 2 0, get_or-drop i table 3 0, get_or-drop i table 4 0, a)

    next_is : first_with id (record_in t row ∷ records_by t (table_rows (n - (k + 1)) (drop (i + 5) table))) ≡ find_row t table n id
    unfolding table_rows
    next_is =
        let z : n - k ≡ suc (n - (k + 1)) = omega arith in
        ap (λ e. first_with id (record_in t e ∷ records_by t (table_rows (n - (k + 1)) (drop (i + 5) table)))) (sym row_is_lem)
        ∙ (ap (λ s. first_with id (record_in t (first_row (drop i table)) ∷ records_by t (table_rows (n - (k + 1)) s))) (sym (drop-drop 5 i table))
        ∙ (rw (z, le-ltb (length (drop i table)) 5 (omega (arith, length-drop i table))) at inv.rest))

    pub seeks_found : {x : Bool} → x ≡ is_id (id_in t (get_or table (i + 3) 0) (get_or table (i + 4) 0)) id → x ≡ true → Ok (Some (get_or table i 0, get_or table (i + 1) 0, get_or table (i + 2) 0)) ≡ find_row t table n id
    unfolding first_with row
    seeks_found q y = rw (← q, y) at next_is

    pub seeks_go : {x : Bool} → x ≡ is_id (id_in t (get_or table (i + 3) 0) (get_or table (i + 4) 0)) id → x ≡ false → Seeks t table id n (k + 1) (i + 5)
    unfolding first_with row
    seeks_go q y = record { within = omega arith; rest = rw (← q, y) at next_is }

-- ---- the whole of a reading

module _ (t table₀ : List ℕ) where
  abbrev pub Answers : Result ℕ Refusal → List ℕ → Type 0
  Answers r table =
      (r ≡ counted_of t (length table₀))
      × ((table ≡ over (counted_table t (length table₀)) table₀)
      × (counted_paper r ≡ on_paper (count_order t (length table₀)) (length (rows_read (read_index t)) ∷ [])))

  paper : counted_paper (counted_of t (length table₀)) ≡ on_paper (count_order t (length table₀)) (length (rows_read (read_index t)) ∷ [])
  unfolding counted_of on_paper in_order
  paper =
      paper_by counted_paper Err (length (rows_read (read_index t)) ∷ []) (λ r. refl) (count_order t (length table₀)) [] {next = Ok (length (rows_read (read_index t)))} refl
      ∙ ap (λ gs. on_paper gs (length (rows_read (read_index t)) ∷ [])) (append-nil (count_order t (length table₀)))

  told : {r : Result ℕ Refusal} {table : List ℕ} → r ≡ counted_of t (length table₀) → table ≡ over (counted_table t (length table₀)) table₀ → Answers r table
  told a b = (a, (b, ap counted_paper a ∙ paper))

  none_is : (x : Index) (b : Bool) → Whys AnotherVersion b x → (r : Refusal) → Err r ≡ counted_by 0 x → (is_read x ≡ false) × (r ≡ cond b AnotherVersion NotAnIndex)
  unfolding Whys
  none_is (not_index q) b h r e = let z : r ≡ q = cc in (refl, z ∙ h)
  none_is (rows es) b h r e = let z : ◌≡◌ {A = ℕ} 0 1 = cc in absurd (omega arith)

  pub read_none : {c : Result ℕ Refusal} {r : Refusal} → c ≡ counted_by 0 (read_index t) → c ≡ Err r → Answers (Err r) table₀
  unfolding counted_of counted_table count_order in_order
  read_none {c} {r} e f =
      let w = none_is (read_index t) (is_other index_version t) (own_whys t) r (sym f ∙ e) in
      told (rw (w.0, w.1) (go (is_other index_version t))) (rw w.0 (none (is_other index_version t)))
    where
      go : (b : Bool) → ◌≡◌ {A = Result ℕ Refusal} (Err (cond b AnotherVersion NotAnIndex)) (cond b (Err AnotherVersion) (Err NotAnIndex))
      go true = refl
      go false = refl

      none : (b : Bool) → table₀ ≡ over (cond b [] []) table₀
      none true = refl
      none false = refl

  some_is : (x : Index) (b : Bool) → Whys AnotherVersion b x → (n : ℕ) → Ok n ≡ counted_by 0 x → (is_read x ≡ true) × ((n ≡ length (rows_read x)) × (b ≡ false))
  unfolding Whys
  some_is (not_index q) b h n e = let z : ◌≡◌ {A = ℕ} 0 1 = cc in absurd (omega arith)
  some_is (rows es) b h n e = let z : n ≡ 0 + length es = cc in (refl, (omega (arith, z), h))

  module _ {c : Result ℕ Refusal} {n : ℕ} (e : c ≡ counted_by 0 (read_index t)) (f : c ≡ Ok n) where
    w : (is_read (read_index t) ≡ true) × ((n ≡ length (rows_read (read_index t))) × (is_other index_version t ≡ false))
    w = some_is (read_index t) (is_other index_version t) (own_whys t) n (sym f ∙ e)

    pub read_full : table_size (length table₀) < n → Answers (Err TableFull) table₀
    unfolding counted_of counted_table count_order in_order
    read_full h =
        let l = lt-ltb (table_size (length table₀)) (length (rows_read (read_index t))) (omega (arith, w.1.0)) in
        told (rw (w.1.1, w.0, l)) (rw (w.1.1, w.0, l))

    pub rows_room : n ≤ table_size (length table₀) → (is_read (read_index t) ≡ true) × (length (rows_read (read_index t)) ≤ table_size (length table₀))
    rows_room h = (w.0, omega (arith, w.1.0))

    pub read_whole : {table : List ℕ} → n ≤ table_size (length table₀) → table ≡ over (table_numbers (rows_read (read_index t))) table₀ → Answers (Ok n) table
    unfolding counted_of counted_table count_order in_order
    read_whole h q =
        let l = le-ltb (table_size (length table₀)) (length (rows_read (read_index t))) (omega (arith, w.1.0)) in
        told (rw (w.1.1, w.0, l) (ap (λ z. Ok z) w.1.0)) (rw (w.1.1, w.0, l) q)

-- the numbers of rows that have their seats have room
five : (es : List IndexRow) → length (table_numbers es) ≡ length es * 5
unfolding table_numbers flat_map
five [] = refl
five (e ∷ es) = let z = five es in omega arith

pub numbers_room : (es : List IndexRow) (n : ℕ) → length es ≤ n / 5 → length (table_numbers es) ≤ n
numbers_room es n h = omega (arith, five es, div-add-mod n 5)

pub fills_whole : (t buf : List ℕ) {table : List ℕ} → length (rows_read (read_index t)) ≤ table_size (length buf) → table ≡ sets buf 0 (table_numbers (rows_read (read_index t))) → table ≡ over (table_numbers (rows_read (read_index t))) buf
fills_whole t buf h e = e ∙ front_laid buf (table_numbers (rows_read (read_index t))) (numbers_room (rows_read (read_index t)) (length buf) h)
