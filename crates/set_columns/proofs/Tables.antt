-- The columns laid down list by list are those of the definition.
-- Assumes nothing.
use Rattle.std.specs.Prelude.{Err, None, Ok, Option, Result, Some}
use mathlib.Core.Path.{◌≡◌, refl, sym, ◌∙◌, ap}
use mathlib.Core.Bool.{Bool, true, false, cond}
use mathlib.Core.List.{List, [], ◌∷◌, map}
use Prim.Native.Nat.{ℕ, zero, suc, ◌+◌, ◌-◌, ◌<◌, ◌≤◌, max}
use native.Mathlib.Nat.{add-zero, zero-add}
use native.Mathlib.Omega.{arith}
use borrow.Author.Tests.{ltb-true, ltb-false, le-ltb, lt-ltb}
use lib.Dec.{ltb}
use lib.ListN.{length, get_or, set, replicate, length-set, length-map, length-replicate, get_or-eq_default}
use lib.Seq.{slice, get_or-set_same, get_or-set_other, get_or-append-add, ext_get_or}
use Rattle.base_lists.specs.Lists.{same}
use Rattle.base_refusals.specs.Numbers.{outcome_no}
use Rattle.base_refusals.specs.Orders.{Ground, in_order, order_no}
use Rattle.base_refusals.specs.declared.Refusal.{Refusal}
use Rattle.base_refusals.specs.declared.Refusal.TheVariants.{NotWellFormed, TooManyColumns}
use Rattle.base_refusals.proofs.Orders.{order_no_lem}
use Rattle.base_refusals.proofs.Said.{said}
use Rattle.text_checks.specs.Check.{both_order, both_of}
use Rattle.set_marks.specs.Marks.{bytes_in, is_quoted, raw_bytes}
use Rattle.set_marks.proofs.Values.{raw_value}
use Rattle.block_grammar.specs.Meaning.{PieceAt}
use Rattle.set_table.specs.Types.{Texts, value_bytes, text_bytes, range_bytes}
use Rattle.set_table.specs.Rows.{meaning_of, padded}
use Rattle.set_table.specs.Shape.{is_free}
use Rattle.set_table.specs.declared.Attrs.{Attrs}
use Rattle.set_table.specs.declared.Origin.{Origin}
use Rattle.set_table.specs.declared.Value.{Value}
use Rattle.set_table.specs.declared.Text as texts
use Rattle.set_table.specs.declared.Text.TheVariants as text
use Rattle.set_table.proofs.Table.{padded_get, padded-length}
use Rattle.set_wellformed.specs.WellFormed.{table_ok}
use Rattle.set_keyed.specs.Keyed.{values_by, key_found}
use Rattle.set_keyed.proofs.Means.{key_means}
use Rattle.set_commas.specs.Commas.{comma_pieces, cuts_of}
use Rattle.set_commas.proofs.Pieces.{cut, cuts_pieces}
use Rattle.set_columns.specs.declared.Align.{Align}
use Rattle.set_columns.specs.declared.Valign.{Valign}
use Rattle.set_columns.specs.declared.Width.{Width}
use Rattle.set_columns.specs.declared.Width.TheVariants as width
use Rattle.set_columns.specs.declared.Column.{Column}
use Rattle.set_columns.specs.declared.Made.{Made}
use Rattle.set_columns.specs.Columns.{max_columns, zero_column, align_of, valign_of, aligns_name, valigns_name, widths_name, list_of, list_in, width_at, widths_by, found_widths, column_at, tabled, longest_of, count_in, columns_in, none_made, made_of, columns_order, columns_by, columns_of}
use Rattle.set_columns.specs.Inner.{laid_on, align_on, valign_on, width_on, range_at, word_by, found_pieces, found_columns, found_table, found_made}

-- ---- a list laid down by places or by pieces

laid_map : {A B : Type 0} (h : A → B) (f : B → Column → Column) (xs : List A) (i : ℕ) (cs : List Column) → laid_on (λ x. f (h x)) xs i cs ≡ laid_on f (map h xs) i cs
unfolding laid_on
laid_map h f [] i cs = refl
laid_map h f (x ∷ xs) i cs = laid_map h f xs (suc i) (set cs i (f (h x) (get_or cs i zero_column)))

module _ (q : Bool) (s : List ℕ) (f : List ℕ → Column → Column) (cs : List Column) where
  pub laid_pieces : laid_on (λ r. f (bytes_in q (slice r.from r.to s))) (cuts_of q s) 0 cs ≡ laid_on f (comma_pieces (bytes_in q s)) 0 cs
  laid_pieces =
      laid_map (λ r. slice r.from r.to s) (λ p. f (bytes_in q p)) (cuts_of q s) 0 cs
      ∙ laid_map (bytes_in q) f (cut s (cuts_of q s)) 0 cs
      ∙ rw (cuts_pieces q s)

-- ---- each column

-- the k-th of a list, where it has one, changes the column
abbrev on : {A : Type 0} → (A → Column → Column) → List A → ℕ → Column → Column
on f [] k c = c
on f (x ∷ xs) zero c = f x c
on f (x ∷ xs) (suc k) c = on f xs k c

laid_length : {A : Type 0} (f : A → Column → Column) (xs : List A) (i : ℕ) (cs : List Column) → length (laid_on f xs i cs) ≡ length cs
unfolding laid_on
laid_length f [] i cs = refl
laid_length f (x ∷ xs) i cs = laid_length f xs (suc i) (set cs i (f x (get_or cs i zero_column))) ∙ length-set cs i (f x (get_or cs i zero_column))

laid_low : {A : Type 0} (f : A → Column → Column) (xs : List A) (i : ℕ) (cs : List Column) (j : ℕ) → j < i → get_or (laid_on f xs i cs) j zero_column ≡ get_or cs j zero_column
unfolding laid_on
laid_low f [] i cs j h = refl
laid_low f (x ∷ xs) i cs j h =
    laid_low f xs (suc i) (set cs i (f x (get_or cs i zero_column))) j (omega arith)
    ∙ get_or-set_other cs i j (f x (get_or cs i zero_column)) zero_column (λ e. omega arith)

laid_at : {A : Type 0} (f : A → Column → Column) (xs : List A) (i : ℕ) (cs : List Column) (k : ℕ) → i + k < length cs → get_or (laid_on f xs i cs) (i + k) zero_column ≡ on f xs k (get_or cs (i + k) zero_column)
unfolding laid_on
laid_at f [] i cs k h = refl
laid_at f (x ∷ xs) i cs zero h =
    let n : i + 0 ≡ i = omega arith in
    rw n (laid_low f xs (suc i) (set cs i (f x (get_or cs i zero_column))) i (omega arith) ∙ get_or-set_same cs i (f x (get_or cs i zero_column)) zero_column (omega arith))
laid_at f (x ∷ xs) i cs (suc k) h =
    let n : i + suc k ≡ suc i + k = omega arith in
    let c = f x (get_or cs i zero_column) in
    rw n (laid_at f xs (suc i) (set cs i c) k (rw (length-set cs i c) (omega arith)) ∙ rw (get_or-set_other cs i (suc i + k) c zero_column (λ e. omega arith)))

laid_get : {A : Type 0} (f : A → Column → Column) (xs : List A) (cs : List Column) (k : ℕ) → k < length cs → get_or (laid_on f xs 0 cs) k zero_column ≡ on f xs k (get_or cs k zero_column)
laid_get f xs cs k h = rw (zero-add k) at (laid_at f xs 0 cs k (omega arith))

-- on a column that has no such thing yet
on_align : (al : List (List ℕ)) (k : ℕ) → on (word_by false) al k zero_column ≡ align_on (align_of (get_or al k [])) zero_column
unfolding align_of same word_by
on_align [] k = refl
on_align (p ∷ al) zero = refl
on_align (p ∷ al) (suc k) = on_align al k

on_valign : (va : List (List ℕ)) (k : ℕ) (a : Option Align) → on (word_by true) va k (align_on a zero_column) ≡ valign_on (valign_of (get_or va k [])) (align_on a zero_column)
unfolding valign_of same word_by
on_valign [] k a = refl
on_valign (p ∷ va) zero a = refl
on_valign (p ∷ va) (suc k) a = on_valign va k a

on_width : (wi : List (Option Width)) (k : ℕ) (a : Option Align) (v : Option Valign) → on width_on wi k (valign_on v (align_on a zero_column)) ≡ width_on (get_or wi k None) (valign_on v (align_on a zero_column))
on_width [] k a v = refl
on_width (w ∷ wi) zero a v = refl
on_width (w ∷ wi) (suc k) a v = on_width wi k a v

-- ---- all columns

pub tabled-length : {A : Type 0} (f : ℕ → A) (n i : ℕ) → length (tabled f n i) ≡ n
unfolding tabled
tabled-length f zero i = refl
tabled-length f (suc n) i = ap suc (tabled-length f n (suc i))

tabled_get : {A : Type 0} (f : ℕ → A) (n i k : ℕ) (d : A) → k < n → get_or (tabled f n i) k d ≡ f (i + k)
unfolding tabled
tabled_get f zero i k d h = absurd (omega arith)
tabled_get f (suc n) i zero d h = ap f (sym (add-zero i))
tabled_get f (suc n) i (suc k) d h = let e : suc i + k ≡ i + suc k = omega arith in tabled_get f n (suc i) k d (omega arith) ∙ ap f e

pub get_replicate : {A : Type 0} (n k : ℕ) (z : A) → get_or (replicate n z) k z ≡ z
get_replicate zero k z = refl
get_replicate (suc n) zero z = refl
get_replicate (suc n) (suc k) z = get_replicate n k z

-- past the columns that count
pub padded_past : {A : Type 0} (n : ℕ) (z : A) (xs : List A) (k : ℕ) → length xs ≤ k → get_or (padded n z xs) k z ≡ z
unfolding padded
padded_past n z xs k h = let e : k ≡ length xs + (k - length xs) = omega arith in rw (e, get_or-append-add xs (replicate (n - length xs) z) (k - length xs) z) (get_replicate (n - length xs) (k - length xs) z)

module _ (al va : List (List ℕ)) (wi : List (Option Width)) (n : ℕ) (la : length al ≤ n) (lv : length va ≤ n) (lw : length wi ≤ n) (few : n ≤ max_columns) where
  pub column_past : (k : ℕ) → n ≤ k → column_at al va wi k ≡ zero_column
  unfolding align_of valign_of same
  column_past k h =
      rw (get_or-eq_default al [] {n = k} (omega arith), get_or-eq_default va [] {n = k} (omega arith), get_or-eq_default wi None {n = k} (omega arith))

  sized : length (tabled (column_at al va wi) n 0) ≡ n
  sized = tabled-length (column_at al va wi) n 0

  pub column_get : (k : ℕ) → get_or (padded max_columns zero_column (tabled (column_at al va wi) n 0)) k zero_column ≡ column_at al va wi k
  column_get k = go (ltb k n) refl
    where
      go : (b : Bool) → ltb k n ≡ b → get_or (padded max_columns zero_column (tabled (column_at al va wi) n 0)) k zero_column ≡ column_at al va wi k
      go true e =
          let h = ltb-true k n e in
          padded_get max_columns zero_column (tabled (column_at al va wi) n 0) k zero_column (omega (arith, sized))
          ∙ tabled_get (column_at al va wi) n 0 k zero_column h
          ∙ rw (zero-add k)
      go false e =
          let h = ltb-false k n e in
          padded_past max_columns zero_column (tabled (column_at al va wi) n 0) k (omega (arith, sized)) ∙ sym (column_past k h)

  right : (k : ℕ) → k < max_columns → get_or (laid_on width_on wi 0 (laid_on (word_by true) va 0 (laid_on (word_by false) al 0 (replicate max_columns zero_column)))) k zero_column ≡ column_at al va wi k
  right k h =
      let r = length-replicate max_columns zero_column in
      let a = laid_length (word_by false) al 0 (replicate max_columns zero_column) in
      let v = laid_length (word_by true) va 0 (laid_on (word_by false) al 0 (replicate max_columns zero_column)) in
      laid_get width_on wi (laid_on (word_by true) va 0 (laid_on (word_by false) al 0 (replicate max_columns zero_column))) k (omega arith)
      ∙ rw (laid_get (word_by true) va (laid_on (word_by false) al 0 (replicate max_columns zero_column)) k (omega arith), laid_get (word_by false) al (replicate max_columns zero_column) k (omega arith), get_replicate max_columns k zero_column, on_align al k, on_valign va k (align_of (get_or al k []))) (on_width wi k (align_of (get_or al k [])) (valign_of (get_or va k [])))

  pub columns_laid : laid_on width_on wi 0 (laid_on (word_by true) va 0 (laid_on (word_by false) al 0 (replicate max_columns zero_column))) ≡ padded max_columns zero_column (tabled (column_at al va wi) n 0)
  columns_laid =
      let r = length-replicate max_columns zero_column in
      let a = laid_length (word_by false) al 0 (replicate max_columns zero_column) in
      let v = laid_length (word_by true) va 0 (laid_on (word_by false) al 0 (replicate max_columns zero_column)) in
      let w = laid_length width_on wi 0 (laid_on (word_by true) va 0 (laid_on (word_by false) al 0 (replicate max_columns zero_column))) in
      let p = padded-length max_columns zero_column (tabled (column_at al va wi) n 0) (omega (arith, sized)) in
      ext_get_or zero_column _ _ (omega arith) (λ k h. right k (omega arith) ∙ sym (column_get k))

-- ---- the lists of a set

pub list_found : (t : Texts) (a : Attrs) (w : List ℕ) → is_free w ≡ true → list_in w (meaning_of t a) ≡ found_pieces t (key_found t a w)
unfolding found_pieces
list_found t a w f = rw (← key_means t a w f) (go (key_found t a w))
  where
    go : (k : Option Value) → list_of (values_by t k) ≡ found_pieces t k
    go None = refl
    go (Some v) = refl

-- as many widths as pieces
cuts_long : (q : Bool) (u : List ℕ) (o : Origin) (base : ℕ) → length (map (width_at o base) (cuts_of q u)) ≡ length (comma_pieces (bytes_in q u))
cuts_long q u o base = length-map (cuts_of q u) (width_at o base) ∙ simp length-map at (ap length (cuts_pieces q u))

pub widths_long : (t : Texts) (f : Option Value) → length (found_widths t f) ≡ length (found_pieces t f)
unfolding found_widths found_pieces value_bytes comma_pieces
widths_long t None = refl
widths_long t (Some v) = go v.text
  where
    go : (x : texts.Text) → length (widths_by t x) ≡ length (comma_pieces (text_bytes t x))
    go (text.Plain o from to) = cuts_long false (range_bytes t o from to) o from
    go (text.Quoted o from to) = cuts_long true (range_bytes t o from to) o from
    go text.Empty = refl

-- ---- the table

table_made : (t : Texts) (a v w : Option Value) (n : ℕ) → longest_of (found_pieces t a) (found_pieces t v) (found_pieces t w) ≡ n
    → found_table t a v w ≡ cond (ltb max_columns n) (none_made TooManyColumns) (made_of (tabled (column_at (found_pieces t a) (found_pieces t v) (found_widths t w)) n 0))
unfolding found_columns
table_made t a v w n e = rw (e, tabled-length (column_at (found_pieces t a) (found_pieces t v) (found_widths t w)) n 0) (go (ltb max_columns n) refl)
  where
    cs : List Column
    cs = tabled (column_at (found_pieces t a) (found_pieces t v) (found_widths t w)) n 0

    go : (b : Bool) → ltb max_columns n ≡ b
        → cond b (none_made TooManyColumns) (record { outcome = Ok tt; table = record { columns = found_columns t a v w; count = n } })
        ≡ cond b (none_made TooManyColumns) (record { outcome = Ok tt; table = record { columns = padded max_columns zero_column cs; count = n } })
    go true q = refl
    go false q =
        rw (columns_laid (found_pieces t a) (found_pieces t v) (found_widths t w) n (omega (arith, e)) (omega (arith, e)) (omega (arith, e, widths_long t w)) (ltb-false max_columns n q))

pub found_made_lem : (t : Texts) (a : Attrs) → found_made t a ≡ cond (ltb max_columns (count_in (meaning_of t a))) (none_made TooManyColumns) (made_of (columns_in t a))
unfolding found_made columns_in count_in is_free same
found_made_lem t a =
    table_made t (key_found t a aligns_name) (key_found t a valigns_name) (key_found t a widths_name) _ refl
    ∙ rw (list_found t a aligns_name refl, list_found t a valigns_name refl, list_found t a widths_name refl)

-- ---- what the functions ask

module _ (t : Texts) (v : Value) {q : Bool} {raw : List ℕ} (e : q ≡ is_quoted v) (d : raw ≡ raw_bytes t v) where
  bytes_value : bytes_in q raw ≡ value_bytes t v
  bytes_value = rw (e, d) (raw_value t v)

  pub value_count : length (comma_pieces (bytes_in q raw)) ≡ length (comma_pieces (value_bytes t v))
  value_count = ap (λ b. length (comma_pieces b)) bytes_value

  pub value_laid : (f : List ℕ → Column → Column) (cs : List Column) → laid_on (λ r. f (bytes_in q (slice r.from r.to raw))) (cuts_of q raw) 0 cs ≡ laid_on f (comma_pieces (value_bytes t v)) 0 cs
  value_laid f cs = laid_pieces q raw f cs ∙ ap (λ b. laid_on f (comma_pieces b) 0 cs) bytes_value

pub widths_laid : (o : Origin) (base : ℕ) (rs : List PieceAt) (cs : List Column) → laid_on (range_at o base) rs 0 cs ≡ laid_on width_on (map (width_at o base) rs) 0 cs
widths_laid o base rs cs = laid_map (width_at o base) width_on rs 0 cs

module _ (t : Texts) (s : Attrs) {a v w : Option Value} {x y z m n : ℕ}
    (ea : a ≡ key_found t s aligns_name) (ev : v ≡ key_found t s valigns_name) (ew : w ≡ key_found t s widths_name)
    (ex : x ≡ length (found_pieces t a)) (ey : y ≡ length (found_pieces t v)) (ez : z ≡ length (found_pieces t w)) (em : m ≡ max y z) (en : n ≡ max x m) where
  count_is : longest_of (found_pieces t a) (found_pieces t v) (found_pieces t w) ≡ n
  count_is = rw (← ex, ← ey, ← ez, ← em, ← en)

  pub many : max_columns < n → none_made TooManyColumns ≡ found_made t s
  unfolding found_made
  many h = rw (← ea, ← ev, ← ew, count_is, lt-ltb max_columns n h)

  pub some_made : {cs : List Column} → n ≤ max_columns → cs ≡ found_columns t a v w → record { outcome = Ok tt; table = record { columns = cs; count = n } } ≡ found_made t s
  unfolding found_made
  some_made {cs} h d = rw (← ea, ← ev, ← ew, count_is, le-ltb max_columns n h, d)

-- ---- the answer by its checks, and its number
seen : (b c : Bool) (t : Texts) (a : Attrs)
    → outcome_no (cond b (cond c (none_made TooManyColumns) (made_of (columns_in t a))) (none_made NotWellFormed)).outcome ≡ order_no (Ground.lacking NotWellFormed b ∷ Ground.given TooManyColumns c ∷ [])
unfolding order_no in_order
seen true true t a = refl
seen true false t a = refl
seen false c t a = refl

pub columns_no : (t : Texts) (a : Attrs) → outcome_no (columns_of t a).outcome ≡ order_no (columns_order t a)
unfolding columns_of both_of
columns_no t a =
    order_no_lem (λ o. outcome_no (columns_by o t a).outcome) Err (λ r. refl) (both_order t.first t.second) (Ground.lacking NotWellFormed (table_ok t a) ∷ Ground.given TooManyColumns (ltb max_columns (count_in (meaning_of t a))) ∷ [])
    (seen (table_ok t a) (ltb max_columns (count_in (meaning_of t a))) t a)

module _ (t : Texts) (a : Attrs) {f : Made} {c : Result (Unit {0}) Refusal} (e : c ≡ both_of t.first t.second) where
  tells : f ≡ columns_of t a → (f ≡ columns_of t a) × (outcome_no f.outcome ≡ order_no (columns_order t a))
  tells g = let r = said (λ (x : Made). outcome_no x.outcome) (columns_no t a) g in (r.value, r.result_value)

  pub by_check : {r : Refusal} → c ≡ Err r → f ≡ none_made r → (f ≡ columns_of t a) × (outcome_no f.outcome ≡ order_no (columns_order t a))
  unfolding columns_of
  by_check q g = tells (g ∙ rw (← e, q))

  module _ (p : c ≡ Ok tt) where
    pub not_formed : table_ok t a ≡ false → f ≡ none_made NotWellFormed → (f ≡ columns_of t a) × (outcome_no f.outcome ≡ order_no (columns_order t a))
    unfolding columns_of
    not_formed x g = tells (g ∙ rw (← e, p, x))

    pub formed : table_ok t a ≡ true → f ≡ found_made t a → (f ≡ columns_of t a) × (outcome_no f.outcome ≡ order_no (columns_order t a))
    unfolding columns_of
    formed x g = tells (g ∙ found_made_lem t a ∙ rw (← e, p, x))
