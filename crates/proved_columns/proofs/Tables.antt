-- The table against its three lists, by the meaning.
-- Assumes nothing.
use Rattle.std.specs.Prelude.{Err, Ok, Result, None}
use mathlib.Core.Path.{◌≡◌, refl, sym, ◌∙◌, ap}
use mathlib.Core.Bool.{Bool, true, false, cond}
use mathlib.Core.List.{[]}
use Prim.Native.Nat.{ℕ, ◌<◌, ◌≤◌, max}
use native.Mathlib.Omega.{arith}
use borrow.Author.Tests.{ltb-true, ltb-false, le-ltb, lt-ltb}
use lib.Dec.{ltb}
use lib.ListN.{length, get_or, get_or-eq_default, get_or-map}
use Rattle.base_lists.specs.Lists.{same}
use Rattle.base_refusals.specs.Numbers.{passed}
use Rattle.base_refusals.specs.declared.Refusal.{Refusal}
use Rattle.base_refusals.specs.declared.Refusal.TheVariants.{NotWellFormed, TooManyColumns}
use Rattle.text_checks.specs.Check.{both_of}
use Rattle.set_table.specs.Types.{Texts}
use Rattle.set_table.specs.Rows.{meaning_of, padded}
use Rattle.set_table.specs.Shape.{is_free}
use Rattle.set_table.specs.declared.Attrs.{Attrs}
use Rattle.set_wellformed.specs.WellFormed.{table_ok, well_formed}
use Rattle.set_keyed.specs.Keyed.{key_found}
use Rattle.set_columns.specs.declared.Column.{Column}
use Rattle.set_columns.specs.declared.Columns.{Columns}
use Rattle.set_columns.specs.declared.Made.{Made}
use Rattle.set_columns.specs.declared.Width.TheVariants as width
use Rattle.set_columns.specs.Columns.{max_columns, zero_column, no_columns, aligns_name, valigns_name, widths_name, list_in, widths_in, column_at, count_in, columns_in, none_made, made_of, columns_by, columns_of}
use Rattle.set_columns.proofs.Tables.{tabled-length, get_replicate, column_past, column_get, list_found, widths_long}
use Rattle.set_columns_lent.specs.Lent.{table_end}
use Rattle.proved_sets.proofs.WellFormedShape.{formed_parts, formed_whole, both_pass, both_texts}
use Rattle.proved_columns.specs.Columns.{width_bytes, quoted_by, is_unset, width_in, width_ok, WidthsOnBoundaries, TableRight, ColumnsRight, TooManyExactly, RefusedNone, TableStays, TableGoes, SameSettings, ByMeaning}
use Rattle.proved_columns.proofs.Splits.{widths_found}
use Rattle.proved_columns.proofs.Widths.{widths_set, widths_ok}

-- ---- answers
passed_refused : {A : Type 0} {r : Refusal} → passed ≡ Err r → A
passed_refused e = let z : ◌≡◌ {A = ℕ} 0 1 = cc in absurd (omega arith)

-- what is answered: a refusal with no columns, or the columns, which are few enough
pub data Answer (t : Texts) (a : Attrs) : Made → Type 0 where
  none : (r : Refusal) → Answer t a (none_made r)
  some : well_formed t a ≡ true → count_in (meaning_of t a) ≤ max_columns → Answer t a (made_of (columns_in t a))

answered : (t : Texts) (a : Attrs) → Answer t a (columns_of t a)
unfolding columns_of
answered t a = by_check (both_of t.first t.second) refl
  where
    by_count : well_formed t a ≡ true → (b : Bool) → ltb max_columns (count_in (meaning_of t a)) ≡ b → Answer t a (cond b (none_made TooManyColumns) (made_of (columns_in t a)))
    by_count w true e = Answer.none TooManyColumns
    by_count w false e = Answer.some w (ltb-false max_columns (count_in (meaning_of t a)) e)

    by_table : both_of t.first t.second ≡ Ok tt → (b : Bool) → table_ok t a ≡ b → Answer t a (cond b (cond (ltb max_columns (count_in (meaning_of t a))) (none_made TooManyColumns) (made_of (columns_in t a))) (none_made NotWellFormed))
    by_table p true q = let x = both_texts t p in by_count (formed_whole t a x.0 x.1 ∙ q) (ltb max_columns (count_in (meaning_of t a))) refl
    by_table p false q = Answer.none NotWellFormed

    by_check : (o : Result (Unit {0}) Refusal) → both_of t.first t.second ≡ o → Answer t a (columns_by o t a)
    by_check (Err r) p = Answer.none r
    by_check (Ok _) p = by_table p (table_ok t a) refl

pub refused_none : RefusedNone
refused_none t a r = go (answered t a)
  where
    go : {m : Made} → Answer t a m → m.outcome ≡ Err r → m.table ≡ no_columns
    go (Answer.none q) e = refl
    go (Answer.some w h) e = passed_refused e

-- the lent table
pub table_stays : TableStays
unfolding table_end
table_stays t a was r e = rw e

pub table_goes : TableGoes
unfolding table_end
table_goes t a was e = rw e

no_width : (t : Texts) (a : Attrs) (r : Refusal) → (columns_of t a).outcome ≡ Err r → (k : ℕ) → width_in t a k ≡ None
no_width t a r e k = ap (λ (x : Columns). (get_or x.columns k zero_column).width) (refused_none t a r e) ∙ ap (λ (c : Column). c.width) (get_replicate max_columns k zero_column)

-- ---- a table of columns
module _ (t : Texts) (a : Attrs) where
  -- the three lists, and the count
  widths_few : length (widths_in t a) ≡ length (list_in widths_name (meaning_of t a))
  unfolding is_free same
  widths_few = widths_long t (key_found t a widths_name) ∙ ap length (sym (list_found t a widths_name refl))

  long : length (columns_in t a) ≡ count_in (meaning_of t a)
  unfolding columns_in
  long = tabled-length (column_at (list_in aligns_name (meaning_of t a)) (list_in valigns_name (meaning_of t a)) (widths_in t a)) (count_in (meaning_of t a)) 0

  abbrev nth : ℕ → Column
  nth k = column_at (list_in aligns_name (meaning_of t a)) (list_in valigns_name (meaning_of t a)) (widths_in t a) k

  module _ (few : count_in (meaning_of t a) ≤ max_columns) where
    nth_past : (k : ℕ) → count_in (meaning_of t a) ≤ k → nth k ≡ zero_column
    unfolding count_in
    nth_past k h = column_past (list_in aligns_name (meaning_of t a)) (list_in valigns_name (meaning_of t a)) (widths_in t a) (count_in (meaning_of t a)) (omega arith) (omega arith) (omega (arith, widths_few)) few k h

    at : (k : ℕ) → get_or (padded max_columns zero_column (columns_in t a)) k zero_column ≡ nth k
    unfolding columns_in count_in
    at k = column_get (list_in aligns_name (meaning_of t a)) (list_in valigns_name (meaning_of t a)) (widths_in t a) (count_in (meaning_of t a)) (omega arith) (omega arith) (omega (arith, widths_few)) few k

  bytes_at : (k : ℕ) → width_bytes t (quoted_by (key_found t a widths_name)) (nth k).width ≡ get_or (list_in widths_name (meaning_of t a)) k []
  unfolding is_free same
  bytes_at k =
      let q = quoted_by (key_found t a widths_name) in
      sym (get_or-map (width_bytes t q) (widths_in t a) k None) ∙ ap (λ l. get_or l k []) (widths_found t (key_found t a widths_name) ∙ sym (list_found t a widths_name refl))

  counted : count_in (meaning_of t a) ≡ max (length (list_in aligns_name (meaning_of t a))) (max (length (list_in valigns_name (meaning_of t a))) (length (list_in widths_name (meaning_of t a))))
  unfolding count_in
  counted = refl

pub columns_right : ColumnsRight
columns_right t a = go (columns_of t a) refl (answered t a)
  where
    go : (m : Made) → columns_of t a ≡ m → Answer t a m → (columns_of t a).outcome ≡ Ok tt → TableRight t a
    go _ z (Answer.none r) e = passed_refused (sym e ∙ ap (λ (m : Made). m.outcome) z)
    go _ z (Answer.some w h) e =
        let f : (k : ℕ) → width_in t a k ≡ (nth t a k).width = λ k. ap (λ (m : Made). (get_or m.table.columns k zero_column).width) z ∙ ap (λ (c : Column). c.width) (at t a h k) in
        record {
          count = rw z (long t a ∙ counted t a);
          align = λ k. rw (z, at t a h k);
          valign = λ k. rw (z, at t a h k);
          width = f;
          bytes = λ k. ap (width_bytes t (quoted_by (key_found t a widths_name))) (f k) ∙ bytes_at t a k;
          none = λ k l. ap is_unset (f k ∙ get_or-eq_default (widths_in t a) None {n = k} (omega (arith, l, widths_few t a)));
          some = λ k l. ap is_unset (f k) ∙ widths_set t (key_found t a widths_name) k (omega (arith, l, widths_few t a));
          past = λ k l. rw z (at t a h k ∙ nth_past t a h k (omega (arith, long t a, rw z at l)));
        }

pub widths_on_boundaries : WidthsOnBoundaries
widths_on_boundaries t a k = go (columns_of t a) (answered t a)
  where
    go : (m : Made) → Answer t a m → width_ok t (get_or m.table.columns k zero_column).width ≡ true
    go _ (Answer.none r) = rw (get_replicate max_columns k zero_column)
    go _ (Answer.some w h) = rw (at t a h k) (widths_ok t a w widths_name k)

pub too_many_exactly : TooManyExactly
unfolding columns_of
too_many_exactly t a w =
    let z = formed_parts t a w in
    ((λ h. rw (both_pass t z.0 z.1, z.2, lt-ltb max_columns (count_in (meaning_of t a)) h)), (λ h. rw (both_pass t z.0 z.1, z.2, le-ltb max_columns (count_in (meaning_of t a)) h)))

-- ---- by the meaning alone
module _ (t u : Texts) (a b : Attrs) (w : well_formed t a ≡ true) (w' : well_formed u b ≡ true) (e : meaning_of t a ≡ meaning_of u b) where
  many : max_columns < count_in (meaning_of t a) → SameSettings t u a b
  many h =
      let p = (too_many_exactly t a w).0 h in
      let q = (too_many_exactly u b w').0 (rw (← e) h) in
      record {
        outcome = p ∙ sym q;
        count = ap (λ (x : Columns). x.count) (refused_none t a TooManyColumns p ∙ sym (refused_none u b TooManyColumns q));
        align = λ k. ap (λ (x : Columns). (get_or x.columns k zero_column).align) (refused_none t a TooManyColumns p ∙ sym (refused_none u b TooManyColumns q));
        valign = λ k. ap (λ (x : Columns). (get_or x.columns k zero_column).valign) (refused_none t a TooManyColumns p ∙ sym (refused_none u b TooManyColumns q));
        bytes = λ k. ap (width_bytes t (quoted_by (key_found t a widths_name))) (no_width t a TooManyColumns p k) ∙ sym (ap (width_bytes u (quoted_by (key_found u b widths_name))) (no_width u b TooManyColumns q k));
        unset = λ k. ap is_unset (no_width t a TooManyColumns p k ∙ sym (no_width u b TooManyColumns q k));
      }

  unset : TableRight t a → TableRight u b → (k : ℕ) (z : Bool) → ltb k (length (list_in widths_name (meaning_of t a))) ≡ z → is_unset (width_in t a k) ≡ is_unset (width_in u b k)
  unset x y k true q = let l = ltb-true k (length (list_in widths_name (meaning_of t a))) q in x.some k l ∙ sym (y.some k (rw (← e) l))
  unset x y k false q = let l = ltb-false k (length (list_in widths_name (meaning_of t a))) q in x.none k l ∙ sym (y.none k (rw (← e) l))

  few : count_in (meaning_of t a) ≤ max_columns → SameSettings t u a b
  few h =
      let p = (too_many_exactly t a w).1 h in
      let q = (too_many_exactly u b w').1 (rw (← e) h) in
      let x = columns_right t a p in
      let y = columns_right u b q in
      record {
        outcome = p ∙ sym q;
        count = x.count ∙ (rw e) ∙ sym y.count;
        align = λ k. x.align k ∙ (rw e) ∙ sym (y.align k);
        valign = λ k. x.valign k ∙ (rw e) ∙ sym (y.valign k);
        bytes = λ k. x.bytes k ∙ (rw e) ∙ sym (y.bytes k);
        unset = λ k. unset x y k (ltb k (length (list_in widths_name (meaning_of t a)))) refl;
      }

pub by_meaning : ByMeaning
by_meaning t u a b w w' e = go (ltb max_columns (count_in (meaning_of t a))) refl
  where
    go : (x : Bool) → ltb max_columns (count_in (meaning_of t a)) ≡ x → SameSettings t u a b
    go true q = many t u a b w w' e (ltb-true max_columns (count_in (meaning_of t a)) q)
    go false q = few t u a b w w' e (ltb-false max_columns (count_in (meaning_of t a)) q)
