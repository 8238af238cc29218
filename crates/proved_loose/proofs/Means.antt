-- What the answer means, which rows stay, and that the set handed out is well-formed.
-- Assumes nothing.
use Rattle.std.specs.Prelude.{Err, Ok, Result}
use mathlib.Core.Path.{◌≡◌, refl, sym, ◌∙◌, ap}
use mathlib.Core.Bool.{Bool, true, false, cond}
use mathlib.Core.List.{List, [], ◌∷◌}
use Prim.Native.Nat.{ℕ, zero, suc, ◌<◌}
use native.Mathlib.Omega.{arith}
use borrow.Author.Tests.{ltb-true, lt-ltb}
use lib.Dec.{ltb}
use lib.ListN.{length, get_or}
use Rattle.base_lists.specs.Lists.{all, same}
use Rattle.base_lists.proofs.Scan.{both}
use Rattle.base_lists.proofs.More.{contra}
use Rattle.base_refusals.specs.declared.Refusal.{Refusal}
use Rattle.base_refusals.specs.declared.Refusal.TheVariants.{NotWellFormed}
use Rattle.text_checks.specs.Check.{both_of}
use Rattle.block_grammar.specs.Meaning.{Entry, lookup, once_in, classes_once}
use Rattle.set_table.specs.Types.{Texts, value_bytes, zero_row, empty_set}
use Rattle.set_table.specs.Rows.{Rows, rows_in, table_of, meant, listed_of, meaning_of}
use Rattle.set_table.specs.Shape.{is_free, times}
use Rattle.set_table.specs.declared.Slot.TheVariants.{Key}
use Rattle.set_table.specs.declared.Attrs.{Attrs}
use Rattle.set_table.proofs.Whole.{rows_table}
use Rattle.set_values.specs.Values.{key_ok}
use Rattle.set_wellformed.specs.WellFormed.{table_ok, well_formed}
use Rattle.set_wellformed.proofs.Shape.{Passed, shaped, table_passed}
use Rattle.set_merge.proofs.Whole.{few}
use Rattle.set_lent.specs.Lent.{loose_end}
use Rattle.set_loose.specs.declared.Consumed.{Consumed}
use Rattle.set_loose.specs.Without.{without_at, without_row}
use Rattle.set_loose.specs.Loose.{loose_name, is_no_bytes, is_loose, row_named, without_loose, consumed_by, not_consumed, loose_by, loose_of}
use Rattle.set_loose.proofs.Without.{gone-length, low, high}
use Rattle.set_loose.proofs.Walk.{slots_left}
use Rattle.set_loose.proofs.Keys.{table_named}
use Rattle.proved_sets.proofs.WellFormedShape.{passed_rows, shaped_apart, shaped_slots, formed_parts, formed_whole, both_pass}
use Rattle.proved_sets.proofs.PutsKept.{table_ok_lem}
use Rattle.proved_sets.proofs.TableWhole.{table_lists, table_means}
use Rattle.proved_sets.proofs.Zeroed.{Zeroed, table_zeroed, empty_zeroed}
use Rattle.proved_loose.specs.Loose.{without_name, SaysLoose, LooseMeans, ActsByMeaning, RowsStay, OthersKept, AllKept, LooseZeroed, RefusedEmpty, LentStays, LentGoes}
use Rattle.proved_loose.proofs.Without.{shaped_without, without_means}

-- ---- answers differ
yes_no : {A : Type 0} → ◌≡◌ {A = Result Bool Refusal} (Ok true) (Ok false) → A
yes_no e = let z : ◌≡◌ {A = ℕ} 0 1 = cc in absurd (omega arith)

refused_yes : {A : Type 0} {r : Refusal} → Err r ≡ Ok true → A
refused_yes e = let z : ◌≡◌ {A = ℕ} 0 1 = cc in absurd (omega arith)

refused_no : {A : Type 0} {r : Refusal} → Err r ≡ Ok false → A
refused_no e = let z : ◌≡◌ {A = ℕ} 0 1 = cc in absurd (omega arith)

-- ---- classes that don't count are passed over

once_without : (n : List ℕ) (m : List Entry) → classes_once (without_name n m) ≡ without_name n (classes_once m)
unfolding classes_once once_in without_name
once_without n [] = refl
once_without n (e ∷ m) = go (same e.name n) (once_without n m)
  where
    go : (b : Bool) → classes_once (without_name n m) ≡ without_name n (classes_once m) → classes_once (cond b (without_name n m) (e ∷ without_name n m)) ≡ cond b (without_name n (classes_once m)) (once_in e ∷ without_name n (classes_once m))
    go true ih = ih
    go false ih = ap (λ l. once_in e ∷ l) ih

all_without : {A : Type 0} (f : A → Bool) (k : ℕ) (xs : List A) → all f xs ≡ true → all f (without_at k xs) ≡ true
unfolding all without_at
all_without f zero [] h = refl
all_without f (suc k) [] h = refl
all_without f zero (x ∷ xs) h = (both (f x) (all f xs) h).1
all_without f (suc k) (x ∷ xs) h = let g = both (f x) (all f xs) h in rw g.0 (all_without f k xs g.1)

-- ---- a set that says `loose` has a row of that name, without bytes
module _ (t : Texts) (a : Attrs) (g : table_ok t a ≡ true) where
  abbrev row : ℕ
  row = row_named t loose_name (rows_in a).keys

  abbrev rows : ℕ
  rows = length (rows_in a).keys

  under : lookup loose_name (meaning_of t a) ≡ cond (ltb row rows) (value_bytes t (get_or (rows_in a).keys row zero_row).value ∷ []) []
  unfolding is_free same
  under = table_named t a (shaped t a g) loose_name refl

  loose_parts : is_loose (meaning_of t a) ≡ true → (row < rows) × SaysLoose (meaning_of t a)
  unfolding is_loose
  loose_parts e = go (ltb row rows) refl (value_bytes t (get_or (rows_in a).keys row zero_row).value) refl (rw under at e)
    where
      go : (b : Bool) → ltb row rows ≡ b → (v : List ℕ) → value_bytes t (get_or (rows_in a).keys row zero_row).value ≡ v
          → is_no_bytes (cond b (v ∷ []) []) ≡ true → (row < rows) × SaysLoose (meaning_of t a)
      go true q [] p z = (ltb-true row rows q, under ∙ (rw (q, p)))
      go true q (x ∷ v) p z = contra false z refl
      go false q v p z = contra false z refl

  says_loose : SaysLoose (meaning_of t a) → is_loose (meaning_of t a) ≡ true
  unfolding is_loose
  says_loose e = rw e

-- ---- the set that is left
module _ (t : Texts) (a : Attrs) (w : well_formed t a ≡ true) where
  good : table_ok t a ≡ true
  good = (formed_parts t a w).2

  pub answer : loose_of t a ≡ consumed_by (is_loose (meaning_of t a)) t (rows_in a)
  unfolding loose_of
  answer = let z = formed_parts t a w in rw (both_pass t z.0 z.1, z.2)

  by_answer : (b : Bool) → is_loose (meaning_of t a) ≡ b → loose_of t a ≡ consumed_by b t (rows_in a)
  by_answer b e = answer ∙ ap (λ x. consumed_by x t (rows_in a)) e

  -- which of the two it is
  pub when_yes : (loose_of t a).did ≡ Ok true → is_loose (meaning_of t a) ≡ true
  when_yes d = go (is_loose (meaning_of t a)) refl
    where
      go : (b : Bool) → is_loose (meaning_of t a) ≡ b → b ≡ true
      go true e = refl
      go false e = yes_no (sym d ∙ ap (λ (c : Consumed). c.did) (by_answer false e))

  pub when_no : (loose_of t a).did ≡ Ok false → is_loose (meaning_of t a) ≡ false
  when_no d = go (is_loose (meaning_of t a)) refl
    where
      go : (b : Bool) → is_loose (meaning_of t a) ≡ b → b ≡ false
      go true e = yes_no (sym (ap (λ (c : Consumed). c.did) (by_answer true e)) ∙ d)
      go false e = refl

  pub left_yes : is_loose (meaning_of t a) ≡ true → (loose_of t a).set ≡ table_of (without_loose t (rows_in a))
  left_yes e = ap (λ (c : Consumed). c.set) (by_answer true e)

  pub left_no : is_loose (meaning_of t a) ≡ false → (loose_of t a).set ≡ table_of (rows_in a)
  left_no e = ap (λ (c : Consumed). c.set) (by_answer false e)

  module _ (e : is_loose (meaning_of t a) ≡ true) where
    there : row_named t loose_name (rows_in a).keys < length (rows_in a).keys
    there = (loose_parts t a good e).0

    rows_left : rows_in (loose_of t a).set ≡ without_loose t (rows_in a)
    rows_left = ap rows_in (left_yes e) ∙ rows_table (without_loose t (rows_in a))

    lists_left : meant t (without_loose t (rows_in a)) ≡ without_name loose_name (listed_of t a)
    unfolding listed_of is_free same
    lists_left = without_means (shaped t a good) loose_name refl there

    listed_left : listed_of t (loose_of t a).set ≡ without_name loose_name (listed_of t a)
    listed_left = ap (listed_of t) (left_yes e) ∙ table_lists (without_loose t (rows_in a)) t ∙ lists_left

    pub means_left : meaning_of t (loose_of t a).set ≡ without_name loose_name (meaning_of t a)
    unfolding meaning_of
    means_left = ap (meaning_of t) (left_yes e) ∙ table_means (without_loose t (rows_in a)) t ∙ ap classes_once lists_left ∙ once_without loose_name (listed_of t a)

    table_left : table_ok t (table_of (without_loose t (rows_in a))) ≡ true
    unfolding without_row
    table_left =
        let q = table_passed t a good in
        let z = shaped_without (shaped t a good) (row_named t loose_name (rows_in a).keys) there in
        let l = few t a good in
        table_ok_lem t (without_loose t (rows_in a))
        (passed_rows (record { ident = q.ident; classes = q.classes; keys = all_without (key_ok t) (row_named t loose_name (rows_in a).keys) (rows_in a).keys q.keys; apart = shaped_apart z; slots = shaped_slots z }))
        l.0 (omega (arith, gone-length (row_named t loose_name (rows_in a).keys) (rows_in a).keys there, l.1))

    stay : RowsStay t a
    unfolding without_row
    stay =
        let o : times (Key (row_named t loose_name (rows_in a).keys)) (rows_in a).order ≡ 1 = (shaped t a good).once (Key (row_named t loose_name (rows_in a).keys)) ∙ rw (lt-ltb (row_named t loose_name (rows_in a).keys) (length (rows_in a).keys) there) in
        record {
          there = there;
          fewer = rw rows_left (gone-length (row_named t loose_name (rows_in a).keys) (rows_in a).keys there);
          before = λ j h. rw rows_left (low zero_row (row_named t loose_name (rows_in a).keys) j (rows_in a).keys h);
          behind = λ j h. rw rows_left (high zero_row (row_named t loose_name (rows_in a).keys) j (rows_in a).keys h);
          ident = rw rows_left;
          classes = rw rows_left;
          slots = rw rows_left (omega (arith, o, slots_left (row_named t loose_name (rows_in a).keys) (rows_in a).order));
          lists = listed_left;
        }

  pub stays_left : is_loose (meaning_of t a) ≡ false → meaning_of t (loose_of t a).set ≡ meaning_of t a
  unfolding meaning_of listed_of
  stays_left e = rw (left_no e, rows_table (rows_in a))

  pub left_formed : table_ok t (loose_of t a).set ≡ true
  left_formed = go (is_loose (meaning_of t a)) refl
    where
      go : (b : Bool) → is_loose (meaning_of t a) ≡ b → table_ok t (loose_of t a).set ≡ true
      go true e = rw (left_yes e) (table_left e)
      go false e = rw (left_no e) (let l = few t a good in table_ok_lem t (rows_in a) (passed_rows (table_passed t a good)) l.0 l.1)

pub loose_means : LooseMeans
loose_means t a w =
    record {
      acts = λ d. let e = when_yes t a w d in ((loose_parts t a (good t a w) e).1, means_left t a w e);
      stays = λ d. let e = when_no t a w d in ((λ s. contra (is_loose (meaning_of t a)) (says_loose t a (good t a w) s) e), stays_left t a w e);
      taken = λ r d. untaken r (is_loose (meaning_of t a)) refl d;
      formed = let z = formed_parts t a w in formed_whole t (loose_of t a).set z.0 z.1 ∙ left_formed t a w;
    }
  where
    untaken : (r : Refusal) (b : Bool) → is_loose (meaning_of t a) ≡ b → (loose_of t a).did ≡ Err r → ⊥
    untaken r true e d = refused_yes (sym d ∙ ap (λ (c : Consumed). c.did) (by_answer t a w true e))
    untaken r false e d = refused_no (sym d ∙ ap (λ (c : Consumed). c.did) (by_answer t a w false e))

pub acts_by_meaning : ActsByMeaning
acts_by_meaning t u a b p q e = ap (λ (c : Consumed). c.did) (answer t a p) ∙ go (is_loose (meaning_of t a)) (ap is_loose e) ∙ sym (ap (λ (c : Consumed). c.did) (answer u b q))
  where
    go : (x : Bool) → x ≡ is_loose (meaning_of u b) → (consumed_by x t (rows_in a)).did ≡ (consumed_by (is_loose (meaning_of u b)) u (rows_in b)).did
    go true z = rw (← z)
    go false z = rw (← z)

pub others_kept : OthersKept
others_kept t a w d = stay t a w (when_yes t a w d)

-- ---- of any table over any texts

-- whatever is handed out is the empty set of a refusal, or a table of rows
pub data Handed (t : Texts) (a : Attrs) : Consumed → Type 0 where
  none : (r : Refusal) → Handed t a (not_consumed r)
  left : (s : Rows) → Handed t a (record { did = Ok true; set = table_of s })
  same_rows : Handed t a (record { did = Ok false; set = table_of (rows_in a) })

handed : (t : Texts) (a : Attrs) → Handed t a (loose_of t a)
unfolding loose_of
handed t a = by_check (both_of t.first t.second)
  where
    by_table : (b l : Bool) → Handed t a (cond b (consumed_by l t (rows_in a)) (not_consumed NotWellFormed))
    by_table true true = Handed.left (without_loose t (rows_in a))
    by_table true false = Handed.same_rows
    by_table false l = Handed.none NotWellFormed

    by_check : (o : Result (Unit {0}) Refusal) → Handed t a (loose_by o t a)
    by_check (Err r) = Handed.none r
    by_check (Ok _) = by_table (table_ok t a) (is_loose (meaning_of t a))

pub loose_zeroed : LooseZeroed
loose_zeroed t a = go (handed t a)
  where
    go : {c : Consumed} → Handed t a c → Zeroed c.set
    go (Handed.none r) = empty_zeroed
    go (Handed.left s) = table_zeroed s
    go Handed.same_rows = table_zeroed (rows_in a)

pub refused_empty : RefusedEmpty
refused_empty t a r = go (handed t a)
  where
    go : {c : Consumed} → Handed t a c → c.did ≡ Err r → c.set ≡ empty_set
    go (Handed.none q) e = refl
    go (Handed.left s) e = refused_yes (sym e)
    go Handed.same_rows e = refused_no (sym e)

pub all_kept : AllKept
all_kept t a = go (handed t a)
  where
    go : {c : Consumed} → Handed t a c → c.did ≡ Ok false → rows_in c.set ≡ rows_in a
    go (Handed.none r) e = refused_no e
    go (Handed.left s) e = yes_no e
    go Handed.same_rows e = rows_table (rows_in a)

-- ---- of a lent set
pub lent_stays : LentStays
unfolding loose_end
lent_stays was c n = go c.did refl
  where
    go : (d : Result Bool Refusal) → c.did ≡ d → loose_end was c ≡ was
    go (Err r) e = rw e
    go (Ok true) e = absurd (n e)
    go (Ok false) e = rw e

pub lent_goes : LentGoes
unfolding loose_end
lent_goes was c e = rw e
