-- When nothing is left, that a second call answers no, and that no bytes are no raw bytes.
-- Assumes nothing.
use Rattle.std.specs.Prelude.{Err, Ok}
use mathlib.Core.Path.{◌≡◌, refl, sym, ◌∙◌, ap}
use mathlib.Core.Bool.{Bool, true, false, cond, not}
use mathlib.Core.List.{List, [], ◌∷◌}
use Prim.Native.Nat.{ℕ}
use native.Mathlib.Omega.{arith}
use borrow.Author.Tests.{not-true}
use Rattle.base_lists.specs.Lists.{all, same, is_some}
use Rattle.base_lists.proofs.Scan.{both}
use Rattle.base_lists.proofs.Same.{same_true}
use Rattle.base_lists.proofs.More.{contra}
use Rattle.base_refusals.specs.declared.Refusal.TheVariants.{EmptySet}
use Rattle.text_escapes.specs.Unescape.{unescape, unescape_from}
use Rattle.block_grammar.specs.Meaning.{Entry, lookup}
use Rattle.set_table.specs.Types.{Texts, empty_set}
use Rattle.set_table.specs.Rows.{no_rows, rows_in, table_of, meaning_of}
use Rattle.set_table.specs.declared.Attrs.{Attrs}
use Rattle.set_table.proofs.Whole.{rows_table}
use Rattle.set_wellformed.specs.WellFormed.{well_formed}
use Rattle.set_writer.specs.Write.{writable, attrs_wrote}
use Rattle.set_loose.specs.declared.Consumed.{Consumed}
use Rattle.set_loose.specs.Loose.{loose_name, is_loose, without_loose, loose_of}
use Rattle.set_loose.proofs.Whole.{some_raw}
use Rattle.proved_grammar.specs.Meaning.{absent, distinct}
use Rattle.proved_sets.specs.Formed.{entry_ok, wf}
use Rattle.proved_sets.proofs.WellFormedShape.{formed_parts, both_pass}
use Rattle.proved_sets.proofs.WellFormedMeans.{means_wf, means_none}
use Rattle.proved_sets.proofs.TableWhole.{empty_table, empty_means}
use Rattle.proved_loose.specs.Loose.{without_name, LooseEmpty, LooseOnce, NoBytesRaw}
use Rattle.proved_loose.proofs.Means.{answer, when_yes, left_yes, left_formed, means_left, stays_left, loose_means}

-- ---- a meaning without a name

pub gone_name : (n : List ℕ) (m : List Entry) → lookup n (without_name n m) ≡ []
unfolding lookup without_name
gone_name n [] = refl
gone_name n (e ∷ m) = go (same e.name n) refl (gone_name n m)
  where
    go : (b : Bool) → same e.name n ≡ b → lookup n (without_name n m) ≡ [] → lookup n (cond b (without_name n m) (e ∷ without_name n m)) ≡ []
    go true q ih = ih
    go false q ih = rw q ih

-- a name that is nowhere
keeps_none : (n : List ℕ) (m : List Entry) → absent n m ≡ true → without_name n m ≡ [] → m ≡ []
unfolding absent all without_name
keeps_none n [] h e = refl
keeps_none n (x ∷ m) h e =
    let q : same x.name n ≡ false = not-true (same x.name n) (both (not (same x.name n)) (absent n m) h).0 in
    let z : x ∷ without_name n m ≡ [] = rw q at e in
    let y : ◌≡◌ {A = ℕ} 1 0 = cc in absurd (omega arith)

-- where nothing is left of a meaning whose names differ, the name was all there was
lone : (n : List ℕ) (v : List ℕ) (m : List Entry) → distinct m ≡ true → lookup n m ≡ v ∷ [] → without_name n m ≡ [] → m ≡ record { name = n; values = v ∷ [] } ∷ []
unfolding distinct lookup without_name
lone n v [] d l e = let y : ◌≡◌ {A = ℕ} 0 1 = cc in absurd (omega arith)
lone n v (x ∷ m) d l e = go (same x.name n) refl l e
  where
    go : (b : Bool) → same x.name n ≡ b → cond b x.values (lookup n m) ≡ v ∷ [] → cond b (without_name n m) (x ∷ without_name n m) ≡ [] → x ∷ m ≡ record { name = n; values = v ∷ [] } ∷ []
    go true q l e =
        let w = same_true x.name n q in
        let rest : m ≡ [] = keeps_none n m (rw w at (both (absent x.name m) (distinct m) d).0) e in
        λ i. record { name = w i; values = l i } ∷ rest i
    go false q l e = let y : ◌≡◌ {A = ℕ} 1 0 = cc in absurd (omega arith)

module _ (t : Texts) (a : Attrs) (w : well_formed t a ≡ true) (d : (loose_of t a).did ≡ Ok true) where
  loose : is_loose (meaning_of t a) ≡ true
  loose = when_yes t a w d

  means : meaning_of t (loose_of t a).set ≡ without_name loose_name (meaning_of t a)
  means = means_left t a w loose

  apart : distinct (meaning_of t a) ≡ true
  unfolding wf
  apart = (both (all entry_ok (meaning_of t a)) (distinct (meaning_of t a)) (means_wf t a (formed_parts t a w).2)).1

  lone_was : (loose_of t a).set ≡ empty_set → meaning_of t a ≡ record { name = loose_name; values = [] ∷ [] } ∷ []
  lone_was e = lone loose_name [] (meaning_of t a) apart ((loose_means t a w).acts d).0 (sym means ∙ ap (meaning_of t) e ∙ empty_means t)

  -- rows that mean nothing are none
  emptied : meaning_of t a ≡ record { name = loose_name; values = [] ∷ [] } ∷ [] → (loose_of t a).set ≡ empty_set
  unfolding without_name same
  emptied e =
      let s = without_loose t (rows_in a) in
      let z : meaning_of t (loose_of t a).set ≡ [] = means ∙ rw e in
      let r : rows_in (loose_of t a).set ≡ no_rows = (means_none t (loose_of t a).set (left_formed t a w)).0 z in
      let k : without_loose t (rows_in a) ≡ no_rows = sym (rows_table (without_loose t (rows_in a))) ∙ sym (ap rows_in (left_yes t a w loose)) ∙ r in
      left_yes t a w loose ∙ ap table_of k ∙ empty_table

  unwritten : (loose_of t a).set ≡ empty_set → (size : ℕ) → attrs_wrote t (loose_of t a).set size ≡ Err EmptySet
  unfolding attrs_wrote writable
  unwritten e size = let z = formed_parts t a w in rw (both_pass t z.0 z.1, left_formed t a w, e, empty_means t)

pub loose_empty : LooseEmpty
loose_empty t a w d = record { all_there_was = lone_was t a w d; empties = emptied t a w d; unwritten = unwritten t a w d }

-- ---- once
still : (m : List Entry) → is_loose (without_name loose_name m) ≡ false
unfolding is_loose
still m = rw (gone_name loose_name m)

pub loose_once : LooseOnce
loose_once t a w = go (is_loose (meaning_of t a)) refl
  where
    second : is_loose (meaning_of t (loose_of t a).set) ≡ false → (loose_of t (loose_of t a).set).did ≡ Ok false
    second e = ap (λ (c : Consumed). c.did) (answer t (loose_of t a).set (loose_means t a w).formed) ∙ rw e

    go : (b : Bool) → is_loose (meaning_of t a) ≡ b → (loose_of t (loose_of t a).set).did ≡ Ok false
    go true e = second (ap is_loose (means_left t a w e) ∙ still (meaning_of t a))
    go false e = second (ap is_loose (stays_left t a w e) ∙ e)

-- ---- no bytes
none_some : (s : List ℕ) → is_some s ≡ false → s ≡ []
none_some [] e = refl
none_some (b ∷ s) e = contra true refl e

pub no_bytes_raw : NoBytesRaw
unfolding unescape unescape_from
no_bytes_raw s = ((λ e. none_some s (sym (some_raw true s) ∙ ap is_some e)), (λ e. rw e))
