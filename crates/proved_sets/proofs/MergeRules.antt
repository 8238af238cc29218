-- A merge answers what the table's rules give, and nothing else: 1, 2, 11, 6 and 7 by the counts of what both list, or the one meaning put into the other,
-- each class once.
-- Assumes nothing.
use Rattle.std.specs.Prelude.{Err, Ok}
use mathlib.Core.Path.{◌≡◌, refl, sym, ◌∙◌, ap}
use mathlib.Core.Bool.{Bool, true, false}
use mathlib.Core.List.{List, [], ◌++◌}
use lib.ListN.{length}
use Rattle.base_lists.specs.Lists.{all}
use Rattle.base_lists.proofs.Scan.{both}
use Rattle.base_lists.proofs.More.{contra}
use Rattle.base_refusals.specs.Numbers.{refused}
use Rattle.base_refusals.specs.declared.Refusal.{Refusal}
use Rattle.text_checks.specs.Check.{check_of, is_text}
use Rattle.text_checks.specs.Outcomes.{or_else}
use Rattle.text_checks.proofs.CheckNumbers.{both_is}
use Rattle.text_checks.proofs.Texts.{is_text_lem}
use Rattle.proved_texts.proofs.Utf8Grammar as utf8
use Rattle.block_grammar.specs.Meaning.{Entry, classes_once}
use Rattle.proved_grammar.specs.Meaning.{puts, distinct}
use Rattle.proved_sets.specs.Formed.{entry_ok, wf}
use Rattle.set_table.specs.Types.{Texts, empty_set}
use Rattle.set_table.specs.Rows.{meant, meaning_of, listed_of}
use Rattle.set_table.specs.declared.Attrs.{Attrs}
use Rattle.set_wellformed.specs.WellFormed.{table_ok, well_formed}
use Rattle.set_merge.specs.Merge.{merged_by, merge_of}
use Rattle.proved_sets.specs.Limits.{class_count, key_count, Exactly, LimitGiven}
use Rattle.proved_sets.specs.Merged.{MergeGiven, MergeByRules}
use Rattle.proved_sets.proofs.Counts.{class_puts, class_append, class_rows, key_puts, key_rows, puts-distinct}
use Rattle.proved_sets.proofs.Limits.{Only, exactly, text_exactly, limit_exactly}
use Rattle.proved_sets.proofs.MergeMeans.{whole, whole_shaped, whole_lists}
use Rattle.proved_sets.proofs.TableWhole.{empty_means}
use Rattle.proved_sets.proofs.WellFormedMeans.{lists_wf}
use Rattle.proved_sets.proofs.WellFormedShape.{formed_whole}
use Rattle.proved_grammar.proofs.Once.{puts_once}
use Rattle.proved_grammar.specs.Merged.{joined_meaning}

-- ---- the rows of two well-formed sets have as many classes and keys as both list
module _ (t : Texts) (a b : Attrs) (f : table_ok t a ≡ true) (g : table_ok t b ≡ true) where
  abbrev first : List Entry
  first = listed_of t a

  abbrev second : List Entry
  second = listed_of t b

  apart : distinct first ≡ true
  unfolding wf
  apart = (both (all entry_ok first) (distinct first) (lists_wf t a f)).1

  class_both : length (whole t a b).classes ≡ class_count (first ++ second)
  class_both = sym (class_rows (whole_shaped t a b f g)) ∙ ap class_count (whole_lists t a b f g) ∙ class_puts first second ∙ sym (class_append first second)

  key_both : length (whole t a b).keys ≡ key_count (first ++ second)
  key_both =
      let d : distinct (meant t (whole t a b)) ≡ true = rw (whole_lists t a b f g) (puts-distinct first second apart) in
      sym (key_rows (whole_shaped t a b f g) d) ∙ ap key_count (whole_lists t a b f g) ∙ key_puts first second apart

-- ---- of two texts that give neither 1 nor 2
module _ (t : Texts) (a b : Attrs) (x : is_text t.first ≡ true) (y : is_text t.second ≡ true) where
  formed_is : (c : Attrs) → well_formed t c ≡ table_ok t c
  formed_is c = formed_whole t c x y

  merged_limits : (f : table_ok t a ≡ true) (g : table_ok t b ≡ true)
      → Exactly (LimitGiven (listed_of t a ++ listed_of t b) (joined_meaning (meaning_of t a) (meaning_of t b))) (merged_by (Ok tt) t a b).outcome (meaning_of t (merged_by (Ok tt) t a b).set)
  unfolding meaning_of joined_meaning
  merged_limits f g =
      let m : classes_once (meant t (whole t a b)) ≡ _ = ap classes_once (whole_lists t a b f g) ∙ sym (puts_once (listed_of t a) (listed_of t b)) in
      rw (f, g) (limit_exactly (whole_shaped t a b f g) (listed_of t a ++ listed_of t b) (class_both t a b f g) (key_both t a b f g) m)

  merged_only : Only (MergeGiven t a b) (merged_by (Ok tt) t a b).outcome (meaning_of t (merged_by (Ok tt) t a b).set)
  merged_only p u (MergeGiven.malformed n) = go (table_ok t a) refl (table_ok t b) refl
    where
      go : (v : Bool) → table_ok t a ≡ v → (w : Bool) → table_ok t b ≡ w → ((merged_by (Ok tt) t a b).outcome ≡ p) × (meaning_of t (merged_by (Ok tt) t a b).set ≡ u)
      go true f true g = absurd (n (formed_is a ∙ f) (formed_is b ∙ g))
      go true f false g = rw (f, g) (refl, empty_means t)
      go false f w g = rw f (refl, empty_means t)
  merged_only p u (MergeGiven.formed f g l) = (merged_limits (sym (formed_is a) ∙ f) (sym (formed_is b) ∙ g)).only p u l

  merged_exactly : Exactly (MergeGiven t a b) (merged_by (Ok tt) t a b).outcome (meaning_of t (merged_by (Ok tt) t a b).set)
  merged_exactly = go (table_ok t a) refl (table_ok t b) refl
    where
      go : (v : Bool) → table_ok t a ≡ v → (w : Bool) → table_ok t b ≡ w → Exactly (MergeGiven t a b) (merged_by (Ok tt) t a b).outcome (meaning_of t (merged_by (Ok tt) t a b).set)
      go true f true g = exactly merged_only (MergeGiven.formed (formed_is a ∙ f) (formed_is b ∙ g) (merged_limits f g).given)
      go true f false g = exactly merged_only (MergeGiven.malformed (λ i j. contra (well_formed t b) j (formed_is b ∙ g)))
      go false f w g = exactly merged_only (MergeGiven.malformed (λ i j. contra (well_formed t a) i (formed_is a ∙ f)))

pub merge_by_rules : MergeByRules
unfolding merge_of
merge_by_rules t a b =
    rw (← both_is t.first t.second)
    (text_exactly t.first (λ c. (merged_by (or_else c (check_of t.second)) t a b).outcome) (λ c. meaning_of t (merged_by (or_else c (check_of t.second)) t a b).set) none
    (λ l w. text_exactly t.second (λ c. (merged_by c t a b).outcome) (λ c. meaning_of t (merged_by c t a b).set) none
    (λ k v. merged_exactly t a b (is_text_lem t.first l (utf8.complete w)) (is_text_lem t.second k (utf8.complete v)))))
  where
    none : (r : Refusal) → (refused r ≡ Err r) × (meaning_of t empty_set ≡ [])
    none r = (refl, empty_means t)
