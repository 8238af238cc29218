-- No step of a merge is refused where the whole is within the limits, and only there; the grouping changes nothing.
-- Assumes nothing.
use Rattle.std.specs.Prelude.{Err, Ok, Result}
use mathlib.Core.Path.{◌≡◌, refl, sym, ◌∙◌, ap}
use mathlib.Core.Bool.{true}
use mathlib.Core.List.{List, [], ◌∷◌, ◌++◌, append-nil, flat_map}
use Prim.Native.Nat.{ℕ, ◌+◌}
use native.Mathlib.Omega.{arith}
use Rattle.base_lists.specs.Lists.{all}
use Rattle.base_lists.proofs.Scan.{both}
use Rattle.base_refusals.specs.Numbers.{passed}
use Rattle.base_refusals.specs.declared.Refusal.{Refusal}
use Rattle.text_checks.proofs.Texts.{text_short, text_utf8}
use Rattle.proved_texts.proofs.Utf8Grammar as utf8
use Rattle.block_grammar.specs.Meaning.{Entry, classes_once}
use Rattle.proved_grammar.specs.Meaning.{puts, distinct}
use Rattle.proved_grammar.specs.Merged.{joined_meaning}
use Rattle.proved_grammar.proofs.Merged.{put_associative}
use Rattle.proved_grammar.proofs.Views.{puts-append}
use Rattle.set_table.specs.Types.{Texts}
use Rattle.set_table.specs.Rows.{rows_in, meant, listed_of, meaning_of}
use Rattle.set_table.specs.declared.Attrs.{Attrs}
use Rattle.set_table.specs.declared.Filled.{Filled}
use Rattle.set_wellformed.specs.WellFormed.{well_formed}
use Rattle.set_wellformed.proofs.Shape.{shaped}
use Rattle.set_merge.specs.Merge.{merge_of}
use Rattle.set_merge.proofs.Whole.{few}
use Rattle.proved_sets.specs.Formed.{entry_ok, wf}
use Rattle.proved_sets.specs.Limits.{class_count, key_count, SizeGiven, Utf8Given, LimitGiven}
use Rattle.proved_sets.specs.Merged.{MergeGiven}
use Rattle.proved_sets.proofs.Counts.{class_puts, class_append, class_rows, key_puts, key_rows, puts-distinct, keys_behind, keys_grow}
use Rattle.proved_sets.proofs.MergeByNames.{puts_none}
use Rattle.proved_sets.proofs.MergeMeans.{merge_gives}
use Rattle.proved_sets.proofs.MergeRules.{merge_by_rules}
use Rattle.proved_sets.proofs.WellFormedMeans.{lists_wf}
use Rattle.proved_sets.proofs.WellFormedShape.{formed_parts}
use Rattle.proved_groups.specs.Groups.{AllFormed, all_listed, Within, AllWithin, all_mean, from_left, from_right, LeftPasses, RightPasses, LeadingGroups, NoStepRefused, OnlyWithin, PassTogether, GroupsMean, AnyGrouping, unless_refused, merge_each, SeveralMerge, SeveralOnly}
use Rattle.proved_groups.proofs.Merging.{all_means}

abbrev Done : Filled → Type 0
Done f = f.outcome ≡ Ok tt

-- ======== what counts the same is within the limits alike
record Alike (m n : List Entry) : Type 0 where
  classes : class_count m ≡ class_count n
  keys : key_count m ≡ key_count n

within_by : {m n : List Entry} → Alike m n → Within m → Within n
within_by s w = record { classes = omega (arith, s.classes, w.classes); keys = omega (arith, s.keys, w.keys) }

back_by : {m n : List Entry} → Alike m n → Within n → Within m
back_by s w = record { classes = omega (arith, s.classes, w.classes); keys = omega (arith, s.keys, w.keys) }

module _ (a b : List Entry) (h : distinct a ≡ true) where
  -- one put into the other
  put_alike : Alike (puts a b) (a ++ b)
  put_alike = record { classes = class_puts a b ∙ sym (class_append a b); keys = key_puts a b h }

  module _ (c : List Entry) where
    left_alike : Alike (puts a b ++ c) (a ++ (b ++ c))
    left_alike =
        let d = puts-distinct a b h in
        record {
          classes = omega (arith, class_append (puts a b) c, class_puts a b, class_append a (b ++ c), class_append b c);
          keys = sym (key_puts (puts a b) c d) ∙ ap key_count (sym (puts-append a b c)) ∙ key_puts a (b ++ c) h;
        }

    right_alike : distinct b ≡ true → Alike (a ++ puts b c) (a ++ (b ++ c))
    right_alike k =
        record {
          classes = omega (arith, class_append a (puts b c), class_puts b c, class_append a (b ++ c), class_append b c);
          keys = sym (key_puts a (puts b c) h) ∙ ap key_count (sym (put_associative a b c k)) ∙ ap key_count (sym (puts-append a b c)) ∙ key_puts a (b ++ c) h;
        }

    -- the parts are within the limits where the whole is
    front_within : Within (a ++ (b ++ c)) → Within (a ++ b)
    front_within w =
        let d = puts-distinct a b h in
        record {
          classes = omega (arith, w.classes, class_append a (b ++ c), class_append b c, class_append a b);
          keys = omega (arith, w.keys, keys_grow (puts a b) c d, ap key_count (puts-append a b c), key_puts a (b ++ c) h, key_puts a b h);
        }

behind-within : (a b : List Entry) → Within (a ++ b) → Within b
behind-within a b w = record { classes = omega (arith, w.classes, class_append a b); keys = omega (arith, w.keys, keys_behind a b) }

-- ======== what a well-formed set has
module _ (t : Texts) (a : Attrs) (h : well_formed t a ≡ true) where
  pub listed-distinct : distinct (listed_of t a) ≡ true
  unfolding wf
  listed-distinct = (both (all entry_ok (listed_of t a)) (distinct (listed_of t a)) (lists_wf t a (formed_parts t a h).2)).1

  pub listed-within : Within (listed_of t a)
  unfolding listed_of
  listed-within =
      let o = (formed_parts t a h).2 in
      let l = few t a o in
      let d : distinct (meant t (rows_in a)) ≡ true = listed-distinct in
      record { classes = omega (arith, l, class_rows (shaped t a o)); keys = omega (arith, l, key_rows (shaped t a o) d) }

-- ======== one step
module _ (t : Texts) (a b : Attrs) (h : well_formed t a ≡ true) (k : well_formed t b ≡ true) where
  pub step : Within (listed_of t a ++ listed_of t b) → Done (merge_of t a b)
  step w =
      let x = formed_parts t a h in
      ((merge_by_rules t a b).only (Ok tt) (joined_meaning (meaning_of t a) (meaning_of t b))
      (SizeGiven.short (text_short t.first x.0) (Utf8Given.text (utf8.sound t.first (text_utf8 t.first x.0))
      (SizeGiven.short (text_short t.second x.1) (Utf8Given.text (utf8.sound t.second (text_utf8 t.second x.1))
      (MergeGiven.formed h k (LimitGiven.within w.classes w.keys))))))).0

  -- and only there
  pub step_only : Done (merge_of t a b) → Within (listed_of t a ++ listed_of t b)
  step_only d =
      let g = merge_gives t a b d in
      let w : Within (puts (listed_of t a) (listed_of t b)) = rw g.lists at (listed-within t (merge_of t a b).set g.formed) in
      within_by (put_alike (listed_of t a) (listed_of t b) (listed-distinct t a h)) w

-- ======== any number of sets, left to right
record Merged (t : Texts) (f : Filled) (m : List Entry) : Type 0 where
  done : Done f
  well : well_formed t f.set ≡ true
  lists : listed_of t f.set ≡ m

each : (t : Texts) (a : Attrs) (bs : List Attrs) → well_formed t a ≡ true → AllFormed t bs → Within (listed_of t a ++ all_listed t bs) → Merged t (merge_each t a bs) (puts (listed_of t a) (all_listed t bs))
unfolding merge_each flat_map puts all
each t a [] h g w = record { done = refl; well = h; lists = refl }
each t a (b ∷ bs) h g w =
    let x = listed_of t a in
    let y = listed_of t b in
    let z = all_listed t bs in
    let k = both (well_formed t b) (all (well_formed t) bs) g in
    let d = step t a b h k.0 (front_within x y (listed-distinct t a h) z w) in
    let m = merge_gives t a b d in
    let v : Within (listed_of t (merge_of t a b).set ++ z) = rw m.lists (back_by (left_alike x y (listed-distinct t a h) z) w) in
    let r = each t (merge_of t a b).set bs m.formed k.1 v in
    rw (d, puts-append x y z, ← m.lists) r

-- and only there
refuses : {A : Type 0} {r : Refusal} → Err r ≡ passed → A
refuses e = let z : ◌≡◌ {A = ℕ} 0 1 = cc in absurd (omega arith)

each_only : (t : Texts) (a : Attrs) (bs : List Attrs) → well_formed t a ≡ true → AllFormed t bs → Done (merge_each t a bs) → Within (listed_of t a ++ all_listed t bs)
unfolding merge_each flat_map all
each_only t a [] h g d = rw (append-nil (listed_of t a)) (listed-within t a h)
each_only t a (b ∷ bs) h g d = let k = both (well_formed t b) (all (well_formed t) bs) g in go (merge_of t a b).outcome refl d (λ f q. each_only t (merge_of t a b).set bs f k.1 q)
  where
    go : (o : Result (Unit {0}) Refusal) → (merge_of t a b).outcome ≡ o → Done (unless_refused o (merge_each t (merge_of t a b).set bs))
        → (well_formed t (merge_of t a b).set ≡ true → Done (merge_each t (merge_of t a b).set bs) → Within (listed_of t (merge_of t a b).set ++ all_listed t bs))
        → Within (listed_of t a ++ (listed_of t b ++ all_listed t bs))
    go (Err r) e q ih = refuses q
    go (Ok tt) e q ih =
        let m = merge_gives t a b e in
        let w : Within (puts (listed_of t a) (listed_of t b) ++ all_listed t bs) = rw m.lists at (ih m.formed q) in
        within_by (left_alike (listed_of t a) (listed_of t b) (listed-distinct t a h) (all_listed t bs)) w

-- what they mean
pub first_means : (t : Texts) (a : Attrs) (bs : List Attrs) → well_formed t a ≡ true → all_mean t (a ∷ bs) ≡ classes_once (puts (listed_of t a) (all_listed t bs))
unfolding flat_map
first_means t a bs h = all_means t (a ∷ bs) ∙ ap classes_once (puts-append [] (listed_of t a) (all_listed t bs) ∙ ap (λ m. puts m (all_listed t bs)) (puts_none (listed_of t a) (listed-distinct t a h)))

pub several_merge : SeveralMerge
unfolding all flat_map meaning_of
several_merge t a bs f w =
    let k = both (well_formed t a) (all (well_formed t) bs) f in
    let r = each t a bs k.0 k.1 w in
    record { passes = r.done; formed = r.well; means = ap classes_once r.lists ∙ sym (first_means t a bs k.0) }

pub several_only : SeveralOnly
unfolding all flat_map
several_only t a bs f d = let k = both (well_formed t a) (all (well_formed t) bs) f in each_only t a bs k.0 k.1 d

-- ======== three sets
module _ (t : Texts) (a b c : Attrs) (f : AllFormed t (a ∷ b ∷ c ∷ [])) where
  abbrev x : List Entry
  x = listed_of t a

  abbrev y : List Entry
  y = listed_of t b

  abbrev z : List Entry
  z = listed_of t c

  formed : (well_formed t a ≡ true) × (well_formed t b ≡ true) × (well_formed t c ≡ true)
  unfolding all
  formed =
      let p = both (well_formed t a) (all (well_formed t) (b ∷ c ∷ [])) f in
      let q = both (well_formed t b) (all (well_formed t) (c ∷ [])) p.1 in
      (p.0, q.0, (both (well_formed t c) true q.1).0)

  listed-all : all_listed t (a ∷ b ∷ c ∷ []) ≡ x ++ (y ++ z)
  unfolding flat_map
  listed-all = ap (λ l. x ++ (y ++ l)) (append-nil z)

  apart_a : distinct x ≡ true
  apart_a = listed-distinct t a formed.0

  apart_b : distinct y ≡ true
  apart_b = listed-distinct t b formed.1

  module _ (v : AllWithin t (a ∷ b ∷ c ∷ [])) where
    whole : Within (x ++ (y ++ z))
    whole = rw listed-all at v

    left_passes : LeftPasses t a b c
    left_passes =
        let d = step t a b formed.0 formed.1 (front_within x y apart_a z whole) in
        let m = merge_gives t a b d in
        record { first = d; second = step t (merge_of t a b).set c m.formed formed.2 (rw m.lists (back_by (left_alike x y apart_a z) whole)) }

    right_passes : RightPasses t a b c
    right_passes =
        let d = step t b c formed.1 formed.2 (behind-within x (y ++ z) whole) in
        let m = merge_gives t b c d in
        record { first = d; second = step t a (merge_of t b c).set formed.0 m.formed (rw m.lists (back_by (right_alike x y apart_a z apart_b) whole)) }

    lists_left : listed_of t (from_left t a b c).set ≡ puts (puts x y) z
    lists_left = (merge_gives t (merge_of t a b).set c left_passes.second).lists ∙ ap (λ m. puts m z) (merge_gives t a b left_passes.first).lists

    lists_right : listed_of t (from_right t a b c).set ≡ puts (puts x y) z
    lists_right = (merge_gives t a (merge_of t b c).set right_passes.second).lists ∙ ap (puts x) (merge_gives t b c right_passes.first).lists ∙ sym (put_associative x y z apart_b)

    means : classes_once (puts (puts x y) z) ≡ all_mean t (a ∷ b ∷ c ∷ [])
    unfolding flat_map
    means = ap classes_once (sym (ap (puts x) (ap (λ l. y ++ l) (append-nil z)) ∙ puts-append x y z)) ∙ sym (first_means t a (b ∷ c ∷ []) formed.0)

    pub groups_mean : GroupsMean t a b c (all_mean t (a ∷ b ∷ c ∷ []))
    unfolding meaning_of
    groups_mean = record { left = ap classes_once lists_left ∙ means; right = ap classes_once lists_right ∙ means; lists = lists_left ∙ sym lists_right }

  within_left : LeftPasses t a b c → AllWithin t (a ∷ b ∷ c ∷ [])
  within_left p =
      let m = merge_gives t a b p.first in
      let w : Within (puts x y ++ z) = rw m.lists at (step_only t (merge_of t a b).set c m.formed formed.2 p.second) in
      rw listed-all (within_by (left_alike x y apart_a z) w)

  within_right : RightPasses t a b c → AllWithin t (a ∷ b ∷ c ∷ [])
  within_right p =
      let m = merge_gives t b c p.first in
      let w : Within (x ++ puts y z) = rw m.lists at (step_only t a (merge_of t b c).set formed.0 m.formed p.second) in
      rw listed-all (within_by (right_alike x y apart_a z apart_b) w)

-- ======== the theorems
pub no_step_refused : NoStepRefused
no_step_refused t a b c f w = (left_passes t a b c f w, right_passes t a b c f w)

pub only_within : OnlyWithin
only_within t a b c f = (within_left t a b c f, within_right t a b c f)

pub pass_together : PassTogether
pass_together t a b c f = (λ p. right_passes t a b c f (within_left t a b c f p), λ p. left_passes t a b c f (within_right t a b c f p))

pub any_grouping : AnyGrouping
any_grouping t a b c f w = groups_mean t a b c f w

pub leading_groups : LeadingGroups
leading_groups t a b c = record { left = refl; right = refl }
