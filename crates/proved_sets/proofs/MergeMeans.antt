-- What a merge comes to: the set that it hands out lists the one put into the other, means that with each class once, and is well-formed; a set with nothing
-- in it merges as nothing.
-- Assumes nothing.
use Rattle.std.specs.Prelude.{Err, Ok, Result}
use mathlib.Core.Path.{◌≡◌, refl, ◌∙◌, ap, sym}
use mathlib.Core.Bool.{Bool, true, false, cond}
use mathlib.Core.List.{List, [], ◌∷◌, flat_map, ◌++◌}
use Prim.Native.Nat.{ℕ, zero, suc, ◌≤◌, ◌<◌}
use native.Mathlib.Omega.{arith}
use lib.Dec.{ltb}
use lib.ListN.{length, get_or}
use borrow.Author.Tests.{ltb-false, le-ltb}
use Rattle.base_lists.specs.Lists.{all, same}
use Rattle.base_lists.proofs.Scan.{both}
use Rattle.base_refusals.specs.Numbers.{passed}
use Rattle.base_refusals.specs.declared.Refusal.{Refusal}
use Rattle.text_checks.specs.Check.{both_of}
use Rattle.proved_sets.specs.Formed.{entry_ok, wf, HasNothing}
use Rattle.block_grammar.specs.Meaning.{class_name, lookup, Entry, is_class, fresh_after, classes_once}
use Rattle.proved_grammar.specs.Meaning.{puts, slot_names, distinct}
use Rattle.set_table.specs.Types.{Texts, max_classes, max_keys, zero_row}
use Rattle.set_table.specs.Rows.{Rows, Put, no_rows, is_named, put_row, with_put, with_puts, table_of, rows_in, meant, meaning_of, listed_of}
use Rattle.set_table.specs.Shape.{Shaped}
use Rattle.set_table.specs.declared.Attrs.{Attrs}
use Rattle.set_table.specs.declared.Name.{Name}
use Rattle.set_table.specs.declared.Row.{Row}
use Rattle.set_table.specs.declared.Value.{Value}
use Rattle.set_table.specs.declared.Slot.TheVariants.{Class}
use Rattle.proved_sets.proofs.TableMeant.{shaped_puts, puts-meant}
use Rattle.set_table.proofs.Whole.{rows_table}
use Rattle.set_wellformed.specs.WellFormed.{rows_ok, table_ok, well_formed}
use Rattle.set_wellformed.proofs.Shape.{table_passed, shaped}
use Rattle.proved_sets.proofs.PutsKept.{put_ok, rows_puts, table_ok_lem, nothing_rows, empty_formed}
use Rattle.proved_sets.specs.Merged.{merge_meaning, MergeGives, EmptyMerges, new_slots}
use Rattle.set_table.specs.declared.Filled.{Filled}
use Rattle.set_table.specs.Filled.{limited}
use Rattle.set_table.proofs.Puts.{is_allowed, put_grows}
use Rattle.set_merge.specs.Merge.{puts_by, merge_of}
use Rattle.set_merge.proofs.Rest.{count_classes}
use Rattle.set_merge.proofs.Whole.{few}
use Rattle.proved_sets.proofs.MergeByNames.{values_merged, puts-lookup, merged_classes, puts_slots, puts_none}
use Rattle.proved_sets.proofs.MergePuts.{good_puts, says, all_allowed}
use Rattle.proved_sets.proofs.TableWhole.{table_lists}
use Rattle.proved_sets.proofs.MergeRest.{own_keys}
use Rattle.proved_sets.proofs.WellFormedMeans.{means_wf, lists_wf}
use Rattle.proved_sets.proofs.WellFormedShape.{passed_rows, formed_parts, both_pass, both_texts}
use Rattle.block_grammar.proofs.Once.{once_lookup, once_twice}
use Rattle.proved_grammar.proofs.Once.{puts_once, once_slots}
use Rattle.proved_grammar.specs.Merged.{joined_meaning}

-- ---- what puts do to the names of rows that are there
module _ (t : Texts) (k : ℕ) where
  row_name : (n : Name) (v : Value) (rs : List Row) (k : ℕ) → k < length rs → (get_or (put_row t n v rs) k zero_row).name ≡ (get_or rs k zero_row).name
  unfolding put_row
  row_name n v [] k l = absurd (omega arith)
  row_name n v (r ∷ rs) k l = go (is_named t n r) k l (row_name n v rs)
    where
      go : (b : Bool) (k : ℕ) → k < suc (length rs) → ((k : ℕ) → k < length rs → (get_or (put_row t n v rs) k zero_row).name ≡ (get_or rs k zero_row).name)
          → (get_or (cond b (record { name = r.name; value = v } ∷ rs) (r ∷ put_row t n v rs)) k zero_row).name ≡ (get_or (r ∷ rs) k zero_row).name
      go true zero l ih = refl
      go true (suc k) l ih = refl
      go false zero l ih = refl
      go false (suc k) l ih = ih k (omega arith)

  put_name : (s : Rows) (p : Put) → k < length s.keys → (get_or (with_put t s p).keys k zero_row).name ≡ (get_or s.keys k zero_row).name
  unfolding with_put
  put_name s (Put.ident v) l = refl
  put_name s (Put.class v) l = refl
  put_name s (Put.key n v) l = row_name n v s.keys k l

  puts_names : (s : Rows) (ps : List Put) → k < length s.keys → (get_or (with_puts t s ps).keys k zero_row).name ≡ (get_or s.keys k zero_row).name
  unfolding with_puts
  puts_names s [] l = refl
  puts_names s (p ∷ ps) l = puts_names (with_put t s p) ps (omega (arith, put_grows t s p)) ∙ put_name s p l

-- ---- the rows that a merge comes to
module _ (t : Texts) (a b : Attrs) where
  abbrev pub whole : Rows
  whole = with_puts t (rows_in a) (puts_by (rows_in b))

  -- what a set handed out says of its making
  record Gave : Type 0 where
    text : both_of t.first t.second ≡ Ok tt
    first : table_ok t a ≡ true
    second : table_ok t b ≡ true
    classes : length whole.classes ≤ max_classes
    keys : length whole.keys ≤ max_keys
    is : (merge_of t a b).set ≡ table_of whole

  -- they are as well-formed as those of the two sets
  module _ (f : table_ok t a ≡ true) (g : table_ok t b ≡ true) where
    good : all (put_ok t) (puts_by (rows_in b)) ≡ true
    good = good_puts (table_passed t b g)

    allowed : all (is_allowed t) (puts_by (rows_in b)) ≡ true
    allowed = all_allowed t (puts_by (rows_in b)) good

    pub whole_shaped : Shaped t whole
    whole_shaped = shaped_puts (shaped t a f) (puts_by (rows_in b)) allowed

    whole_good : rows_ok t whole ≡ true
    whole_good = rows_puts t (rows_in a) (puts_by (rows_in b)) (passed_rows (table_passed t a f)) good

    pub whole_lists : meant t whole ≡ puts (listed_of t a) (listed_of t b)
    unfolding listed_of
    whole_lists = puts-meant (shaped t a f) (puts_by (rows_in b)) allowed ∙ says (table_passed t b g) (meant t (rows_in a))

abbrev Done : Filled → Type 0
Done f = f.outcome ≡ Ok tt

refuses : {A : Type 0} {r : Refusal} → Err r ≡ passed → A
refuses e = let z : ◌≡◌ {A = ℕ} 0 1 = cc in absurd (omega arith)

module _ (t : Texts) (a b : Attrs) where
  gave : Done (merge_of t a b) → Gave t a b
  unfolding merge_of limited
  gave = go (both_of t.first t.second) refl (table_ok t a) refl (table_ok t b) refl (ltb max_classes (length (whole t a b).classes)) refl (ltb max_keys (length (whole t a b).keys)) refl
    where
      go : (c : Result (Unit {0}) Refusal) → both_of t.first t.second ≡ c → (x : Bool) → table_ok t a ≡ x → (y : Bool) → table_ok t b ≡ y
          → (p : Bool) → ltb max_classes (length (whole t a b).classes) ≡ p → (q : Bool) → ltb max_keys (length (whole t a b).keys) ≡ q → Done (merge_of t a b) → Gave t a b
      go (Err r) e x f y g p h q i d = refuses (rw e at d)
      go (Ok _) e false f y g p h q i d = refuses (rw (e, f) at d)
      go (Ok _) e true f false g p h q i d = refuses (rw (e, f, g) at d)
      go (Ok _) e true f true g true h q i d = refuses (rw (e, f, g, h) at d)
      go (Ok _) e true f true g false h true i d = refuses (rw (e, f, g, h, i) at d)
      go (Ok tt) e true f true g false h false i d =
          let c = ltb-false max_classes (length (whole t a b).classes) h in
          let k = ltb-false max_keys (length (whole t a b).keys) i in
          record { text = e; first = f; second = g; classes = c; keys = k; is = rw (e, f, g, h, i) }

  -- ======== the set that is handed out
  module _ (d : Done (merge_of t a b)) where
    merge_lists : listed_of t (merge_of t a b).set ≡ puts (listed_of t a) (listed_of t b)
    merge_lists = let g = gave d in ap (listed_of t) g.is ∙ table_lists (whole t a b) t ∙ whole_lists t a b g.first g.second

    -- each class once: before the merge or behind it
    pub merge_means : merge_meaning t a b ≡ joined_meaning (meaning_of t a) (meaning_of t b)
    unfolding meaning_of joined_meaning
    merge_means = ap classes_once merge_lists ∙ sym (puts_once (listed_of t a) (listed_of t b))

    second_distinct : distinct (meaning_of t b) ≡ true
    unfolding wf
    second_distinct = (both (all entry_ok (meaning_of t b)) (distinct (meaning_of t b)) (means_wf t b (gave d).second)).1

    -- by names: what b has of a name wins, its classes are joined; what it hasn't stays
    merge_values : (n : List ℕ) → lookup n (merge_meaning t a b) ≡ cond (is_class n) (fresh_after [] (values_merged n (meaning_of t a) (meaning_of t b))) (values_merged n (meaning_of t a) (meaning_of t b))
    unfolding joined_meaning
    merge_values n =
        let m = puts (meaning_of t a) (meaning_of t b) in
        ap (lookup n) merge_means ∙ once_lookup n m ∙ ap (λ v. cond (is_class n) (fresh_after [] v) v) (puts-lookup n (meaning_of t b) (meaning_of t a) second_distinct)

    formed : well_formed t (merge_of t a b).set ≡ true
    unfolding well_formed
    formed =
        let g = gave d in
        let z = both_texts t g.text in
        rw (z.0, z.1, g.is) (table_ok_lem t (whole t a b) (whole_good t a b g.first g.second) g.classes g.keys)

-- what a meaning has under a name is each once already
own_values : (t : Texts) (a : Attrs) (n : List ℕ) → cond (is_class n) (fresh_after [] (lookup n (meaning_of t a))) (lookup n (meaning_of t a)) ≡ lookup n (meaning_of t a)
unfolding meaning_of
own_values t a n = sym (once_lookup n (classes_once (listed_of t a))) ∙ ap (lookup n) (once_twice (listed_of t a))

joined_slots : (m n : List Entry) → distinct n ≡ true → slot_names (joined_meaning m n) ≡ slot_names m ++ new_slots m n
unfolding joined_meaning
joined_slots m n d = once_slots (puts m n) ∙ puts_slots n m d

pub merge_gives : MergeGives
unfolding is_class same
merge_gives t a b d =
    record {
      lists = merge_lists t a b d;
      means = merge_means t a b d;
      later_wins = λ n q c. merge_values t a b d n ∙ (rw (q, c));
      earlier_stays = λ n q. merge_values t a b d n ∙ (rw q) ∙ own_values t a n;
      classes_joined = merge_values t a b d class_name ∙ ap (fresh_after []) (merged_classes (meaning_of t a) (meaning_of t b));
      new_behind = ap slot_names (merge_means t a b d) ∙ joined_slots (meaning_of t a) (meaning_of t b) (second_distinct t a b d);
      rows_kept = λ k l. rw ((gave t a b d).is, rows_table (whole t a b)) (puts_names t k (rows_in a) (puts_by (rows_in b)) l);
      formed = formed t a b d;
    }

-- ======== "An empty set is well-formed and merges as nothing."
module _ (t : Texts) {e : Attrs} (n : HasNothing e) (a : Attrs) (p : both_of t.first t.second ≡ Ok tt) (h : table_ok t a ≡ true) where
  merge_empty : merge_of t a e ≡ record { outcome = Ok tt; set = table_of (rows_in a) }
  unfolding merge_of limited flat_map with_puts
  merge_empty =
      let s = rows_in a in
      let l = few t a h in
      rw (p, h, empty_formed t e n, nothing_rows n, le-ltb max_classes (length s.classes) l.0, le-ltb max_keys (length s.keys) l.1)

  empty_merge : Done (merge_of t e a)
  unfolding merge_of limited
  empty_merge =
      let w = with_puts t (rows_in e) (puts_by (rows_in a)) in
      let l = few t a h in
      let c : length w.classes ≤ max_classes = rw (nothing_rows n) (omega (arith, count_classes t (rows_in a) no_rows ((shaped t a h).once Class), l)) in
      let k : length w.keys ≤ max_keys = rw (nothing_rows n) (omega (arith, own_keys t (rows_in a) (shaped t a h), l)) in
      rw (p, h, empty_formed t e n, le-ltb max_classes (length w.classes) c, le-ltb max_keys (length w.keys) k)

  lists_none : listed_of t e ≡ []
  unfolding listed_of meant
  lists_none = rw (nothing_rows n)

  empty_keeps : listed_of t (merge_of t e a).set ≡ listed_of t a
  unfolding wf
  empty_keeps =
      let d = (both (all entry_ok (listed_of t a)) (distinct (listed_of t a)) (lists_wf t a h)).1 in
      merge_lists t e a empty_merge ∙ (rw lists_none (puts_none (listed_of t a) d))

pub empty_merges : EmptyMerges
empty_merges t e a n w =
    let z = formed_parts t a w in
    let p = both_pass t z.0 z.1 in
    record { behind = merge_empty t n a p z.2; passes = empty_merge t n a p z.2; keeps = empty_keeps t n a p z.2 }
