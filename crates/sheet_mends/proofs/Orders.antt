-- The answers of mending by its order, check by check; and the join buffer behind the tries.
-- Assumes nothing.
use Rattle.std.specs.Prelude.{Err, Ok, Result, None, Option, Some}
use mathlib.Core.Path.{◌≡◌, refl, sym, ◌∙◌, ap}
use mathlib.Core.Bool.{Bool, true, false, not}
use mathlib.Core.List.{List, [], ◌∷◌, ◌++◌, append-nil}
use Prim.Native.Nat.{ℕ, ◌≤◌, ◌<◌}
use borrow.Author.Tests.{lt-ltb, le-ltb, not-true, not-false}
use lib.ListN.{length}
use lib.Seq.{slice}
use Rattle.base_lists.specs.Lists.{over, same}
use Rattle.base_refusals.specs.Numbers.{max_text}
use Rattle.base_refusals.specs.Numbers as numbers
use Rattle.base_refusals.specs.Orders.{Ground, in_order, on_paper}
use Rattle.base_refusals.specs.declared.Refusal.{Refusal}
use Rattle.base_refusals.specs.declared.Refusal.TheVariants.{NothingThere, JoinFull, NotAnIndex, TableFull, AnotherVersion, IndexTooLong}
use Rattle.base_refusals.proofs.Orders.{paper_by}
use Rattle.text_checks.specs.Check.{text_order, check_of, both_order, both_of, is_text}
use Rattle.text_checks.proofs.Texts.{passed}
use Rattle.sheet_blocks.specs.Sheets.{Try, tries_at, join_behind}
use Rattle.sheet_blocks.proofs.Goes.{join_append}
use Rattle.sheet_records.specs.Records.{Record, index_version, index_text, index_rows, table_numbers}
use Rattle.sheet_records.specs.Listed.{records_of}
use Rattle.sheet_records.specs.Computed.{is_other}
use Rattle.sheet_records.specs.Writing.{table_size}
use Rattle.sheet_index.specs.Building.{room_for, laid_by, built_paper}
use Rattle.sheet_index.proofs.Steps.{order_met, order_past, order_parts, join_twice}
use Rattle.sheet_edits.specs.Edits.{again_of, again_text}
use Rattle.sheet_mends.specs.Mending.{edit_order, version_order, old_order, mend_order, mended_of, mended_text, mended_table, mend_tries}
use Rattle.sheet_mends.specs.Assembled.{answered_by, table_by, text_by, behind_edit, compared_tries, version_tries, join_and_edit, checked_tries}

-- both texts are texts where neither is refused
pub both_texts : (t u : List ℕ) {c : Result (Unit {0}) Refusal} → c ≡ both_of t u → c ≡ Ok tt → (is_text t ≡ true) × (is_text u ≡ true)
unfolding both_of check_of
both_texts t u e f = let w = order_parts (text_order t) (text_order u) (sym e ∙ f) in (sym (passed t refl w.0), sym (passed u refl w.1))

-- ---- what is answered by an order, and what is laid

module _ (rs : List Record) (table₀ out₀ : List ℕ) where
  abbrev pub Meets : List Ground → Result (ℕ × ℕ) Refusal → List ℕ → List ℕ → Type 0
  Meets gs r table out = (r ≡ answered_by gs rs) × ((table ≡ table_by gs rs table₀) × (out ≡ text_by gs rs out₀))

  pub meets_met : (gs hs : List Ground) {q : Refusal} → in_order Err gs numbers.passed ≡ Err q → Meets (gs ++ hs) (Err q) table₀ out₀
  meets_met gs hs m = (
    sym (order_met Err (Ok (length rs, length (index_text rs))) gs hs m),
    (
      ap (λ xs. over xs table₀) (sym (order_met (λ q. []) (table_numbers (index_rows rs)) gs hs m)),
      ap (λ xs. over xs out₀) (sym (order_met (λ q. []) (index_text rs) gs hs m)),
    ),
  )

  pub meets_past : (gs hs : List Ground) {r : Result (ℕ × ℕ) Refusal} {table out : List ℕ} → in_order Err gs numbers.passed ≡ numbers.passed → Meets hs r table out → Meets (gs ++ hs) r table out
  meets_past gs hs m h = (
    h.0 ∙ sym (order_past Err (Ok (length rs, length (index_text rs))) gs hs m),
    (
      h.1.0 ∙ ap (λ xs. over xs table₀) (sym (order_past (λ q. []) (table_numbers (index_rows rs)) gs hs m)),
      h.1.1 ∙ ap (λ xs. over xs out₀) (sym (order_past (λ q. []) (index_text rs) gs hs m)),
    ),
  )

  -- 15 and 19
  module _ {k m : ℕ} (a : k ≡ length rs) (b : m ≡ length (index_text rs)) where
    abbrev room : List Ground
    room = room_for (length table₀) (length out₀) rs

    pub room_table : table_size (length table₀) < k → Meets room (Err TableFull) table₀ out₀
    unfolding room_for in_order
    room_table h = rw (lt-ltb (table_size (length table₀)) (length rs) (rw a at h)) (refl, (refl, refl))

    module _ (f : k ≤ table_size (length table₀)) where
      pub room_text : length out₀ < m → Meets room (Err IndexTooLong) table₀ out₀
      unfolding room_for in_order
      room_text h = rw (le-ltb (table_size (length table₀)) (length rs) (rw a at f), lt-ltb (length out₀) (length (index_text rs)) (rw b at h)) (refl, (refl, refl))

      pub room_whole : m ≤ length out₀ → {table out : List ℕ} → table ≡ over (table_numbers (index_rows rs)) table₀ → out ≡ over (index_text rs) out₀ → Meets room (Ok (k, m)) table out
      unfolding room_for in_order
      room_whole h c d =
          rw (le-ltb (table_size (length table₀)) (length rs) (rw a at f), le-ltb (length out₀) (length (index_text rs)) (rw b at h), a, b) (refl, (c, d))

-- the same tries twice over, once for measuring and once for laying
pub twice : (buf : List ℕ) (xs : List Try) {j k : List ℕ} → j ≡ join_behind buf xs → k ≡ join_behind j xs → k ≡ join_behind buf xs
twice buf xs e f = f ∙ (rw e (join_twice buf xs))

-- ---- 14

module _ (old new index again table₀ out₀ join₀ : List ℕ) where
  abbrev behind_old : List Ground
  behind_old = room_for (length table₀) (length out₀) (records_of new)

  -- what is promised where it is known which lines are read again
  abbrev pub Lined : Result (ℕ × ℕ) Refusal → List ℕ → List ℕ → List ℕ → Type 0
  Lined r join table out =
      (r ≡ answered_by (old_order old index ++ behind_old) (records_of new))
      × ((join ≡ join_behind join₀ (compared_tries old index again))
      × ((table ≡ table_by (old_order old index ++ behind_old) (records_of new) table₀) × (out ≡ text_by (old_order old index ++ behind_old) (records_of new) out₀)))

  module _ {good : Bool} (g : good ≡ same index (index_text (records_of old))) {join : List ℕ} (j : join ≡ join_behind join₀ (tries_at old max_text 1 0)) where
    pub lines_other : not good ≡ true → Lined (Err NotAnIndex) join table₀ out₀
    unfolding in_order
    lines_other y =
        let f : same index (index_text (records_of old)) ≡ false = sym g ∙ not-true good y in
        let w = meets_met (records_of new) table₀ out₀ (old_order old index) behind_old {q = NotAnIndex} (rw f) in
        (w.0, (rw (f, append-nil (tries_at old max_text 1 0)) j, w.1))

    module _ (y : not good ≡ false) where
      own : same index (index_text (records_of old)) ≡ true
      own = sym g ∙ not-false good y

      pub lines_own : {r : Result (ℕ × ℕ) Refusal} {join' table out : List ℕ} → Meets (records_of new) table₀ out₀ behind_old r table out → join' ≡ join_behind join (tries_at again max_text 1 0) → Lined r join' table out
      unfolding in_order
      lines_own h k =
          let w = meets_past (records_of new) table₀ out₀ (old_order old index) behind_old (rw own) h in
          (w.0, (k ∙ (rw (j, own) (sym (join_append join₀ (tries_at old max_text 1 0) (tries_at again max_text 1 0)))), w.1))

-- ---- 16

module _ (old new index again table₀ out₀ join₀ : List ℕ) where
  abbrev behind_first : List Ground
  behind_first = old_order old index ++ room_for (length table₀) (length out₀) (records_of new)

  -- what is promised of an index of any version
  abbrev pub Versioned : Result (ℕ × ℕ) Refusal → List ℕ → List ℕ → List ℕ → Type 0
  Versioned r join table out =
      (r ≡ answered_by (version_order index ++ behind_first) (records_of new))
      × ((join ≡ join_behind join₀ (version_tries old index again))
      × ((table ≡ table_by (version_order index ++ behind_first) (records_of new) table₀) × (out ≡ text_by (version_order index ++ behind_first) (records_of new) out₀)))

  module _ {other : Bool} (e : other ≡ is_other index_version index) where
    pub version_other : other ≡ true → Versioned (Err AnotherVersion) join₀ table₀ out₀
    unfolding in_order join_behind
    version_other y =
        let f : is_other index_version index ≡ true = sym e ∙ y in
        let w = meets_met (records_of new) table₀ out₀ (version_order index) behind_first {q = AnotherVersion} (rw f) in
        (w.0, (rw f, w.1))

    pub version_own : other ≡ false → {r : Result (ℕ × ℕ) Refusal} {join table out : List ℕ} → Lined old new index again table₀ out₀ join₀ r join table out → Versioned r join table out
    unfolding in_order
    version_own y h =
        let f : is_other index_version index ≡ false = sym e ∙ y in
        let w = meets_past (records_of new) table₀ out₀ (version_order index) behind_first (rw f) (h.0, h.1.1) in
        (w.0, (h.1.0 ∙ rw f, w.1))

-- ---- 9 and 3

module _ (old new : List ℕ) (a b : ℕ) (index table₀ out₀ join₀ : List ℕ) where
  abbrev edit : List Ground
  edit = join_and_edit old new a b (length join₀)

  abbrev rest : List Ground
  rest = behind_edit old new index (length table₀) (length out₀)

  -- what is promised behind 1 and 2
  abbrev pub Edited : Result (ℕ × ℕ) Refusal → List ℕ → List ℕ → List ℕ → Type 0
  Edited r join table out =
      (r ≡ answered_by (edit ++ rest) (records_of new))
      × ((join ≡ join_behind join₀ (checked_tries old new a b index (length join₀)))
      × ((table ≡ table_by (edit ++ rest) (records_of new) table₀) × (out ≡ text_by (edit ++ rest) (records_of new) out₀)))

  refused_edit : {q : Refusal} → in_order Err edit numbers.passed ≡ Err q → laid_by edit (version_tries old index (again_text new (again_of old new a b))) ≡ [] → Edited (Err q) join₀ table₀ out₀
  unfolding join_behind
  refused_edit m z = let w = meets_met (records_of new) table₀ out₀ edit rest m in (w.0, (rw z, w.1))

  pub edit_join : length join₀ < max_text → Edited (Err JoinFull) join₀ table₀ out₀
  unfolding in_order
  edit_join h = refused_edit (rw (lt-ltb (length join₀) max_text h)) (rw (lt-ltb (length join₀) max_text h))

  module _ (wide : max_text ≤ length join₀) {x : Option (ℕ × ℕ × ℕ)} (e : x ≡ again_of old new a b) where
    pub edit_missing : x ≡ None → Edited (Err NothingThere) join₀ table₀ out₀
    unfolding in_order
    edit_missing y = refused_edit (rw (le-ltb (length join₀) max_text wide, ← e, y)) (rw (le-ltb (length join₀) max_text wide, ← e, y))

    pub edit_lines : {p q n : ℕ} → x ≡ Some (p, q, n) → {r : Result (ℕ × ℕ) Refusal} {join table out : List ℕ} → Versioned old new index (slice p n new) table₀ out₀ join₀ r join table out → Edited r join table out
    unfolding in_order
    edit_lines y h =
        let m : in_order Err edit numbers.passed ≡ numbers.passed = rw (le-ltb (length join₀) max_text wide, ← e, y) in
        let w = meets_past (records_of new) table₀ out₀ edit rest m (h.0, h.1.1) in
        (w.0, (h.1.0 ∙ (rw (le-ltb (length join₀) max_text wide, ← e, y)), w.1))

  -- ---- 1 and 2, and the whole

  abbrev pub Mended : Result (ℕ × ℕ) Refusal → List ℕ → List ℕ → List ℕ → Type 0
  Mended r join table out =
      (r ≡ mended_of old new a b index (length join₀) (length table₀) (length out₀))
      × ((join ≡ join_behind join₀ (mend_tries old new a b index (length join₀)))
      × ((table ≡ over (mended_table old new a b index (length join₀) (length table₀) (length out₀)) table₀)
      × ((out ≡ over (mended_text old new a b index (length join₀) (length table₀) (length out₀)) out₀)
      × (built_paper r ≡ on_paper (mend_order old new a b index (length join₀) (length table₀) (length out₀)) (length (records_of new) ∷ length (index_text (records_of new)) ∷ [])))))

  paper : built_paper (mended_of old new a b index (length join₀) (length table₀) (length out₀)) ≡ on_paper (mend_order old new a b index (length join₀) (length table₀) (length out₀)) (length (records_of new) ∷ length (index_text (records_of new)) ∷ [])
  unfolding mended_of on_paper in_order
  paper =
      paper_by built_paper Err (length (records_of new) ∷ length (index_text (records_of new)) ∷ []) (λ r. refl) (mend_order old new a b index (length join₀) (length table₀) (length out₀)) [] {next = Ok (length (records_of new), length (index_text (records_of new)))} refl
      ∙ ap (λ gs. on_paper gs (length (records_of new) ∷ length (index_text (records_of new)) ∷ [])) (append-nil (mend_order old new a b index (length join₀) (length table₀) (length out₀)))

  whole : {r : Result (ℕ × ℕ) Refusal} {join table out : List ℕ} → Meets (records_of new) table₀ out₀ (both_order old new ++ (edit ++ rest)) r table out
      → join ≡ join_behind join₀ (laid_by (both_order old new ++ edit) (version_tries old index (again_text new (again_of old new a b)))) → Mended r join table out
  unfolding mended_of mended_table mended_text mend_tries mend_order edit_order
  whole {r} h j =
      let z : r ≡ mended_of old new a b index (length join₀) (length table₀) (length out₀) = h.0 in
      (z, (j, (h.1.0, (h.1.1, ap built_paper z ∙ paper))))

  module _ {c : Result (Unit {0}) Refusal} (e : c ≡ both_of old new) where
    pub mend_refused : {q : Refusal} → c ≡ Err q → Mended (Err q) join₀ table₀ out₀
    unfolding both_of join_behind
    mend_refused {q} f =
        let m : in_order Err (both_order old new) numbers.passed ≡ Err q = sym e ∙ f in
        whole (meets_met (records_of new) table₀ out₀ (both_order old new) (edit ++ rest) m)
        (ap (join_behind join₀) (sym (order_met (λ q. []) (version_tries old index (again_text new (again_of old new a b))) (both_order old new) edit m)))

    pub mend_passed : {r : Result (ℕ × ℕ) Refusal} {join table out : List ℕ} → c ≡ Ok tt → Edited r join table out → Mended r join table out
    unfolding both_of
    mend_passed f h =
        let m : in_order Err (both_order old new) numbers.passed ≡ numbers.passed = sym e ∙ f in
        whole (meets_past (records_of new) table₀ out₀ (both_order old new) (edit ++ rest) m (h.0, h.1.1))
        (h.1.0 ∙ ap (join_behind join₀) (sym (order_past (λ q. []) (version_tries old index (again_text new (again_of old new a b))) (both_order old new) edit m)))
