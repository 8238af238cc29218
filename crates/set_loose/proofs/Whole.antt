-- The set without its row, and which answer is given.
-- Assumes nothing.
use Rattle.std.specs.Prelude.{Err, Ok, Result}
use mathlib.Core.Path.{◌≡◌, refl, sym, ◌∙◌, ap}
use mathlib.Core.Bool.{Bool, true, false, cond, not}
use mathlib.Core.List.{List, [], ◌∷◌, map, flat_map}
use Prim.Native.Nat.{ℕ, suc, ◌+◌, ◌-◌, ◌<◌, ◌≤◌}
use native.Mathlib.Omega.{arith}
use borrow.Author.Tests.{lt-ltb, le-ltb}
use lib.Dec.{eqb, ltb}
use lib.ListN.{length, get_or, take, length-take, length-map}
use lib.Seq.{get_or-take}
use Rattle.base_lists.specs.Lists.{same, all, is_some}
use Rattle.base_bytes.specs.Bytes.{is_punct}
use Rattle.text_escapes.specs.Unescape.{unescape, unescape_from}
use Rattle.set_marks.specs.Marks.{bytes_in, raw_bytes, is_quoted}
use Rattle.set_marks.proofs.Values.{raw_value}
use Rattle.block_grammar.specs.Meaning.{lookup}
use Rattle.base_refusals.specs.Numbers.{passed, refused}
use Rattle.base_refusals.specs.Orders.{Ground, in_order, on_paper}
use Rattle.base_refusals.proofs.Orders.{paper_by}
use Rattle.base_refusals.proofs.Said.{said}
use Rattle.base_refusals.specs.declared.Refusal.{Refusal}
use Rattle.base_refusals.specs.declared.Refusal.TheVariants.{NotWellFormed}
use Rattle.text_checks.specs.Check.{both_order, both_of}
use Rattle.set_table.specs.Types.{Texts, max_classes, max_keys, max_slots, zero_value, zero_row, zero_slot, empty_set, value_bytes}
use Rattle.set_table.specs.Rows.{padded, held, slot_in, table_of, rows_in, with_puts, listed_of, meaning_of}
use Rattle.set_table.specs.Shape.{is_free, times, Shaped}
use Rattle.set_table.specs.Filled.{refusing, limited}
use Rattle.set_table.specs.declared.Row.{Row}
use Rattle.set_table.specs.declared.Value.{Value}
use Rattle.set_table.specs.declared.Slot.TheVariants.{Key}
use Rattle.set_table.specs.declared.SlotRecord.{SlotRecord}
use Rattle.set_table.specs.declared.Attrs.{Attrs}
use Rattle.set_table.specs.declared.Filled.{Filled}
use Rattle.set_table.proofs.Whole.{rows_table}
use Rattle.set_wellformed.specs.WellFormed.{counts_ok, keys_apart, keys_once, slots_ok, rows_ok, table_ok}
use Rattle.set_wellformed.proofs.Shape.{shaped}
use Rattle.set_merge.specs.Merge.{merge_of}
use Rattle.set_merge.proofs.Whole.{counts, few}
use Rattle.set_loose.specs.declared.Consumed.{Consumed}
use Rattle.set_loose.specs.Without.{without_at, slots_without, without_row}
use Rattle.set_loose.specs.Loose.{loose_name, is_loose, row_named, without_loose, consumed_by, not_consumed, loose_by, loose_of, loose_order, acted_no, did_paper}
use Rattle.set_loose.specs.Inner.{Ready, Clean}
use Rattle.set_loose.proofs.Without.{gone-length}
use Rattle.set_loose.proofs.Walk.{slots_left}
use Rattle.set_loose.proofs.Keys.{table_named}

-- ---- a raw text stands for no bytes exactly when it has none
some_behind : (s : List ℕ) → is_some (unescape_from true s) ≡ true
unfolding unescape_from
some_behind [] = refl
some_behind (b ∷ s) = go (is_punct b)
  where
    go : (x : Bool) → is_some (cond x (b ∷ unescape_from false s) (92 ∷ (b ∷ unescape_from false s))) ≡ true
    go true = refl
    go false = refl

pub some_raw : (q : Bool) (s : List ℕ) → is_some (bytes_in q s) ≡ is_some s
unfolding unescape unescape_from
some_raw false s = refl
some_raw true [] = refl
some_raw true (b ∷ s) = go (eqb b 92)
  where
    go : (x : Bool) → is_some (cond x (unescape_from true s) (b ∷ unescape_from false s)) ≡ true
    go true = some_behind s
    go false = refl

some_long : (s : List ℕ) → 0 < length s → is_some s ≡ true
some_long [] h = absurd (omega arith)
some_long (b ∷ s) h = refl

none_long : (s : List ℕ) → length s ≤ 0 → is_some s ≡ false
none_long [] h = refl
none_long (b ∷ s) h = absurd (omega arith)

-- ---- the table without its row
pub row_out : (a : Attrs) (k : ℕ) → Ready a k → {ks : List Row} {os : List SlotRecord} → ks ≡ padded max_keys zero_row (without_at k (take a.nkey a.keys))
    → os ≡ padded max_slots zero_slot (map held (slots_without k (map slot_in (take a.norder a.order))))
    → record { id = a.id; given = a.given; classes = a.classes; nclass = a.nclass; keys = ks; nkey = a.nkey - 1; order = os; norder = a.norder - 1 } ≡ table_of (without_row k (rows_in a))
unfolding table_of without_row rows_in
row_out a k r e f =
    let c : a.classes ≡ padded max_classes zero_value (take a.nclass a.classes) = ap (λ x. x.classes) r.clean in
    let n : a.nclass ≡ length (take a.nclass a.classes) = ap (λ x. x.nclass) r.clean in
    let m : a.nkey ≡ length (take a.nkey a.keys) = ap (λ x. x.nkey) r.clean in
    let l = gone-length k (take a.nkey a.keys) (omega (arith, r.there)) in
    let p : a.nkey - 1 ≡ length (without_at k (take a.nkey a.keys)) = omega arith in
    let q : a.norder - 1 ≡ length (slots_without k (map slot_in (take a.norder a.order))) = omega (arith, r.slots) in
    let i : a.id ≡ (table_of (rows_in a)).id = ap (λ x. x.id) r.clean in
    let g : a.given ≡ (table_of (rows_in a)).given = ap (λ x. x.given) r.clean in
    rw (e, f, ← c, ← n, ← p, ← q, ← i, ← g)

-- ---- the answer
module _ {t : Texts} {a : Attrs} (h : Clean t a) {k : ℕ} (e : k ≡ row_named t loose_name (take a.nkey a.keys)) where
  long : a.nkey ≡ length (take a.nkey a.keys)
  unfolding table_of rows_in
  long = ap (λ x. x.nkey) h.clean

  slots_long : a.norder ≡ length (map slot_in (take a.norder a.order))
  unfolding table_of rows_in
  slots_long = ap (λ x. x.norder) h.clean

  means : lookup loose_name (meaning_of t a) ≡ cond (ltb k a.nkey) (value_bytes t (get_or (take a.nkey a.keys) k zero_row).value ∷ []) []
  unfolding rows_in is_free same
  means = table_named t a h.shape loose_name refl ∙ rw (← e, ← long)

  row_is_lem : k ≡ row_named t loose_name (rows_in a).keys
  unfolding rows_in
  row_is_lem = e

  stays : is_loose (meaning_of t a) ≡ false → record { did = Ok false; set = a } ≡ consumed_by (is_loose (meaning_of t a)) t (rows_in a)
  stays q = rw (q, ← h.clean)

  pub no_key : a.nkey ≤ k → record { did = Ok false; set = a } ≡ consumed_by (is_loose (meaning_of t a)) t (rows_in a)
  unfolding is_loose
  no_key l = stays (rw (means, le-ltb k a.nkey l))

  module _ (l : k < a.nkey) where
    pub ready : Ready a k
    unfolding rows_in
    ready =
        let o : times (Key k) (map slot_in (take a.norder a.order)) ≡ 1 = h.shape.once (Key k) ∙ rw (← long, lt-ltb k a.nkey l) in
        record { clean = h.clean; nkey = h.nkey; norder = h.norder; there = l; slots = omega (arith, slots_left k (map slot_in (take a.norder a.order)), slots_long) }

    module _ {raw : List ℕ} (d : raw ≡ raw_bytes t (get_or a.keys k zero_row).value) where
      value : is_some (value_bytes t (get_or (take a.nkey a.keys) k zero_row).value) ≡ is_some raw
      value =
          rw (get_or-take a.nkey a.keys k zero_row l, ← raw_value t (get_or a.keys k zero_row).value, d)
          (some_raw (is_quoted (get_or a.keys k zero_row).value) (raw_bytes t (get_or a.keys k zero_row).value))

      acts : is_loose (meaning_of t a) ≡ not (is_some raw)
      unfolding is_loose
      acts = rw (means, lt-ltb k a.nkey l, value)

      pub no_bare : 0 < length raw → record { did = Ok false; set = a } ≡ consumed_by (is_loose (meaning_of t a)) t (rows_in a)
      no_bare p = stays (acts ∙ rw (some_long raw p))

      pub yes_bare : {b : Attrs} → length raw ≤ 0 → b ≡ table_of (without_row k (rows_in a)) → record { did = Ok true; set = b } ≡ consumed_by (is_loose (meaning_of t a)) t (rows_in a)
      yes_bare p g = rw (acts, none_long raw p) (ap (λ x. record { did = Ok true; set = x }) (g ∙ ap (λ j. table_of (without_row j (rows_in a))) row_is_lem))

-- ---- the checks, by a merge with nothing
none_formed : (t : Texts) → table_ok t empty_set ≡ true
unfolding table_ok counts_ok rows_in rows_ok all keys_apart slots_ok keys_once times
none_formed t = refl

module _ (t : Texts) (a : Attrs) where
  merge_none : both_of t.first t.second ≡ Ok tt → table_ok t a ≡ true → merge_of t a empty_set ≡ record { outcome = Ok tt; set = table_of (rows_in a) }
  unfolding merge_of limited flat_map with_puts rows_in
  merge_none p h =
      let s = rows_in a in
      let l = few t a h in
      rw (p, h, none_formed t, le-ltb max_classes (length s.classes) l.0, le-ltb max_keys (length s.keys) l.1)

  slots_few : (a.nclass ≤ max_classes) × (a.nkey ≤ max_keys) × (a.norder ≤ max_slots) → length (rows_in a).order ≤ max_slots
  unfolding rows_in
  slots_few c = rw (length-map (take a.norder a.order) slot_in) (omega (arith, c, length-take a.norder a.order))

  cleaned : table_ok t a ≡ true → Clean t (table_of (rows_in a))
  unfolding table_of
  cleaned h =
      let l = few t a h in
      let c = counts t a h in
      let m = rows_table (rows_in a) in
      record { clean = rw m; nkey = l.1; norder = slots_few c; shape = rw m (shaped t a h) }

  same-meaning : meaning_of t (table_of (rows_in a)) ≡ meaning_of t a
  unfolding meaning_of listed_of
  same-meaning = rw (rows_table (rows_in a))

  module _ {f : Filled} (e : f ≡ merge_of t a empty_set) where
    pub refused_loose : {r : Refusal} → f.outcome ≡ Err r → record { did = Err r; set = f.set } ≡ loose_of t a
    unfolding loose_of merge_of
    refused_loose {r} p = go (both_of t.first t.second) refl (table_ok t a) refl
      where
        go : (c : Result (Unit {0}) Refusal) → both_of t.first t.second ≡ c → (b : Bool) → table_ok t a ≡ b → record { did = Err r; set = f.set } ≡ loose_by (both_of t.first t.second) t a
        go (Err x) q b z =
            let g : f ≡ refusing x = rw q at e in
            let y : refused x ≡ Err r = sym (ap (λ u. u.outcome) g) ∙ p in
            let n : x ≡ r = cc in
            rw (q, g, n)
        go (Ok tt) q false z =
            let g : f ≡ refusing NotWellFormed = rw (q, z) at e in
            let y : refused NotWellFormed ≡ Err r = sym (ap (λ u. u.outcome) g) ∙ p in
            let n : NotWellFormed ≡ r = cc in
            rw (q, z, g, ← n)
        go (Ok tt) q true z =
            let g : f ≡ record { outcome = Ok tt; set = table_of (rows_in a) } = e ∙ merge_none q z in
            let y : passed ≡ Err r = sym (ap (λ u. u.outcome) g) ∙ p in
            let w : ◌≡◌ {A = ℕ} 0 1 = cc in
            absurd (omega arith)

    pub done_loose : f.outcome ≡ Ok tt → (Clean t f.set) × (consumed_by (is_loose (meaning_of t f.set)) t (rows_in f.set) ≡ loose_of t a)
    unfolding loose_of merge_of
    done_loose p = go (both_of t.first t.second) refl (table_ok t a) refl
      where
        go : (c : Result (Unit {0}) Refusal) → both_of t.first t.second ≡ c → (b : Bool) → table_ok t a ≡ b
            → (Clean t f.set) × (consumed_by (is_loose (meaning_of t f.set)) t (rows_in f.set) ≡ loose_by (both_of t.first t.second) t a)
        go (Err x) q b z =
            let g : f ≡ refusing x = rw q at e in
            let y : Err x ≡ (Ok tt) = sym (ap (λ u. u.outcome) g) ∙ p in
            let w : ◌≡◌ {A = ℕ} 0 1 = cc in
            absurd (omega arith)
        go (Ok tt) q false z =
            let g : f ≡ refusing NotWellFormed = rw (q, z) at e in
            let y : Err NotWellFormed ≡ (Ok tt) = sym (ap (λ u. u.outcome) g) ∙ p in
            let w : ◌≡◌ {A = ℕ} 0 1 = cc in
            absurd (omega arith)
        go (Ok tt) q true z =
            let g : f.set ≡ table_of (rows_in a) = ap (λ u. u.set) (e ∙ merge_none q z) in
            (rw g (cleaned z), rw (q, z, g, same-meaning, rows_table (rows_in a)))

-- ---- the number, and whether it acted
acted : (b : Bool) (t : Texts) (a : Attrs) → did_paper (consumed_by b t (rows_in a)).did ≡ on_paper [] (acted_no b ∷ [])
unfolding on_paper in_order
acted true t a = refl
acted false t a = refl

lacked : (b : Bool) (t : Texts) (a : Attrs) → did_paper (cond b (consumed_by (is_loose (meaning_of t a)) t (rows_in a)) (not_consumed NotWellFormed)).did ≡ on_paper (Ground.lacking NotWellFormed b ∷ []) (acted_no (is_loose (meaning_of t a)) ∷ [])
unfolding on_paper in_order
lacked true t a = acted (is_loose (meaning_of t a)) t a
lacked false t a = refl

pub loose_no : (t : Texts) (a : Attrs) → did_paper (loose_of t a).did ≡ on_paper (loose_order t a) (acted_no (is_loose (meaning_of t a)) ∷ [])
unfolding loose_of both_of
loose_no t a =
    paper_by (λ o. did_paper (loose_by o t a).did) Err (acted_no (is_loose (meaning_of t a)) ∷ []) (λ r. refl) (both_order t.first t.second) (Ground.lacking NotWellFormed (table_ok t a) ∷ []) (lacked (table_ok t a) t a)

pub loose_said : (t : Texts) (a : Attrs) {c : Consumed} → c ≡ loose_of t a → record { value : c ≡ loose_of t a; did_value : did_paper c.did ≡ on_paper (loose_order t a) (acted_no (is_loose (meaning_of t a)) ∷ []) }
loose_said t a e = let r = said (λ x. did_paper x.did) (loose_no t a) e in record { value = r.value; did_value = r.result_value }
