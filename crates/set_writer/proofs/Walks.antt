-- The items of a slot, of the classes one by one, and of the slots one by one.
-- Assumes nothing.
use Rattle.std.specs.Prelude.{Err, Result}
use mathlib.Core.Path.{◌≡◌, refl, sym, ◌∙◌, ap, subst}
use mathlib.Core.Bool.{Bool, true, false, cond}
use mathlib.Core.List.{List, [], ◌∷◌, ◌++◌, map, append-nil, flat_map}
use Prim.Native.Nat.{ℕ, suc, ◌+◌, ◌*◌, ◌≤◌, ◌<◌, min}
use native.Mathlib.Nat.{zero-add, add-zero}
use native.Mathlib.Numerals.{add-one}
use native.Mathlib.Omega.{arith}
use borrow.Author.Tests.{lt-leb}
use lib.ListN.{length, get_or, take, drop, length-take, length-map, drop_of_length-le, get_or-eq_default, get_or-map}
use lib.Seq.{sets, drop-cons, get_or-take}
use Rattle.base_refusals.specs.Numbers.{max_text}
use Rattle.base_refusals.specs.declared.Refusal.TheVariants.{CanonTooLong}
use Rattle.block_grammar.specs.Meaning.{Entry, class_name, lang_name}
use Rattle.set_canon.specs.Canon.{Pair, pairs_of, pairs, canon}
use Rattle.set_table.specs.Types.{Texts, range_bytes, name_bytes, value_bytes, max_classes, max_keys, max_slots, zero_value, zero_row, zero_slot}
use Rattle.set_table.specs.Rows.{slot_entry, meant, rows_in, slot_in, listed_of}
use Rattle.set_table.specs.declared.Value.{Value}
use Rattle.set_table.specs.declared.Name.{Name}
use Rattle.set_table.specs.declared.Origin.{Origin}
use Rattle.set_table.specs.declared.Name.TheVariants.{Range, Lang}
use Rattle.set_table.specs.declared.Attrs.{Attrs}
use Rattle.set_table.specs.declared.Row.{Row}
use Rattle.set_table.specs.declared.Slot.{Slot}
use Rattle.set_table.specs.declared.Slot.TheVariants.{Id, Class, Key}
use Rattle.set_writer.specs.Inner.{max_item, put_if, wrote_to, item_text, items_text, id_pairs, key_pairs, class_pairs, closing_bytes}
use Rattle.set_writer.proofs.Fills.{put-nothing, Fills, fills_start, fills_end, fills_room, fills_within, fills_go}
use Rattle.set_writer.proofs.Items.{items_append, items_one, text_from, from_append, from_front}
use Rattle.base_refusals.specs.declared.Refusal.{Refusal}

pub some_item : (at : ℕ) (name v : List ℕ) → items_text at (pairs_of name (v ∷ [])) ≡ item_text at name v
unfolding pairs_of
some_item at name v = items_one at (record { name = name; value = v })

-- no item, and one, as the items of a slot
module _ (really : Bool) (buf : List ℕ) (at : ℕ) {ps : List Pair} where
  pub no_item : ps ≡ [] → (at ≡ at + length (items_text at ps)) × (buf ≡ put_if really buf at (items_text at ps))
  no_item e = rw e (sym (add-zero at), sym (put-nothing really buf at))

  module _ (name v : List ℕ) (e : ps ≡ pairs_of name (v ∷ [])) where
    pub one_room : {size : ℕ} → (really ≡ true → at + length (items_text at ps) ≤ size) → really ≡ true → at + length (item_text at name v) ≤ size
    one_room h y = rw (e, some_item at name v) at (h y)

    pub one_item : {r : ℕ} {buf' : List ℕ} → r ≡ at + length (item_text at name v) → buf' ≡ put_if really buf at (item_text at name v) → (r ≡ at + length (items_text at ps)) × (buf' ≡ put_if really buf at (items_text at ps))
    one_item p q = rw (e, some_item at name v) (p, q)

-- a key whose name is a range, and one that `:` gave
module _ (t : Texts) {n : Name} (vs : List (List ℕ)) where
  pub range_pairs : (o : Origin) (from to : ℕ) {s : List ℕ} → n ≡ Range o from to → s ≡ range_bytes t o from to → pairs_of (name_bytes t n) vs ≡ pairs_of s vs
  unfolding name_bytes
  range_pairs o from to e f = rw (e, f)

  pub lang_pairs : n ≡ Lang → pairs_of (name_bytes t n) vs ≡ pairs_of lang_name vs
  unfolding name_bytes
  lang_pairs e = rw e

-- ---- the classes

abbrev class_text : Texts → ℕ → List Value → List ℕ
class_text t k vs = items_text k (pairs_of class_name (map (value_bytes t) vs))

class_step : (t : Texts) (k : ℕ) (vs : List Value) (i : ℕ) → i < length vs
    → class_text t k (drop i vs)
    ≡ item_text k class_name (value_bytes t (get_or vs i zero_value)) ++ class_text t (k + length (item_text k class_name (value_bytes t (get_or vs i zero_value)))) (drop (i + 1) vs)
unfolding pairs_of
class_step t k vs i h =
    let p : Pair = record { name = class_name; value = value_bytes t (get_or vs i zero_value) } in
    rw (drop-cons vs i zero_value h, add-one i)
    (items_append k (p ∷ []) (pairs_of class_name (map (value_bytes t) (drop (suc i) vs)))
    ∙ ap (λ (l : List ℕ). l ++ items_text (k + length l) (pairs_of class_name (map (value_bytes t) (drop (suc i) vs)))) (items_one k p))

-- i of the first n classes are written
pub record Classes (t : Texts) (really : Bool) (buf₀ : List ℕ) (at n : ℕ) (classes : List Value) (buf : List ℕ) (k i : ℕ) : Type 0 where
  pub long : length classes ≡ max_classes
  pub near : at ≤ max_text
  pub few : k ≤ at + max_item * i
  pub fills : Fills really buf₀ at (class_text t at (take n classes)) buf k (class_text t k (drop i (take n classes)))

module _ (t : Texts) (really : Bool) (buf : List ℕ) (at n : ℕ) (classes : List Value) where
  pub classes_start : length classes ≡ max_classes → at ≤ max_text → (really ≡ true → at + length (items_text at (class_pairs t n classes)) ≤ length buf) → Classes t really buf at n classes buf at 0
  classes_start l h r = record { long = l; near = h; few = omega arith; fills = fills_start really buf at (class_text t at (take n classes)) r }

module _ {t : Texts} {really : Bool} {buf₀ : List ℕ} {at n : ℕ} {classes : List Value} {buf : List ℕ} {k i : ℕ} (inv : Classes t really buf₀ at n classes buf k i) where
  pub classes_end : min n max_classes ≤ i → (k ≡ at + length (items_text at (class_pairs t n classes))) × (buf ≡ put_if really buf₀ at (items_text at (class_pairs t n classes)))
  unfolding pairs_of
  classes_end h = fills_end inv.fills (rw (drop_of_length-le (take n classes) {i = i} (omega (arith, length-take n classes, inv.long))))

  module _ (h : i < min n max_classes) where
    here : i < length (take n classes)
    here = omega (arith, length-take n classes, inv.long)

    -- its item and what comes behind it
    abbrev now : List ℕ
    now = item_text k class_name (value_bytes t (get_or classes i zero_value))

    step : class_text t k (drop i (take n classes)) ≡ now ++ class_text t (k + length now) (drop (i + 1) (take n classes))
    step = subst (λ v. class_text t k (drop i (take n classes)) ≡ item_text k class_name (value_bytes t v) ++ class_text t (k + length (item_text k class_name (value_bytes t v))) (drop (i + 1) (take n classes)))
        (get_or-take n classes i zero_value (omega arith))
        (class_step t k (take n classes) i here)

    pub classes_room : really ≡ true → k + length (item_text k class_name (value_bytes t (get_or classes i zero_value))) ≤ length buf
    classes_room = fills_room inv.fills now (class_text t (k + length now) (drop (i + 1) (take n classes))) step

    pub classes_go : {k' : ℕ} {buf' : List ℕ} → (k' ≡ k + length (item_text k class_name (value_bytes t (get_or classes i zero_value)))) × (k' ≤ k + max_item)
        → buf' ≡ put_if really buf k (item_text k class_name (value_bytes t (get_or classes i zero_value)))
        → Classes t really buf₀ at n classes buf' k' (i + 1)
    classes_go {k'} {buf'} e f =
        record {
          long = inv.long;
          near = inv.near;
          few = omega (arith, inv.few, e.1);
          fills = fills_go inv.fills now (class_text t k' (drop (i + 1) (take n classes))) (step ∙ ap (λ (j : ℕ). now ++ class_text t j (drop (i + 1) (take n classes))) (sym e.0)) e.0 f;
        }

-- ---- the slots

pairs_step : (m : List Entry) (p : ℕ) (d : Entry) → p < length m → pairs (drop p m) ≡ pairs_of (get_or m p d).name (get_or m p d).values ++ pairs (drop (p + 1) m)
unfolding pairs flat_map
pairs_step m p d h = rw (drop-cons m p d h, add-one p)

module _ (t : Texts) (a : Attrs) where
  abbrev entries : List Entry
  entries = listed_of t a

  -- the items of a slot
  abbrev pub slot_pairs : Slot → List Pair
  slot_pairs x = pairs_of (slot_entry t (rows_in a) x).name (slot_entry t (rows_in a) x).values

  pub slots_length : length a.order ≡ max_slots → length entries ≡ min a.norder max_slots
  unfolding listed_of meant rows_in
  slots_length l = simp length-map (rw (length-take, l))

  slot_at : (p : ℕ) → p < a.norder → get_or entries p (slot_entry t (rows_in a) (slot_in zero_slot)) ≡ slot_entry t (rows_in a) (get_or a.order p zero_slot).slot
  unfolding listed_of meant rows_in
  slot_at p h =
      get_or-map (slot_entry t (rows_in a)) (map slot_in (take a.norder a.order)) p (slot_in zero_slot)
      ∙ ap (slot_entry t (rows_in a)) (get_or-map slot_in (take a.norder a.order) p zero_slot ∙ ap slot_in (get_or-take a.norder a.order p zero_slot h))

  slots_step : (p : ℕ) → length a.order ≡ max_slots → p < min a.norder max_slots → pairs (drop p entries) ≡ slot_pairs (get_or a.order p zero_slot).slot ++ pairs (drop (p + 1) entries)
  slots_step p l h =
      pairs_step entries p (slot_entry t (rows_in a) (slot_in zero_slot)) (omega (arith, slots_length l))
      ∙ ap (λ (e : Entry). pairs_of e.name e.values ++ pairs (drop (p + 1) entries)) (slot_at p (omega arith))

  pub id_pairs_lem : {x : Slot} → x ≡ Id → id_pairs t a.given a.id ≡ slot_pairs x
  unfolding slot_entry rows_in
  id_pairs_lem e = rw e

  pub class_pairs_lem : {x : Slot} → x ≡ Class → class_pairs t a.nclass a.classes ≡ slot_pairs x
  unfolding slot_entry rows_in
  class_pairs_lem e = rw e

  pub key_pairs_lem : {x : Slot} (k : ℕ) → x ≡ Key k → k < min a.nkey max_keys → key_pairs t (get_or a.keys k zero_row) ≡ slot_pairs x
  unfolding slot_entry rows_in
  key_pairs_lem k e h = rw (e, get_or-take a.nkey a.keys k zero_row (omega arith))

  pub no_pairs : {r : Row} → r ≡ zero_row → {x : Slot} (k : ℕ) → x ≡ Key k → length a.keys ≡ max_keys → min a.nkey max_keys ≤ k → key_pairs t r ≡ slot_pairs x
  unfolding slot_entry rows_in
  no_pairs z k e l h = rw (z, e, get_or-eq_default (take a.nkey a.keys) zero_row {n = k} (omega (arith, length-take a.nkey a.keys, l)))

-- p slots are written
pub record Walks (t : Texts) (a : Attrs) (really : Bool) (buf₀ : List ℕ) (cap : ℕ) (buf : List ℕ) (n p : ℕ) : Type 0 where
  pub long : length a.order ≡ max_slots
  pub fits : really ≡ true → length (canon (listed_of t a)) ≤ cap
  pub fills : Fills really buf₀ 0 (canon (listed_of t a)) buf n (text_from n (pairs (drop p (listed_of t a))))

module _ (t : Texts) (a : Attrs) (really : Bool) (buf : List ℕ) (cap : ℕ) where
  pub walks_start : length a.order ≡ max_slots → (really ≡ true → (length (canon (listed_of t a)) ≤ cap) × (cap ≤ length buf)) → Walks t a really buf cap buf 0 0
  walks_start l r =
      record {
        long = l;
        fits = λ y. (r y).0;
        fills = subst (λ (xs : List ℕ). Fills really buf 0 (canon (listed_of t a)) buf 0 xs) (sym (from_front (listed_of t a))) (fills_start really buf 0 (canon (listed_of t a)) (λ y. omega (arith, (r y).0, (r y).1)));
      }

module _ {t : Texts} {a : Attrs} {really : Bool} {buf₀ : List ℕ} {cap : ℕ} {buf : List ℕ} {n p : ℕ} (inv : Walks t a really buf₀ cap buf n p) where
  -- more than fits was measured: nothing is written
  pub walks_over : cap < n → (Err CanonTooLong ≡ wrote_to cap (length (canon (listed_of t a)))) × (buf ≡ put_if really buf₀ 0 (canon (listed_of t a)))
  unfolding wrote_to put_if
  walks_over h = (rw (lt-leb (length (canon (listed_of t a))) cap (omega (arith, inv.fills.left))), go really refl inv.fits inv.fills)
    where
      go : (y : Bool) → really ≡ y → (y ≡ true → length (canon (listed_of t a)) ≤ cap) → Fills y buf₀ 0 (canon (listed_of t a)) buf n (text_from n (pairs (drop p (listed_of t a)))) → buf ≡ cond y (sets buf₀ 0 (canon (listed_of t a))) buf₀
      go true e f z = absurd (omega (arith, f refl, z.left))
      go false e f z = z.same

  module _ (h : min a.norder max_slots ≤ p) where
    none : text_from n (pairs (drop p (listed_of t a))) ≡ closing_bytes n ++ []
    unfolding pairs flat_map
    none = rw (drop_of_length-le (listed_of t a) {i = p} (omega (arith, slots_length t a inv.long))) (sym (append-nil (closing_bytes n)))

    pub close_room : really ≡ true → (n + length (closing_bytes n) ≤ length buf) × (n + length (closing_bytes n) ≤ cap)
    close_room y = (fills_room inv.fills (closing_bytes n) [] none y, omega (arith, fills_within inv.fills (closing_bytes n) [] none, inv.fits y))

    pub walks_end : {r : Result ℕ Refusal} {buf' : List ℕ} → r ≡ wrote_to cap (n + length (closing_bytes n)) → buf' ≡ put_if really buf n (closing_bytes n)
        → (r ≡ wrote_to cap (length (canon (listed_of t a)))) × (buf' ≡ put_if really buf₀ 0 (canon (listed_of t a)))
    walks_end e f =
        let z = fills_end (fills_go inv.fills (closing_bytes n) [] none refl f) refl in
        (e ∙ ap (wrote_to cap) (z.0 ∙ zero-add (length (canon (listed_of t a)))), z.1)

  module _ {ps : List Pair} (h : p < min a.norder max_slots) (e : ps ≡ slot_pairs t a (get_or a.order p zero_slot).slot) where
    slot_step : text_from n (pairs (drop p (listed_of t a))) ≡ items_text n ps ++ text_from (n + length (items_text n ps)) (pairs (drop (p + 1) (listed_of t a)))
    slot_step = rw (slots_step t a p inv.long h, sym e) (from_append n ps (pairs (drop (p + 1) (listed_of t a))))

    pub walks_room : really ≡ true → n + length (items_text n ps) ≤ length buf
    walks_room = fills_room inv.fills (items_text n ps) (text_from (n + length (items_text n ps)) (pairs (drop (p + 1) (listed_of t a)))) slot_step

    pub walks_go : {n' : ℕ} {buf' : List ℕ} → n' ≡ n + length (items_text n ps) → buf' ≡ put_if really buf n (items_text n ps) → Walks t a really buf₀ cap buf' n' (p + 1)
    walks_go {n'} f g =
        record {
          long = inv.long;
          fits = inv.fits;
          fills = fills_go inv.fills (items_text n ps) (text_from n' (pairs (drop (p + 1) (listed_of t a)))) (slot_step ∙ ap (λ (j : ℕ). items_text n ps ++ text_from j (pairs (drop (p + 1) (listed_of t a)))) (sym f)) f g;
        }
