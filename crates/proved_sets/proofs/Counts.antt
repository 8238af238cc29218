-- How many classes and distinct keys the items of a payload say is how many rows they fill.
-- Assumes nothing.
use mathlib.Core.Path.{◌≡◌, refl, sym, ◌∙◌, ap}
use mathlib.Core.Bool.{Bool, true, false, cond, not, ◌&&◌}
use mathlib.Core.List.{List, [], ◌∷◌, ◌++◌, append-nil, map}
use Prim.Native.Nat.{ℕ, zero, suc, ◌+◌, ◌<◌, ◌≤◌}
use native.Mathlib.Omega.{arith}
use lib.ListN.{length, length-append, length-map}
use borrow.Author.Tests.{not-true, ne_eqb, ltb-true}
use Rattle.base_lists.specs.Lists.{all, same, is_some}
use Rattle.base_lists.proofs.Scan.{both}
use Rattle.base_lists.proofs.Same.{same_refl, same_true}
use Rattle.base_lists.proofs.More.{same_sym}
use Rattle.block_grammar.specs.Grammar.{Placed}
use Rattle.block_grammar.specs.Meaning.{Entry, id_name, class_name, is_class, fresh_after, once_in, classes_once}
use Rattle.proved_grammar.specs.Meaning.{with_values, put, puts, entries_of, absent, distinct, listed}
use Rattle.proved_grammar.proofs.Views.{absent-put, put-distinct}
use Rattle.proved_grammar.proofs.Places.{Standing}
use Rattle.set_table.specs.Types.{Texts, one}
use Rattle.set_table.specs.Rows.{Rows, no_rows, with_puts, slot_entry, meant}
use Rattle.set_table.specs.Puts.{puts_in}
use Rattle.set_table.specs.Shape.{times, is_present, name_at, is_free, Shaped}
use Rattle.set_table.specs.declared.Value.{Value}
use Rattle.set_table.specs.declared.Slot.{Slot}
use Rattle.set_table.specs.declared.Slot.TheVariants.{Id, Class, Key}
use Rattle.set_table.proofs.Slots.{slots_length, times_head, times_le}
use Rattle.proved_sets.proofs.TableMeant.{shaped_none}
use Rattle.proved_sets.proofs.Items.{rows_list, rows_shaped}
use Rattle.proved_sets.specs.Limits.{entry_classes, class_count, entry_keys, key_count}
use Rattle.block_grammar.proofs.Fresh.{fresh-length}
use Rattle.proved_grammar.proofs.Once.{once_absent}

-- ======== classes: each put adds its own
class_over : (f e : Entry) → f.name ≡ e.name → entry_classes (with_values f e.values) ≡ entry_classes f + entry_classes e
class_over f e q = rw q (go (is_class e.name))
  where
    go : (b : Bool) → cond b (length (cond b (f.values ++ e.values) e.values)) 0 ≡ cond b (length f.values) 0 + cond b (length e.values) 0
    go true = omega (arith, length-append f.values e.values)
    go false = omega arith

class_put : (m : List Entry) (e : Entry) → class_count (put m e) ≡ class_count m + entry_classes e
unfolding class_count put
class_put [] e = omega arith
class_put (f ∷ m) e = go (same f.name e.name) refl (class_put m e)
  where
    go : (x : Bool) → same f.name e.name ≡ x → class_count (put m e) ≡ class_count m + entry_classes e → class_count (cond x (with_values f e.values ∷ m) (f ∷ put m e)) ≡ entry_classes f + class_count m + entry_classes e
    go true q ih = omega (arith, class_over f e (same_true f.name e.name q))
    go false q ih = omega (arith, ih)

pub class_puts : (m es : List Entry) → class_count (puts m es) ≡ class_count m + class_count es
unfolding class_count puts
class_puts m [] = omega arith
class_puts m (e ∷ es) = omega (arith, class_puts (put m e) es, class_put m e)

pub class_append : (m es : List Entry) → class_count (m ++ es) ≡ class_count m + class_count es
unfolding class_count
class_append [] es = omega arith
class_append (e ∷ m) es = omega (arith, class_append m es)

-- ======== keys: a put of a name that is there adds none
absent-append : (n : List ℕ) (m es : List Entry) → absent n m ≡ true → absent n (m ++ es) ≡ absent n es
unfolding absent all
absent-append n [] es h = refl
absent-append n (e ∷ m) es h = let g = both (not (same e.name n)) (absent n m) h in rw g.0 (absent-append n m es g.1)

-- behind others, an entry of a name that they don't have takes nothing from their count
skipped : (n : List ℕ) (m : List Entry) (e : Entry) (es : List Entry) → same e.name n ≡ false → absent n (m ++ (e ∷ es)) ≡ absent n (m ++ es)
unfolding absent all
skipped n [] e es q = rw q
skipped n (k ∷ m) e es q = rw (skipped n m e es q)

key_behind : (m : List Entry) (e : Entry) (es : List Entry) → absent e.name m ≡ true → key_count (m ++ (e ∷ es)) ≡ entry_keys e es + key_count (m ++ es)
unfolding key_count absent all
key_behind [] e es h = refl
key_behind (f ∷ m) e es h =
    let g = both (not (same f.name e.name)) (absent e.name m) h in
    rw (skipped f.name m e es (same_sym e.name f.name ∙ not-true (same f.name e.name) g.0)) (omega (arith, key_behind m e es g.1))

-- said again, a key counts there
key_again : (f e : Entry) (m es : List Entry) → f.name ≡ e.name → absent e.name m ≡ true → entry_keys f (m ++ es) + key_count (m ++ es) ≡ entry_keys f (m ++ (e ∷ es)) + key_count (m ++ (e ∷ es))
unfolding absent all
key_again f e m es q a = rw (q, key_behind m e es a, absent-append e.name m es a, absent-append e.name m (e ∷ es) a, same_refl e.name) (go (is_free e.name))
  where
    go : (b : Bool) → cond (b && absent e.name es) 1 0 + key_count (m ++ es) ≡ cond (b && false) 1 0 + (cond (b && absent e.name es) 1 0 + key_count (m ++ es))
    go true = omega arith
    go false = omega arith

key_put : (m : List Entry) (e : Entry) (es : List Entry) → distinct m ≡ true → key_count (put m e ++ es) ≡ key_count (m ++ (e ∷ es))
unfolding key_count absent all distinct put
key_put [] e es h = refl
key_put (f ∷ m) e es h =
    let g = both (absent f.name m) (distinct m) h in
    go (same f.name e.name) refl g.0 (key_put m e es g.1)
  where
    go : (x : Bool) → same f.name e.name ≡ x → absent f.name m ≡ true → key_count (put m e ++ es) ≡ key_count (m ++ (e ∷ es))
        → key_count (cond x (with_values f e.values ∷ m) (f ∷ put m e) ++ es) ≡ entry_keys f (m ++ (e ∷ es)) + key_count (m ++ (e ∷ es))
    go true q a ih = let z = same_true f.name e.name q in key_again f e m es z (rw z at a)
    go false q a ih =
        let p = same_sym e.name f.name ∙ q in
        rw (absent-append f.name m (e ∷ es) a, p, absent-append f.name (put m e) es (absent-put f.name m e a p), ih)

pub key_puts : (m es : List Entry) → distinct m ≡ true → key_count (puts m es) ≡ key_count (m ++ es)
unfolding puts
key_puts m [] h = rw append-nil
key_puts m (e ∷ es) h = key_puts (put m e) es (put-distinct m e h) ∙ key_put m e es h

pub puts-distinct : (m es : List Entry) → distinct m ≡ true → distinct (puts m es) ≡ true
unfolding puts
puts-distinct m [] h = h
puts-distinct m (e ∷ es) h = puts-distinct (put m e) es (put-distinct m e h)

-- where no name stands twice, each counts
abbrev free_count : List Entry → ℕ
free_count [] = 0
free_count (e ∷ es) = cond (is_free e.name) 1 0 + free_count es

key_distinct : (m : List Entry) → distinct m ≡ true → key_count m ≡ free_count m
unfolding key_count distinct
key_distinct [] h = refl
key_distinct (e ∷ m) h = let g = both (absent e.name m) (distinct m) h in rw (g.0, key_distinct m g.1) (go (is_free e.name))
  where
    go : (b : Bool) → cond (b && true) 1 0 + free_count m ≡ cond b 1 0 + free_count m
    go true = refl
    go false = refl

-- ======== a merge has at least what each part has
-- what stands in front takes no key away
pub keys_behind : (m n : List Entry) → key_count n ≤ key_count (m ++ n)
unfolding key_count
keys_behind [] n = omega arith
keys_behind (e ∷ m) n = omega (arith, keys_behind m n)

-- a key stays, whatever is put
free_put : (m : List Entry) (e : Entry) → free_count m ≤ free_count (put m e)
unfolding put
free_put [] e = omega arith
free_put (f ∷ m) e = go (same f.name e.name) (free_put m e)
  where
    go : (x : Bool) → free_count m ≤ free_count (put m e) → free_count (f ∷ m) ≤ free_count (cond x (with_values f e.values ∷ m) (f ∷ put m e))
    go true ih = omega arith
    go false ih = omega arith

free_puts : (m es : List Entry) → free_count m ≤ free_count (puts m es)
unfolding puts
free_puts m [] = omega arith
free_puts m (e ∷ es) = omega (arith, free_put m e, free_puts (put m e) es)

pub keys_grow : (m es : List Entry) → distinct m ≡ true → key_count m ≤ key_count (puts m es)
keys_grow m es h = omega (arith, key_distinct m h, key_distinct (puts m es) (puts-distinct m es h), free_puts m es)

-- ======== so what is listed counts what its items do
pub class_listed : (is : List Placed) → class_count (listed is) ≡ class_count (entries_of is)
unfolding class_count listed
class_listed is = class_puts [] (entries_of is) ∙ omega arith

pub key_listed : (is : List Placed) → key_count (listed is) ≡ key_count (entries_of is)
unfolding listed distinct
key_listed is = key_puts [] (entries_of is) refl

-- ======== and a meaning no more classes, and the same keys
in_classes : (e : Entry) → entry_classes (once_in e) ≤ entry_classes e
unfolding once_in
in_classes e = go (is_class e.name)
  where
    go : (b : Bool) → cond b (length (cond b (fresh_after [] e.values) e.values)) 0 ≤ cond b (length e.values) 0
    go true = fresh-length [] e.values
    go false = omega arith

pub once_classes : (m : List Entry) → class_count (classes_once m) ≤ class_count m
unfolding class_count classes_once
once_classes [] = omega arith
once_classes (e ∷ m) = omega (arith, in_classes e, once_classes m)

pub once_keys : (m : List Entry) → key_count (classes_once m) ≡ key_count m
unfolding key_count classes_once once_in
once_keys [] = refl
once_keys (e ∷ m) = rw (once_absent e.name m, once_keys m)

-- ======== the rows of a set
abbrev many : ℕ → ℕ → ℕ
many zero n = 0
many (suc k) n = n + many k n

record Present (s : Rows) (o : List Slot) : Type 0 where
  each : (y : Slot) → 0 < times y o → is_present s y ≡ true

free_class : (n : List ℕ) → is_free n ≡ true → is_class n ≡ false
unfolding is_free is_class
free_class n e = not-true (same n class_name) (both (not (same n id_name)) (not (same n class_name)) e).1

module _ {t : Texts} {s : Rows} (h : Shaped t s) where
  tail : {y : Slot} {o : List Slot} → Present s (y ∷ o) → Present s o
  tail {y} {o} p = record { each = λ z l. p.each z (omega (arith, times_le z y o)) }

  key_free : {k : ℕ} {o : List Slot} → Present s (Key k ∷ o) → is_free (name_at t s.keys k) ≡ true
  key_free {k} {o} p = h.free k (ltb-true k (length s.keys) (p.each (Key k) (omega (arith, times_head (Key k) o))))

  class_slots : (o : List Slot) → Present s o → class_count (map (slot_entry t s) o) ≡ many (times Class o) (length s.classes)
  unfolding class_count times slot_entry is_class same name_at
  class_slots [] p = refl
  class_slots (Id ∷ o) p = omega (arith, class_slots o (tail p))
  class_slots (Class ∷ o) p = rw (length-map, class_slots o (tail p))
  class_slots (Key k ∷ o) p = rw (free_class (name_at t s.keys k) (key_free p), ne_eqb 1 (suc (suc k)) (λ e. omega arith)) (omega (arith, class_slots o (tail p)))

  free_slots : (o : List Slot) → Present s o → free_count (map (slot_entry t s) o) + times Id o + times Class o ≡ length o
  unfolding times slot_entry is_free same name_at
  free_slots [] p = refl
  free_slots (Id ∷ o) p = omega (arith, free_slots o (tail p))
  free_slots (Class ∷ o) p = omega (arith, free_slots o (tail p))
  free_slots (Key k ∷ o) p = rw (key_free p, ne_eqb 1 (suc (suc k)) (λ e. omega arith), ne_eqb 0 (suc (suc k)) (λ e. omega arith)) (omega (arith, free_slots o (tail p)))

  present : Present s s.order
  present = record { each = λ y l. go y l (is_present s y) (h.once y) }
    where
      go : (y : Slot) → 0 < times y s.order → (b : Bool) → times y s.order ≡ cond b 1 0 → b ≡ true
      go y l true e = refl
      go y l false e = absurd (omega arith)

  pub class_rows : class_count (meant t s) ≡ length s.classes
  unfolding meant
  class_rows = class_slots s.order present ∙ ap (λ k. many k (length s.classes)) (h.once Class) ∙ go s.classes
    where
      go : (cs : List Value) → many (cond (is_some cs) 1 0) (length cs) ≡ length cs
      go [] = refl
      go (c ∷ cs) = omega arith

  free_rows : free_count (meant t s) ≡ length s.keys
  unfolding meant
  free_rows = omega (arith, free_slots s.order present, h.once Id, h.once Class, slots_length h)

  pub key_rows : distinct (meant t s) ≡ true → key_count (meant t s) ≡ length s.keys
  key_rows d = key_distinct (meant t s) d ∙ free_rows

-- ======== what the items of a payload fill
module _ {w : List ℕ} {is : List Placed} (h : Standing w is) where
  shaped : Shaped (one w) (with_puts (one w) no_rows (puts_in is))
  shaped = rows_shaped h (shaped_none (one w))

  pub class_fill : length (with_puts (one w) no_rows (puts_in is)).classes ≡ class_count (entries_of is)
  class_fill = sym (class_rows shaped) ∙ ap class_count (rows_list h) ∙ class_listed is

  pub key_fill : length (with_puts (one w) no_rows (puts_in is)).keys ≡ key_count (entries_of is)
  unfolding listed distinct
  key_fill = sym (key_rows shaped (rw (rows_list h) (puts-distinct [] (entries_of is) refl))) ∙ ap key_count (rows_list h) ∙ key_listed is
