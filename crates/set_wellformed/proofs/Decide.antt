-- What the walks over the rows of a table ask: `times`, `keys_apart` and `keys_in` of the rows that count, and the slots by what is there.
-- Assumes nothing.
use mathlib.Core.Path.{◌≡◌, refl, sym, ◌∙◌}
use mathlib.Core.Bool.{Bool, true, false, cond, not}
use mathlib.Core.List.{List, [], ◌∷◌, map}
use Prim.Native.Nat.{ℕ, zero, suc, ◌+◌, ◌<◌, ◌≤◌}
use native.Mathlib.Nat.{zero-add}
use native.Mathlib.Omega.{arith}
use Rattle.std.specs.Bool.{one_answer}
use Rattle.std.specs.List.{list_all, filter, range_with_len}
use Rattle.std.proofs.lemmas.List.FromFn.{length-range_with_len, get_or-range_with_len}
use lib.Dec.{eqb, ltb}
use lib.ListN.{length, get_or, take}
use lib.Seq.{get_or-take, length-take-le}
use borrow.Author.Tests.{ltb-true, ltb-false, lt-ltb, le-leb, not-true, eq-eqb, eqb-true}
use Rattle.base_lists.specs.Lists.{all, same, is_some}
use Rattle.base_lists.proofs.Scan.{both}
use Rattle.base_lists.proofs.Each.{some_take, every_same, all_at, all_each}
use Rattle.base_lists.proofs.More.{contra, same_sym}
use Rattle.set_table.specs.Types.{Texts, zero_row, zero_value, max_classes, max_keys, max_slots}
use Rattle.set_table.specs.Rows.{Ident, Rows, rows_in, is_there, is_named, has_key, key_at, slot_in}
use Rattle.set_table.specs.Shape.{times, slot_number, is_present, name_at}
use Rattle.set_table.specs.declared.Value.{Value}
use Rattle.set_table.specs.declared.Name.{Name}
use Rattle.set_table.specs.declared.Row.{Row}
use Rattle.set_table.specs.declared.Slot.{Slot}
use Rattle.set_table.specs.declared.Slot.TheVariants.{Id, Class, Key}
use Rattle.set_table.specs.declared.SlotRecord.{SlotRecord}
use Rattle.set_table.specs.declared.Attrs.{Attrs}
use Rattle.set_table.proofs.Keys.{key_none, key_some, key_named, key_before}
use Rattle.set_wellformed.specs.WellFormed.{counts_ok, keys_apart, keys_once, slots_ok}
use Rattle.set_wellformed.specs.Inner.{present_by, keys_in, slots_in}

-- ---- the answers of iterators: what `all` says, and how often a slot stands in an order
pub all_list : {A : Type 0} (f : A → Bool) (xs : List A) → list_all f xs ≡ all f xs
unfolding all
all_list f [] = refl
all_list f (x ∷ xs) = rw (all_list f xs)

pub times_filter : (x : Slot) (ps : List SlotRecord) → length (filter (λ p. eqb (slot_number x) (slot_number p.slot)) ps) ≡ times x (map slot_in ps)
unfolding times
times_filter x [] = refl
times_filter x (p ∷ ps) = go (eqb (slot_number x) (slot_number p.slot)) (times_filter x ps)
  where
    few : List SlotRecord
    few = filter (λ q. eqb (slot_number x) (slot_number q.slot)) ps

    go : (b : Bool) → length few ≡ times x (map slot_in ps) → length (cond b (p ∷ few) few) ≡ cond b (suc (times x (map slot_in ps))) (times x (map slot_in ps))
    go true e = rw e
    go false e = e

-- ---- rows with names of their own, said of any two
module _ (t : Texts) where
  has_none : (n : Name) (rs : List Row) (k : ℕ) → has_key t n rs ≡ false → k < length rs → is_named t n (get_or rs k zero_row) ≡ false
  has_none n rs k e h = go (ltb (key_at t n rs) (length rs)) refl
    where
      go : (b : Bool) → ltb (key_at t n rs) (length rs) ≡ b → is_named t n (get_or rs k zero_row) ≡ false
      go true q = contra (has_key t n rs) (key_some t n zero_value rs (ltb-true _ _ q)).0 e
      go false q = key_before t n rs k (omega (arith, ltb-false (key_at t n rs) (length rs) q))

  none_has : (n : Name) (rs : List Row) → ((k : ℕ) → k < length rs → is_named t n (get_or rs k zero_row) ≡ false) → has_key t n rs ≡ false
  none_has n rs h = go (ltb (key_at t n rs) (length rs)) refl
    where
      go : (b : Bool) → ltb (key_at t n rs) (length rs) ≡ b → has_key t n rs ≡ false
      go true q = contra (is_named t n (get_or rs (key_at t n rs) zero_row)) (key_named t n rs (ltb-true _ _ q)) (h (key_at t n rs) (ltb-true _ _ q))
      go false q = (key_none t n zero_value rs (ltb-false _ _ q)).0

  -- a later row has another name than one before it
  abbrev pub Differ : List Row → Type 0
  Differ rs = (j k : ℕ) → j < k → k < length rs → same (name_at t rs k) (name_at t rs j) ≡ false

  pub apart_differ : (rs : List Row) → keys_apart t rs ≡ true → Differ rs
  unfolding keys_apart name_at
  apart_differ [] e j k h l = absurd (omega arith)
  apart_differ (r ∷ rs) e zero zero h l = absurd (omega arith)
  apart_differ (r ∷ rs) e zero (suc k) h l = has_none r.name rs k (not-true _ (both (not (has_key t r.name rs)) (keys_apart t rs) e).0) (omega arith)
  apart_differ (r ∷ rs) e (suc j) zero h l = absurd (omega arith)
  apart_differ (r ∷ rs) e (suc j) (suc k) h l = apart_differ rs (both (not (has_key t r.name rs)) (keys_apart t rs) e).1 j k (omega arith) (omega arith)

  pub differ_apart : (rs : List Row) → Differ rs → keys_apart t rs ≡ true
  unfolding keys_apart name_at
  differ_apart [] h = refl
  differ_apart (r ∷ rs) h = rw (none_has r.name rs (λ k l. h 0 (suc k) (omega arith) (omega arith))) (differ_apart rs (λ j k i l. h (suc j) (suc k) (omega arith) (omega arith)))

-- ---- the loop over the rows: the first k have names of their own
pub record Apart (t : Texts) (keys : List Row) (n k : ℕ) : Type 0 where
  pub long : n ≤ length keys
  pub front : (i j : ℕ) → i < j → j < k → same (name_at t keys j) (name_at t keys i) ≡ false

pub apart_start : (t : Texts) (keys : List Row) (n : ℕ) → n ≤ length keys → Apart t keys n 0
apart_start t keys n h = record { long = h; front = λ i j q l. absurd (omega arith) }

module _ {t : Texts} {keys : List Row} {n k : ℕ} (inv : Apart t keys n k) where
  pub apart_stop : k < n → key_at t (get_or keys k zero_row).name (take k keys) < k → false ≡ keys_apart t (take n keys)
  unfolding name_at
  apart_stop h l = go (keys_apart t (take n keys)) refl
    where
      m : ℕ
      m = key_at t (get_or keys k zero_row).name (take k keys)

      go : (b : Bool) → keys_apart t (take n keys) ≡ b → false ≡ b
      go false e = refl
      go true e =
          contra (same (name_at t (take n keys) k) (name_at t (take n keys) m))
          (rw (get_or-take n keys k zero_row h, get_or-take n keys m zero_row (omega arith)) (same_sym (name_at t keys k) (name_at t keys m) ∙ (rw (get_or-take k keys m zero_row l) at (key_named t (get_or keys k zero_row).name (take k keys) (omega (arith, length-take-le k keys (omega (arith, inv.long))))))))
          (apart_differ t (take n keys) e m k l (omega (arith, length-take-le n keys inv.long)))

  pub apart_go : k < n → k ≤ key_at t (get_or keys k zero_row).name (take k keys) → Apart t keys n (k + 1)
  unfolding name_at
  apart_go h l = record { long = inv.long; front = λ i j q b. go i j q b (ltb j k) refl }
    where
      go : (i j : ℕ) → i < j → j < k + 1 → (b : Bool) → ltb j k ≡ b → same (name_at t keys j) (name_at t keys i) ≡ false
      go i j q b true e = inv.front i j q (ltb-true j k e)
      go i j q b false e =
          let z : j ≡ k = omega (arith, ltb-false j k e) in
          rw z (same_sym (name_at t keys k) (name_at t keys i) ∙ (rw (get_or-take k keys i zero_row (omega arith)) at (key_before t (get_or keys k zero_row).name (take k keys) i (omega arith))))

  pub apart_end : n ≤ k → true ≡ keys_apart t (take n keys)
  unfolding name_at
  apart_end h = sym (differ_apart t (take n keys) (λ i j q l. let u : j < n = omega (arith, length-take-le n keys inv.long) in rw (get_or-take n keys j zero_row u, get_or-take n keys i zero_row (omega arith)) (inv.front i j q (omega arith))))

-- ---- each key once
keys_each : (o : List Slot) (n : ℕ) → keys_in o n ≡ true → (k : ℕ) → k < n → times (Key k) o ≡ 1
unfolding keys_in
keys_each o zero e k h = absurd (omega arith)
keys_each o (suc n) e k h = let z = both (eqb (times (Key n) o) 1) (keys_in o n) e in go (keys_each o n z.1 k) (eqb-true (times (Key n) o) 1 z.0) (ltb k n) refl
  where
    go : (k < n → times (Key k) o ≡ 1) → times (Key n) o ≡ 1 → (b : Bool) → ltb k n ≡ b → times (Key k) o ≡ 1
    go f l true q = f (ltb-true k n q)
    go f l false q = let z : k ≡ n = omega (arith, ltb-false k n q) in rw z l

each_keys : (o : List Slot) (n : ℕ) → ((k : ℕ) → k < n → times (Key k) o ≡ 1) → keys_in o n ≡ true
unfolding keys_in
each_keys o zero h = refl
each_keys o (suc n) h = rw (eq-eqb (times (Key n) o) 1 (h n (omega arith))) (each_keys o n (λ k i. h k (omega arith)))

pub keys_list : (o : List Slot) (n : ℕ) → list_all (λ k. eqb (times (Key k) o) 1) (range_with_len 0 n) ≡ keys_in o n
keys_list o n = all_list f (range_with_len 0 n) ∙ one_answer (all f (range_with_len 0 n)) (keys_in o n) (to, from) (keys_each o n, each_keys o n)
  where
    f : ℕ → Bool
    f k = eqb (times (Key k) o) 1

    to : all f (range_with_len 0 n) ≡ true → (k : ℕ) → k < n → times (Key k) o ≡ 1
    to e k h =
        let l : k < length (range_with_len 0 n) = rw (length-range_with_len 0 n) h in
        eqb-true (times (Key k) o) 1 (rw (get_or-range_with_len 0 n k 0 h, zero-add k) at (all_at f 0 (range_with_len 0 n) e k l))

    from : ((k : ℕ) → k < n → times (Key k) o ≡ 1) → all f (range_with_len 0 n) ≡ true
    from g =
        all_each f 0 (range_with_len 0 n)
        (λ k i. let h : k < n = rw (length-range_with_len 0 n) at i in rw (get_or-range_with_len 0 n k 0 h, zero-add k) (eq-eqb (times (Key k) o) 1 (g k h)))

-- ---- the slots by what is there
once_in : (s : Rows) (k : ℕ) → k ≤ length s.keys → keys_once s k ≡ keys_in s.order k
unfolding keys_once keys_in
once_in s zero h = refl
once_in s (suc k) h = rw (lt-ltb k (length s.keys) (omega arith), once_in s k (omega arith))

pub slots_in_lem : (s : Rows) → slots_ok s ≡ slots_in s.order (is_there s.ident) (is_some s.classes) (length s.keys)
unfolding slots_ok slots_in
slots_in_lem s = rw (every_same (is_present s) (present_by (is_there s.ident) (is_some s.classes) (length s.keys)) present s.order, once_in s (length s.keys) (omega arith))
  where
    present : (x : Slot) → is_present s x ≡ present_by (is_there s.ident) (is_some s.classes) (length s.keys) x
    present Id = refl
    present Class = refl
    present (Key k) = refl

-- of a table whose counts are within the limits
module _ (a : Attrs) (c : a.nclass ≤ length a.classes) (k : a.nkey ≤ length a.keys) where
  there : (b : Bool) (v : Value) → is_there (cond b (Ident.given v) Ident.missing) ≡ b
  there true v = refl
  there false v = refl

  pub slots_table : slots_ok (rows_in a) ≡ slots_in (map slot_in (take a.norder a.order)) a.given (ltb 0 a.nclass) a.nkey
  unfolding rows_in
  slots_table = rw (some_take a.classes a.nclass c, length-take-le a.nkey a.keys k, there a.given a.id) at (slots_in_lem (rows_in a))

-- ---- the whole table, a test at a time
pub counts : (a : Attrs) → a.nclass ≤ max_classes → a.nkey ≤ max_keys → a.norder ≤ max_slots → counts_ok a ≡ true
unfolding counts_ok
counts a c k o = rw (le-leb a.nclass max_classes c, le-leb a.nkey max_keys k, le-leb a.norder max_slots o)
