-- What one slot of a set puts into another, as the table goes by the laws of set_table.
-- Assumes nothing.
use mathlib.Core.Path.{◌≡◌}
use mathlib.Core.Bool.{true, false}
use mathlib.Core.List.{List, [], ◌∷◌, map, map-append}
use Prim.Native.Nat.{ℕ, ◌+◌, ◌<◌, ◌≤◌}
use native.Mathlib.Numerals.{add-one}
use native.Mathlib.Omega.{arith}
use lib.ListN.{length, get_or, take}
use lib.Seq.{take-suc, get_or-take}
use Rattle.base_lists.proofs.More.{contra}
use Rattle.set_table.specs.Types.{Texts, max_classes, max_keys, zero_value, zero_row}
use Rattle.set_table.specs.Rows.{Put, key_at, with_put, with_puts, rows_in}
use Rattle.set_table.specs.Inner.{Holds}
use Rattle.set_table.specs.declared.Attrs.{Attrs}
use Rattle.set_table.specs.declared.Name.{Name}
use Rattle.set_table.specs.declared.Slot.{Slot}
use Rattle.set_table.specs.declared.Slot.TheVariants.{Id, Class, Key}
use Rattle.set_table.specs.declared.Value.{Value}
use Rattle.set_table.proofs.Puts.{puts-after}
use Rattle.set_table.proofs.Holding.{key_more}
use Rattle.set_merge.specs.declared.Merging.{Merging}
use Rattle.set_merge.specs.Merge.{put_of_row, puts_at}
use Rattle.set_merge.specs.Inner.{Steps, Present}

-- ---- what is put
module _ {t : Texts} {a : Attrs} {s : Merging} where
  pub fits : {ps : List Put} → s.fits ≡ true → Holds s.set (with_puts t (rows_in a) ps) → Steps t a ps s
  fits e h = record { done = λ q. h; over = λ q. contra s.fits e q }

  pub fits_none : s.fits ≡ true → Holds s.set (rows_in a) → Steps t a [] s
  unfolding with_puts
  fits_none e h = fits e h

  pub fits_one : {p : Put} → s.fits ≡ true → Holds s.set (with_put t (rows_in a) p) → Steps t a (p ∷ []) s
  unfolding with_puts
  fits_one e h = fits e h

  -- a new key, where there is no room for one
  pub no_room : {n : Name} {v : Value} {k : ℕ} → Holds a (rows_in a) → k ≡ key_at t n (take a.nkey a.keys) → a.nkey ≤ k → max_keys ≤ a.nkey → s.fits ≡ false
      → Steps t a (Put.key n v ∷ []) s
  unfolding with_puts
  no_room {n} {v} h e l m q = record { done = λ y. contra s.fits y q; over = λ y. omega (arith, key_more h t v n e l) }

-- ---- the loop over classes: i are joined
pub record Joins (s : Attrs) (from : List Value) (m : ℕ) (set : Attrs) (i : ℕ) : Type 0 where
  pub after : (t : Texts) → Holds set (with_puts t (rows_in s) (map Put.class (take i from)))
  pub count : set.nclass ≡ s.nclass + i
  pub within : i ≤ m

pub joins_start : {s : Attrs} (from : List Value) (m : ℕ) → Holds s (rows_in s) → Joins s from m s 0
unfolding with_puts
joins_start from m h = record { after = λ t. h; count = omega arith; within = omega arith }

module _ {s : Attrs} {from : List Value} {m : ℕ} {set : Attrs} {i : ℕ} (inv : Joins s from m set i) where
  pub joins_go : {b : Attrs} → i < m → m ≤ length from → b.nclass ≡ set.nclass + 1
      → ((t : Texts) → Holds b (with_put t (with_puts t (rows_in s) (map Put.class (take i from))) (Put.class (get_or from i zero_value)))) → Joins s from m b (i + 1)
  unfolding with_puts
  joins_go {b} l e c h = record { after = next; count = omega (arith, inv.count); within = omega arith }
    where
      next : (t : Texts) → Holds b (with_puts t (rows_in s) (map Put.class (take (i + 1) from)))
      next t = rw (add-one, take-suc from i zero_value (omega arith), map-append, puts-after t (rows_in s) (map Put.class (take i from)) (Put.class (get_or from i zero_value) ∷ [])) (h t)

  pub joins_end : m ≤ i → (t : Texts) → Holds set (with_puts t (rows_in s) (map Put.class (take m from)))
  joins_end l t = let k : m ≡ i = omega (arith, inv.within) in rw k (inv.after t)

-- ---- what one slot of b puts
module _ {s b : Attrs} {x : Slot} (p : Present s b x) where
  pub class_fits : x ≡ Class → s.nclass + b.nclass ≤ max_classes
  class_fits e = rw e at p.fits

  pub key_there : {k : ℕ} → x ≡ Key k → k < b.nkey
  key_there e = rw e at p.fits

module _ (b : Attrs) {x : Slot} where
  pub puts_none : x ≡ Id → b.given ≡ false → puts_at (rows_in b) x ≡ []
  unfolding puts_at rows_in
  puts_none e i = rw (e, i)

  pub puts_id : x ≡ Id → b.given ≡ true → puts_at (rows_in b) x ≡ Put.ident b.id ∷ []
  unfolding puts_at rows_in
  puts_id e i = rw (e, i)

  pub puts_classes : x ≡ Class → puts_at (rows_in b) x ≡ map Put.class (take b.nclass b.classes)
  unfolding puts_at rows_in
  puts_classes e = rw e

  pub puts_key : {k : ℕ} → x ≡ Key k → k < b.nkey → puts_at (rows_in b) x ≡ put_of_row (get_or b.keys k zero_row) ∷ []
  unfolding puts_at rows_in
  puts_key {k} e l = rw (e, get_or-take b.nkey b.keys k zero_row l)
