-- The first rows of an array with zero behind them, as they are copied, and the table that is so cleaned.
-- Assumes nothing.
use mathlib.Core.Path.{◌≡◌, refl}
use mathlib.Core.Bool.{Bool, true, false, cond}
use mathlib.Core.List.{List, ◌++◌, map, map-map, map-id}
use Prim.Native.Nat.{ℕ, ◌-◌, ◌≤◌}
use native.Mathlib.Omega.{arith}
use lib.ListN.{length, take, drop, replicate, length-map}
use lib.Seq.{length-take-le}
use Rattle.std.proofs.lemmas.List.{drop-replicate}
use Rattle.set_table.specs.Types.{max_classes, max_keys, max_slots, zero_value, zero_row, zero_slot}
use Rattle.set_table.specs.Rows.{Ident, is_there, id_or, padded, held, slot_in, table_of, rows_in}
use Rattle.set_table.specs.declared.SlotRecord.{SlotRecord}
use Rattle.set_table.specs.declared.Value.{Value}
use Rattle.set_table.specs.declared.Attrs.{Attrs}
use Rattle.set_merge.specs.Inner.{firsts}

-- ---- the rows that are copied, and zero behind them
pub front : {A : Type 0} (max : ℕ) (zero : A) (from : List A) (n : ℕ) → length from ≡ max → n ≤ max → take n from ++ drop n (replicate max zero) ≡ firsts max zero n from
unfolding padded
front max zero from n e h = rw (drop-replicate n max zero, length-take-le n from (omega arith))

-- ---- the three arrays make the table of the rows that count
order_again : (o : List SlotRecord) → map held (map slot_in o) ≡ o
order_again o = rw (map-map held slot_in o) (map-id o)

there : (b : Bool) (v : Value) → is_there (cond b (Ident.given v) Ident.missing) ≡ b
there true v = refl
there false v = refl

module _ (a : Attrs) (c : length a.classes ≡ max_classes) (k : length a.keys ≡ max_keys) (o : length a.order ≡ max_slots)
    (few : (a.nclass ≤ max_classes) × (a.nkey ≤ max_keys) × (a.norder ≤ max_slots)) where
  pub cleaned_is : record {
    id = id_or (cond a.given (Ident.given a.id) Ident.missing);
    given = a.given;
    classes = firsts max_classes zero_value a.nclass a.classes;
    nclass = a.nclass;
    keys = firsts max_keys zero_row a.nkey a.keys;
    nkey = a.nkey;
    order = firsts max_slots zero_slot a.norder a.order;
    norder = a.norder;
  }
      ≡ table_of (rows_in a)
  unfolding table_of rows_in
  cleaned_is =
      let x : length (take a.nclass a.classes) ≡ a.nclass = length-take-le a.nclass a.classes (omega arith) in
      let y : length (take a.nkey a.keys) ≡ a.nkey = length-take-le a.nkey a.keys (omega arith) in
      let z : length (take a.norder a.order) ≡ a.norder = length-take-le a.norder a.order (omega arith) in
      rw (there a.given a.id, length-map, order_again (take a.norder a.order), x, y, z)
