-- From the checks of an entry to the merge.
-- Assumes nothing.
use Rattle.std.specs.Prelude.{Err, Ok, Result}
use mathlib.Core.Path.{◌≡◌, refl, ◌∙◌}
use mathlib.Core.Bool.{Bool, true, false, cond, ◌&&◌}
use Prim.Native.Nat.{◌≤◌}
use native.Mathlib.Omega.{arith}
use lib.Dec.{leb}
use lib.ListN.{length, length-take}
use borrow.Author.Tests.{leb-true}
use Rattle.base_lists.proofs.Scan.{both}
use Rattle.base_refusals.specs.declared.Refusal.{Refusal}
use Rattle.base_refusals.specs.declared.Refusal.TheVariants.{NotWellFormed}
use Rattle.text_checks.specs.Check.{both_of}
use Rattle.set_table.specs.Types.{Texts, max_classes, max_keys, max_slots}
use Rattle.set_table.specs.Rows.{with_puts, table_of, rows_in}
use Rattle.set_table.specs.declared.Attrs.{Attrs}
use Rattle.set_table.specs.declared.Slot.TheVariants.{Class}
use Rattle.set_table.proofs.Slots.{slots_length}
use Rattle.set_table.proofs.Whole.{rows_table}
use Rattle.set_table.proofs.Holding.{held_own}
use Rattle.set_table.specs.Inner.{Holds}
use Rattle.set_wellformed.specs.WellFormed.{counts_ok, rows_ok, table_ok}
use Rattle.set_wellformed.proofs.Shape.{slots_named, table_passed, shaped}
use Rattle.set_table.specs.declared.Filled.{Filled}
use Rattle.set_table.specs.Filled.{refusing, limited}
use Rattle.set_merge.specs.Merge.{puts_by, merge_of}
use Rattle.set_merge.specs.Inner.{Sound}

-- ---- what a well-formed table has
module _ (t : Texts) (a : Attrs) (h : table_ok t a ≡ true) where
  pub counts : (a.nclass ≤ max_classes) × (a.nkey ≤ max_keys) × (a.norder ≤ max_slots)
  unfolding table_ok counts_ok
  counts =
      let w = both (counts_ok a) (rows_ok t (rows_in a)) h in
      let x = both (leb a.nclass max_classes) (leb a.nkey max_keys && leb a.norder max_slots) w.0 in
      let y = both (leb a.nkey max_keys) (leb a.norder max_slots) x.1 in
      (leb-true a.nclass max_classes x.0, leb-true a.nkey max_keys y.0, leb-true a.norder max_slots y.1)

  pub few : (length (rows_in a).classes ≤ max_classes) × (length (rows_in a).keys ≤ max_keys)
  unfolding rows_in
  few = omega (arith, counts, length-take a.nclass a.classes, length-take a.nkey a.keys)

  pub held_clean : {r : Attrs} → r ≡ table_of (rows_in a) → Holds r (rows_in r)
  held_clean e = held_own (record { is = e; classes = few.0; keys = few.1; each = record { is = slots_length (shaped t a h) } })

  pub sound : Sound a
  sound =
      record {
        nclass = counts.0;
        nkey = counts.1;
        norder = counts.2;
        there = slots_named (rows_in a) (table_passed t a h).slots;
        once = (shaped t a h).once Class;
      }

-- ---- the entry
module _ (t : Texts) (a b : Attrs) {f : Filled} {c : Result (Unit {0}) Refusal} (e : c ≡ both_of t.first t.second) where
  pub by_check : {r : Refusal} → c ≡ Err r → f ≡ refusing r → f ≡ merge_of t a b
  unfolding merge_of
  by_check q g = g ∙ (rw (← e, q))

  module _ (p : c ≡ Ok tt) where
    by_tables : {x y : Bool} → table_ok t a ≡ x → table_ok t b ≡ y → f ≡ cond (x && y) (limited (with_puts t (rows_in a) (puts_by (rows_in b)))) (refusing NotWellFormed) → f ≡ merge_of t a b
    unfolding merge_of
    by_tables x y g = rw (← e, p, x, y) g

    pub first_bad : table_ok t a ≡ false → f ≡ refusing NotWellFormed → f ≡ merge_of t a b
    first_bad x g = by_tables x refl g

    pub second_bad : table_ok t a ≡ true → table_ok t b ≡ false → f ≡ refusing NotWellFormed → f ≡ merge_of t a b
    second_bad x y g = by_tables x y g

    -- the rows of the cleaned set are those of a
    pub both_good : {r : Attrs} → table_ok t a ≡ true → table_ok t b ≡ true → r ≡ table_of (rows_in a) → f ≡ limited (with_puts t (rows_in r) (puts_by (rows_in b))) → f ≡ merge_of t a b
    both_good x y q g = by_tables x y (rw (q, rows_table (rows_in a)) at g)
