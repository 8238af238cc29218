-- What private functions promise as a set is put into another: nothing that a reader of the public promises has to believe.
use Rattle.std.specs.Prelude.{◌≡◌, true, false, cond, List, ℕ, ◌+◌, ◌≤◌, ◌<◌, length, take}
use Rattle.base_lists.specs.Lists.{all, is_some}
use Rattle.set_table.specs.Types.{Texts, max_classes, max_keys, max_slots}
use Rattle.set_table.specs.Rows.{Put, with_puts, padded, rows_in}
use Rattle.set_table.specs.Inner.{Holds}
use Rattle.set_table.specs.Shape.{is_present, times}
use Rattle.set_table.specs.declared.Slot.{Slot}
use Rattle.set_table.specs.declared.Slot.TheVariants.{Id, Class, Key}
use Rattle.set_table.specs.declared.Attrs.{Attrs}
use Rattle.set_merge.specs.declared.Merging.{Merging}

-- the first n rows of an array, and zero behind them
abbrev pub firsts : {A : Type 0} → ℕ → A → ℕ → List A → List A
firsts max zero n xs = padded max zero (take n xs)

-- ps fit into a, or their keys are too many
pub record Steps (t : Texts) (a : Attrs) (ps : List Put) (s : Merging) : Type 0 where
  pub done : s.fits ≡ true → Holds s.set (with_puts t (rows_in a) ps)
  pub over : s.fits ≡ false → max_keys < length (with_puts t (rows_in a) ps).keys

-- the counts of b are within the limits, and its slots name what is there, the classes once
pub record Sound (b : Attrs) : Type 0 where
  pub nclass : b.nclass ≤ max_classes
  pub nkey : b.nkey ≤ max_keys
  pub norder : b.norder ≤ max_slots
  pub there : all (is_present (rows_in b)) (rows_in b).order ≡ true
  pub once : times Class (rows_in b).order ≡ cond (is_some (rows_in b).classes) 1 0

-- the slot of b can be put into s: its key has a row, its classes have room
abbrev pub Fits : Attrs → Attrs → Slot → Type 0
Fits s b Id = 0 ≤ 0
Fits s b Class = s.nclass + b.nclass ≤ max_classes
Fits s b (Key k) = k < b.nkey

pub record Present (s b : Attrs) (x : Slot) : Type 0 where
  pub nkey : b.nkey ≤ max_keys
  pub nclass : b.nclass ≤ max_classes
  pub fits : Fits s b x
