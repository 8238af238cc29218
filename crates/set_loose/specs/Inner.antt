-- What private functions promise and ask: nothing that a reader of the public promise has to believe.
use Rattle.std.specs.Prelude.{◌≡◌, cond, ℕ, suc, ◌<◌, ◌≤◌, ltb, length, None, Option, Some}
use Rattle.set_table.specs.Types.{Texts, max_keys, max_slots}
use Rattle.set_table.specs.Rows.{rows_in, table_of}
use Rattle.set_table.specs.Shape.{is_slot, Shaped}
use Rattle.set_table.specs.declared.Slot.{Slot}
use Rattle.set_table.specs.declared.Slot.TheVariants.{Key}
use Rattle.set_table.specs.declared.Attrs.{Attrs}
use Rattle.set_loose.specs.Without.{lowered, slots_without}

-- where row j of the rows without row k stood
abbrev pub raised : ℕ → ℕ → ℕ
raised k j = cond (ltb j k) j (suc j)

-- what becomes of a slot
abbrev pub kept_of : ℕ → Slot → Option Slot
kept_of k y = cond (is_slot (Key k) y) None (Some (lowered k y))

-- a table that is zero past its counts, with a row k that has one slot
pub record Ready (a : Attrs) (k : ℕ) : Type 0 where
  pub clean : a ≡ table_of (rows_in a)
  pub nkey : a.nkey ≤ max_keys
  pub norder : a.norder ≤ max_slots
  pub there : k < a.nkey
  pub slots : suc (length (slots_without k (rows_in a).order)) ≡ a.norder

-- a table that is zero past its counts, whose slots name what is there, once each
pub record Clean (t : Texts) (a : Attrs) : Type 0 where
  pub clean : a ≡ table_of (rows_in a)
  pub nkey : a.nkey ≤ max_keys
  pub norder : a.norder ≤ max_slots
  pub shape : Shaped t (rows_in a)
