-- What private functions promise of the slots, by what is there and without the rows: nothing that a reader of the public promises has to believe.
use Rattle.std.specs.Prelude.{ℕ, zero, suc, Bool, true, cond, ◌&&◌, List, eqb, ltb}
use Rattle.base_lists.specs.Lists.{all}
use Rattle.set_table.specs.Shape.{times}
use Rattle.set_table.specs.declared.Slot.{Slot}
use Rattle.set_table.specs.declared.Slot.TheVariants.{Id, Class, Key}

-- a slot that is there, where the first n keys are
abbrev pub present_by : Bool → Bool → ℕ → Slot → Bool
present_by id class n Id = id
present_by id class n Class = class
present_by id class n (Key k) = ltb k n

-- each of the first n keys stands once
unfoldable pub keys_in : List Slot → ℕ → Bool
keys_in o zero = true
keys_in o (suc k) = eqb (times (Key k) o) 1 && keys_in o k

unfoldable pub slots_in : List Slot → Bool → Bool → ℕ → Bool
slots_in o id class n = all (present_by id class n) o && (eqb (times Id o) (cond id 1 0) && (eqb (times Class o) (cond class 1 0) && keys_in o n))
