-- "removes the key and its slot": the rows of a set without one of them. "Other rows keep order and content."
use Rattle.std.specs.Prelude.{ℕ, zero, suc, ◌-◌, cond, List, [], ◌∷◌, ltb}
use Rattle.set_table.specs.Rows.{Rows}
use Rattle.set_table.specs.Shape.{is_slot}
use Rattle.set_table.specs.declared.Slot.{Slot}
use Rattle.set_table.specs.declared.Slot.TheVariants.{Id, Class, Key}

-- a list without its k-th; those behind it move up
unfoldable pub without_at : {A : Type 0} → ℕ → List A → List A
without_at zero [] = []
without_at (suc k) [] = []
without_at zero (x ∷ xs) = xs
without_at (suc k) (x ∷ xs) = x ∷ without_at k xs

-- a slot that stays: a row behind the k-th has moved up
abbrev pub lowered : ℕ → Slot → Slot
lowered k Id = Id
lowered k Class = Class
lowered k (Key j) = Key (cond (ltb k j) (j - 1) j)

-- the slot of the row k goes, the others stay in their order
unfoldable pub slots_without : ℕ → List Slot → List Slot
slots_without k [] = []
slots_without k (y ∷ o) = cond (is_slot (Key k) y) (slots_without k o) (lowered k y ∷ slots_without k o)

-- the id and the classes stay as they are
unfoldable pub without_row : ℕ → Rows → Rows
without_row k s = record { ident = s.ident; classes = s.classes; keys = without_at k s.keys; order = slots_without k s.order }
