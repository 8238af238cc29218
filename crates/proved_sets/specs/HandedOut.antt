-- What holds of every set handed out by what fills a set or merges two, that of a refusal included.
use Rattle.std.specs.Prelude.{◌≡◌, false, List, ℕ, ◌+◌, ◌≤◌, length, get_or, Err, Ok}
use Rattle.base_bytes.specs.declared.Mode.{Mode}
use Rattle.base_refusals.specs.declared.Refusal.{Refusal}
use Rattle.set_table.specs.Types.{Texts, empty_set, zero_value, zero_row, zero_slot}
use Rattle.set_table.specs.Rows.{Rows, table_of}
use Rattle.set_table.specs.Shape.{Shaped}
use Rattle.set_table.specs.declared.Attrs.{Attrs}
use Rattle.set_table.specs.declared.Filled.{Filled}
use Rattle.set_fill.specs.Fill.{fill_at, chain_at}
use Rattle.set_merge.specs.Merge.{merge_of}

-- P holds of whatever `fill`, `fill_chain` and `merge_attrs` answer; `merge_leading_attrs` merges the same sets in the other order
pub record Throughout (P : Filled → Type 0) : Type 0 where
  pub fill : (m : Mode) (t : List ℕ) (at end : ℕ) → P (fill_at m t at end)
  pub chain : (m : Mode) (t : List ℕ) (from to : ℕ) → P (chain_at m t from to)
  pub merge : (t : Texts) (a b : Attrs) → P (merge_of t a b)

-- "a refusal has its number, hands out no set" (demand 1): a refusal comes with the empty set, anything else with the table of some rows
pub data Settled : Filled → Type 0 where
  refused : (r : Refusal) → Settled (record { outcome = Err r; set = empty_set })
  done : (s : Rows) → Settled (record { outcome = Ok tt; set = table_of s })

abbrev pub RefusalsEmpty : Type 0
RefusalsEmpty = Throughout Settled

-- "Rows past the counts are zero in every set handed out"
pub record Zeroed (a : Attrs) : Type 0 where
  -- and so is an id that isn't given
  pub id : a.given ≡ false → a.id ≡ zero_value
  pub classes : (k : ℕ) → a.nclass ≤ k → get_or a.classes k zero_value ≡ zero_value
  pub keys : (k : ℕ) → a.nkey ≤ k → get_or a.keys k zero_row ≡ zero_row
  pub slots : (k : ℕ) → a.norder ≤ k → get_or a.order k zero_slot ≡ zero_slot

abbrev pub RestZero : Type 0
RestZero = Throughout (λ f. Zeroed f.set)

-- "Slots: Id, Class and each key stand once": so there are at most two more than keys
abbrev pub FewSlots : Texts → Rows → Type 0
FewSlots t s = Shaped t s → length s.order ≤ 2 + length s.keys
