-- Where refusal 8 was. Document 02: "Show over every reading and merge that 8 is never given, then remove it from table and orders." No promise cites this.
use Rattle.std.specs.Prelude.{◌≡◌, cond, ℕ, zero, suc, ltb, length}
use Rattle.base_refusals.specs.Numbers.{outcome_no}
use Rattle.set_table.specs.Types.{max_classes, max_keys, max_slots}
use Rattle.set_table.specs.Rows.{Rows}
use Rattle.set_table.specs.Filled.{limited}
use Rattle.set_table.specs.declared.Attrs.{Attrs}
use Rattle.set_table.specs.declared.Filled.{Filled}
use Rattle.proved_sets.specs.HandedOut.{Throughout}

-- document 01 at first: "grammatical, more than 32 classes" (6), "grammatical, more than 32 distinct keys" (7), "more than 34 slots" (8), in the order "6, 7, 8";
-- the limits are today's
abbrev pub first_limits : Rows → ℕ
first_limits s = cond (ltb max_classes (length s.classes)) 6 (cond (ltb max_keys (length s.keys)) 7 (cond (ltb max_slots (length s.order)) 8 0))

-- Each order ended in "6, 7, 8": an answer that today has the number n and the set a had n where that isn't 0, and else 8 if a has more slots.
abbrev pub first_no : ℕ → Attrs → ℕ
first_no zero a = cond (ltb max_slots a.norder) 8 0
first_no (suc n) a = suc n

-- so it is of rows however they came to be: also of rows with more slots, of which 8 was told
abbrev pub FirstOrder : Type 0
FirstOrder = (s : Rows) → first_no (outcome_no (limited s).outcome) (limited s).set ≡ first_limits s

-- "8 is never given": the number was today's, and that isn't 8
pub record NeverEight (n : ℕ) (a : Attrs) : Type 0 where
  pub same : first_no n a ≡ n
  pub never : first_no n a ≡ 8 → ⊥

abbrev pub NeverGiven : Filled → Type 0
NeverGiven f = NeverEight (outcome_no f.outcome) f.set

-- of a payload, of a line of blocks, and of a merge of any two tables over any texts, hand-made ones too; the entries that read are in proved_demands/specs/Eight
abbrev pub SetsNeverGiven : Type 0
SetsNeverGiven = Throughout NeverGiven
