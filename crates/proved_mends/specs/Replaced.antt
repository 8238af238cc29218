-- "mend after lines a to b were replaced. The mended index equals one built afresh from the new text."
use Rattle.std.specs.Prelude.{◌≡◌, true, List, ℕ, ◌≤◌, length, Some}
use Rattle.base_refusals.specs.Numbers.{max_text}
use Rattle.sheet_edits.specs.Edits.{Replaced, again_of, is_again}
use Rattle.sheet_edits.specs.Rules.{ReadAgain}
use Rattle.sheet_edits.specs.Mends.{Mends}

-- 3 as a rule: "lines a to b not in the old text, or the new text not beginning with the old bytes before line a and, without overlap, ending with those after line b".
-- It isn't given exactly where some bytes stand in the place of these lines.
pub record ByRule (old new : List ℕ) (a b : ℕ) : Type 0 where
  pub sound : is_again (again_of old new a b) ≡ true → Replaced old new a b
  pub complete : Replaced old new a b → is_again (again_of old new a b) ≡ true

abbrev pub ThreeByRule : Type 0
ThreeByRule = (old new : List ℕ) (a b : ℕ) → ByRule old new a b

-- The lines that are read again, by rule: from the last line before line a that begins with neither space nor tab, else from the front, up to the first such line of
-- the new text behind what stands in the place of lines a to b, else to the end.
abbrev pub AgainByRule : Type 0
AgainByRule = (old new : List ℕ) (a b p e n : ℕ)
    → (again_of old new a b ≡ Some (p, e, n) → ReadAgain old new a b p e n) × (ReadAgain old new a b p e n → again_of old new a b ≡ Some (p, e, n))

-- the records before the lines that are read again are kept, those behind them are kept and moved, and with those of these lines they are the new text's
abbrev pub MendedIsFresh : Type 0
MendedIsFresh = (old new : List ℕ) (a b p e n : ℕ) → again_of old new a b ≡ Some (p, e, n) → length old ≤ max_text → length new ≤ max_text → Mends old new p e n
