-- "Numbers over all sheets": "Counted exactly, as the sheet program goes, in this order".
use Rattle.std.specs.Prelude.{ℕ, Bool, cond, List, [], ◌∷◌, eqb, ltb, length, Err, Ok, Result}
use Rattle.base_refusals.specs.Numbers.{max_text, outcome_no}
use Rattle.text_checks.specs.Check.{check_of}
use Rattle.text_lines.specs.Lines.{ranges}
use Rattle.run_lines.specs.Runs.{run_at}
use Rattle.read_blocks.specs.Blocks.{lines_of, lookahead_of, filled_found}
use Rattle.sheet_blocks.specs.Sheets.{Try, tries_from, only_blocks}
use Rattle.sheet_verdicts.specs.Verdicts.{verdict_at}
use Rattle.sheet_totals.specs.declared.Totals.{Totals}
use Rattle.sheet_tally.specs.Lists.{total, greatest_of, keep}
use Rattle.base_refusals.specs.declared.Refusal.{Refusal}

-- ---- of one sheet

-- "as the sheet program goes": "from line 1, it tries .. at each line"; for 1 or 2 it tries none
abbrev pub tries_by : List ℕ → Result (Unit {0}) Refusal → List Try
tries_by t (Err r) = []
tries_by t (Ok _) = tries_from t max_text 1 0 (ranges t)

unfoldable pub tries_in : List ℕ → List Try
tries_in t = tries_by t (check_of t)

-- of tries, the blocks that are printed (n is 0), or refused by the number n
unfoldable pub blocks_by : ℕ → List ℕ → List Try → List Try
blocks_by n t xs = keep (λ x. eqb (outcome_no (verdict_at t x)) n) (only_blocks xs)

abbrev pub printed : List ℕ → List Try → List Try
printed t xs = blocks_by 0 t xs

-- "`wrapped` ones": of more than one line
abbrev pub is_wrapped : Try → Bool
is_wrapped x = ltb 1 (lines_of x.found)

-- "`classes` as read": every one that the block's set lists
abbrev pub classes_at : List ℕ → Try → ℕ
classes_at t x = (filled_found t x.at x.found).set.nclass

-- "distinct `keys`": a set has a row for each
abbrev pub keys_at : List ℕ → Try → ℕ
keys_at t x = (filled_found t x.at x.found).set.nkey

-- "lines `joined` .. over its measuring runs", of runs that are refused too: where none is made, or it joins no line, nothing is looked at
unfoldable pub joined_at : List ℕ → Try → ℕ
joined_at t x = cond (eqb (lookahead_of x.found) 0) 0 (run_at max_text 0 t x.at).lines

-- ---- of a list of sheets: the thirteen

-- "`sheets` (refused too)"
abbrev pub sheet_count : List (List ℕ) → ℕ
sheet_count ts = length ts

-- "printed `blocks`"; "printed refusals .. `refused-6`, `refused-7`, `refused-10`"
abbrev pub block_count : ℕ → List (List ℕ) → ℕ
block_count n ts = total (λ t. length (blocks_by n t (tries_in t))) ts

-- "`wrapped` ones"
abbrev pub wrapped_count : List (List ℕ) → ℕ
wrapped_count ts = total (λ t. length (keep is_wrapped (printed t (tries_in t)))) ts

-- "printed refusals `refused-1`, `refused-2`"
abbrev pub refused_sheets : ℕ → List (List ℕ) → ℕ
refused_sheets n ts = length (keep (λ t. eqb (outcome_no (check_of t)) n) ts)

-- "`classes` as read .. per printed block summed"
abbrev pub class_total : List (List ℕ) → ℕ
class_total ts = total (λ t. total (classes_at t) (printed t (tries_in t))) ts

-- "distinct `keys` per printed block summed"
abbrev pub key_total : List (List ℕ) → ℕ
key_total ts = total (λ t. total (keys_at t) (printed t (tries_in t))) ts

-- "lines `joined` .. over its measuring runs"
abbrev pub joined_total : List (List ℕ) → ℕ
joined_total ts = total (λ t. total (joined_at t) (tries_in t)) ts

-- "total `lookahead` over its measuring runs"
abbrev pub lookahead_total : List (List ℕ) → ℕ
lookahead_total ts = total (λ t. total (λ x. lookahead_of x.found) (tries_in t)) ts

-- "`longest` printed block in lines"
abbrev pub longest_block : List (List ℕ) → ℕ
longest_block ts = greatest_of (λ t. greatest_of (λ x. lines_of x.found) (printed t (tries_in t))) ts

-- "in this order"
unfoldable pub numbers_of : List (List ℕ) → List ℕ
numbers_of ts =
    sheet_count ts
    ∷ block_count 0 ts
    ∷ wrapped_count ts
    ∷ refused_sheets 1 ts
    ∷ refused_sheets 2 ts
    ∷ block_count 6 ts
    ∷ block_count 7 ts
    ∷ block_count 10 ts
    ∷ class_total ts
    ∷ key_total ts
    ∷ joined_total ts
    ∷ lookahead_total ts
    ∷ longest_block ts
    ∷ []

-- the report over these sheets, as totals
abbrev pub totals_of : List (List ℕ) → Totals
totals_of ts = record { numbers = numbers_of ts }
