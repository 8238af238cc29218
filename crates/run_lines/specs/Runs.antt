-- "Runs of lines": "trimmed lines joined by one space", up to the line that closes the run or refuses it.
use Rattle.std.specs.Prelude.{ℕ, zero, suc, ◌+◌, true, cond, List, [], ◌∷◌, ◌++◌, map, length, drop, Err, None, Ok, Result}
use Rattle.text_lines.specs.Lines.{lines, line_from}
use Rattle.run_scanners.specs.Scanners.{holds_open}
use Rattle.base_refusals.specs.Orders.{Ground}
use Rattle.base_refusals.specs.declared.Refusal.TheVariants.{NoReading, JoinFull}
use Rattle.run_joins.specs.Joins.{Lined, at_pad, So, after, is_closing, by_line, by_line_order}
use Rattle.run_lines.specs.declared.Joined.{Joined}
use Rattle.base_refusals.specs.declared.Refusal.{Refusal}

-- ---- a run

-- a line as it stands in the text
abbrev pub as_is : List ℕ → Lined
as_is l = at_pad 0 l

-- before its first line
abbrev pub start : ℕ → So
start base = record { text = []; lines = 0; lookahead = 0; brace = 0; base = base; quote = None }

pub record Run : Type 0 where
  pub stop : Result (Unit {0}) Refusal
  pub text : List ℕ
  pub lines : ℕ
  pub lookahead : ℕ

abbrev pub ended : Result (Unit {0}) Refusal → So → Run
ended x so = record { stop = x; text = so.text; lines = so.lines; lookahead = so.lookahead }

-- the run over the lines to come, with a join buffer of `cap` bytes: the line that doesn't fit is not joined, and not counted
unfoldable pub run_from : ℕ → So → List Lined → Run
run_from cap so [] = ended (Err NoReading) so
run_from cap so (l ∷ ls) =
    by_line cap so l (holds_open (after so l).text) (ended (Err NoReading) so) (ended (Err JoinFull) so) (ended (Ok tt)) (λ s. run_from cap s ls)

abbrev pub run_of : ℕ → ℕ → List Lined → Run
run_of cap base ls = run_from cap (start base) ls

-- the run over the lines of a text, from the line on that begins at `at`
unfoldable pub run_at : ℕ → ℕ → List ℕ → ℕ → Run
run_at cap base t at = run_of cap base (map as_is (lines (drop at t)))

-- ---- the order: "9 or 5 as the run meets them"

-- line by line, and 5 where none is left
unfoldable pub order_from : ℕ → So → List Lined → List Ground
order_from cap so [] = Ground.given NoReading true ∷ []
order_from cap so (l ∷ ls) = by_line_order cap so l ++ cond (is_closing l.line (holds_open (after so l).text)) [] (order_from cap (after so l) ls)

abbrev pub run_order : ℕ → ℕ → List ℕ → ℕ → List Ground
run_order cap base t at = order_from cap (start base) (map as_is (lines (drop at t)))

-- ---- what is handed out

-- the place behind so many lines from the one that begins at `at`
unfoldable pub past_lines : ℕ → List ℕ → ℕ → ℕ
past_lines zero t at = at
past_lines (suc n) t at = past_lines n t (line_from t at).next

-- "After every call the join buffer holds the joined lines at its front, the rest untouched": `over` of base_lists, of the run's text
abbrev pub joined_of : List ℕ → ℕ → Run → Joined
joined_of t at r =
    record { stop = r.stop; len = length r.text; lines = r.lines; lookahead = r.lookahead; next = past_lines r.lines t at }

-- the untrimmed lengths of lines together
unfoldable pub sizes : List Lined → ℕ
sizes [] = 0
sizes (l ∷ ls) = l.size + sizes ls
