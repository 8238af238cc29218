-- "`refused_brace_run` answers Lines, No with a count, or No to the end": a run is refused if its only fault is a line too far left.
use Rattle.std.specs.Prelude.{ℕ, suc, ◌-◌, max, Bool, true, false, cond, ◌&&◌, ◌||◌, not, List, [], ◌∷◌, ◌++◌, eqb, ltb, length, drop, Err, None, Ok, Option, Result, Some}
use Rattle.block_payloads.specs.Payloads.{opens}
use Rattle.text_checks.specs.Check.{text_order, check_of}
use Rattle.base_refusals.specs.Numbers.{too_long, number_of, outcome_no, Paper, refused_paper, passed_paper}
use Rattle.base_refusals.specs.Orders.{Ground}
use Rattle.base_refusals.specs.declared.Refusal.TheVariants.{TextTooLong, JoinFull}
use Rattle.text_lines.specs.Trim.{trim_start, is_blank_line}
use Rattle.text_lines.specs.Lines.{lines, line_of}
use Rattle.text_tabs.specs.Columns.{indent_columns, most}
use Rattle.block_grammar.specs.Close.{fresh}
use Rattle.block_chain.specs.Chain.{good_line}
use Rattle.run_joins.specs.Joins.{Lined}
use Rattle.run_lines.specs.Runs.{Run, run_of}
use Rattle.run_spots.specs.declared.Spot.{Spot}
use Rattle.run_spots.specs.Spots.{is_stray, spot_after, shallow_or, closes_comment, opens_comment}
use Rattle.run_refused.specs.declared.RunReply.{RunReply}
use Rattle.run_refused.specs.declared.RunReply.TheVariants.{No, Lines, NoEnd}
use Rattle.run_refused.specs.declared.RefusedRun.{RefusedRun}
use Rattle.base_refusals.specs.declared.Refusal.{Refusal}
use Rattle.text_lines.specs.declared.Range.{Range}

-- ---- this paper's number and values

-- "gives its own answers, or 1, 2, 9": "Lines, No with a count, or No to the end (`usize::MAX` in 000)" are 1, 0 and 2, with the count
abbrev pub reply_paper : Result RunReply Refusal → Paper
reply_paper (Ok (Lines n)) = passed_paper (1 ∷ n ∷ [])
reply_paper (Ok (No n)) = passed_paper (0 ∷ n ∷ [])
reply_paper (Ok NoEnd) = passed_paper (2 ∷ most ∷ [])
reply_paper (Err r) = refused_paper r

-- ---- the walk over lines

-- no block that closes; or the lines up to the one that closes it, padded, and whether one of them stands too far left
pub data Stretch : Type 0 where
  none : Stretch
  block : Bool → List Lined → Stretch

abbrev pub onto_stretch : Lined → Stretch → Stretch
onto_stretch l Stretch.none = Stretch.none
onto_stretch l (Stretch.block s ls) = Stretch.block s (l ∷ ls)

-- "a stray `}` leaves both at once with its answer": then what comes after the line isn't asked
unfoldable pub walk_line : Spot → List ℕ → (Spot → Stretch) → Stretch
walk_line p [] rest = rest p
walk_line p (b ∷ s) rest = cond (is_stray p b) Stretch.none (walk_line (spot_after p b) s rest)

-- before a line: whether it is the first, whether a line before it stands too far left, and the column of the last brace that opened a block
pub record On : Type 0 where
  pub first : Bool
  pub shallow : Bool
  pub brace : ℕ

-- 000: a run ends at a blank line, and no later line of it opens with a brace. "where 000's `brace_column + 1 - opener_column` would fall
-- below zero (..), the port answers No(0)"
abbrev pub halts : Bool → ℕ → ℕ → List ℕ → Bool
halts first brace opener l = is_blank_line l || (not first && (ltb (suc brace) opener || opens l))

-- "Padded `repaired` copies: pads as numbers": a later line keeps its distance from the opener's column, but stands at least one column beyond the last brace that
-- opened, and never in column 0
abbrev pub pad_of : Bool → ℕ → ℕ → ℕ → ℕ
pad_of first column brace opener = cond first 0 (max (column - opener) (max (suc brace - opener) 1))

abbrev pub padded_line : ℕ → On → List ℕ → Lined
padded_line opener w l = record { pad = pad_of w.first (indent_columns l) w.brace opener; line = trim_start l; size = length l }

-- in every later line a block is open at its start
abbrev pub entered_at : Bool → ℕ → List ℕ → Spot
entered_at first brace l = record { scan = fresh; column = indent_columns l; inside = not first; brace = brace }

abbrev pub on_after : On → List ℕ → ℕ → On
on_after w l brace = record { first = false; shallow = shallow_or w.shallow w.first (indent_columns l) w.brace; brace = brace }

-- where no block is open behind the line, the run is at its end
abbrev pub behind_line : Lined → (ℕ → On) → (On → Stretch) → Spot → Stretch
behind_line l w rest p = onto_stretch l (cond p.inside (rest (w p.brace)) (Stretch.block (w p.brace).shallow []))

unfoldable pub walk_from : ℕ → On → List (List ℕ) → Stretch
walk_from opener w [] = Stretch.none
walk_from opener w (l ∷ ls) =
    cond (halts w.first w.brace opener l) Stretch.none
    (walk_line (entered_at w.first w.brace l) (trim_start l) (behind_line (padded_line opener w l) (on_after w l) (λ v. walk_from opener v ls)))

abbrev pub on_first : ℕ → On
on_first opener = record { first = true; shallow = false; brace = opener }

-- ---- what is answered

-- with the lookahead and the joined text
pub record RunTold : Type 0 where
  pub answer : Result RunReply Refusal
  pub lookahead : ℕ
  pub text : List ℕ

abbrev pub unjoined : Result RunReply Refusal → RunTold
unjoined a = record { answer = a; lookahead = 0; text = [] }

-- the padded lines, so many, must be a good run that takes them all; of "1, 2, 9" only 9 can arise here, where a line doesn't fit the join buffer
abbrev pub run_answer : Result (Unit {0}) Refusal → Bool → ℕ → Result RunReply Refusal
run_answer (Ok _) good count = cond good (Ok (Lines count)) (Ok (No 0))
run_answer (Err r) good count = cond (eqb (number_of r) (number_of JoinFull)) (Err r) (Ok (No 0))

abbrev pub judged : ℕ → Run → RunTold
judged count r =
    record {
      answer = run_answer r.stop (eqb r.lines count && good_line r.text 0 (length r.text)) count;
      lookahead = r.lookahead;
      text = r.text;
    }

-- a run with no line too far left isn't refused, and nothing of it is joined
unfoldable pub found_in : ℕ → Stretch → RunTold
found_in cap Stretch.none = unjoined (Ok (No 0))
found_in cap (Stretch.block shallow ls) = cond shallow (judged (length ls) (run_of cap 0 ls)) (unjoined (Ok (No 0)))

-- ---- comments (000): `{%` up to the first line with `%}`, or to a blank line or the text's end, which both answer No to the end

abbrev pub comment_by : Bool → ℕ → Result RunReply Refusal
comment_by shallow n = cond shallow (Ok (Lines n)) (Ok (No n))

-- behind n lines
unfoldable pub comment_from : ℕ → ℕ → Bool → List (List ℕ) → Result RunReply Refusal
comment_from opener n shallow [] = Ok NoEnd
comment_from opener n shallow (l ∷ ls) =
    cond (is_blank_line l) (Ok NoEnd)
    (cond (closes_comment l) (comment_by (shallow_or shallow (eqb n 0) (indent_columns l) opener) (suc n))
    (comment_from opener (suc n) (shallow_or shallow (eqb n 0) (indent_columns l) opener) ls))

-- ---- the run from the first of lines on

unfoldable pub refused_of : ℕ → List (List ℕ) → RunTold
refused_of cap [] = unjoined (Ok (No 0))
refused_of cap (l ∷ ls) =
    cond (opens l)
    (cond (opens_comment l) (unjoined (comment_from (indent_columns l) 0 false (l ∷ ls)))
    (found_in cap (walk_from (indent_columns l) (on_first (indent_columns l)) (l ∷ ls))))
    (unjoined (Ok (No 0)))

-- by the place at which the first line begins; "text above 65,535 bytes" is refused, and where the text ends no line begins
unfoldable pub refused_at : ℕ → List ℕ → ℕ → RunTold
refused_at cap t at = cond (too_long t) (unjoined (Err TextTooLong)) (refused_of cap (lines (drop at t)))

-- ---- the entry by line number: "a missing line is No(0)"

abbrev pub refused_by : ℕ → List ℕ → Result (Unit {0}) Refusal → Option Range → RunTold
refused_by cap t (Err r) l = unjoined (Err r)
refused_by cap t (Ok _) None = unjoined (Ok (No 0))
refused_by cap t (Ok _) (Some r) = refused_of cap (lines (drop r.from t))

unfoldable pub refused_run : ℕ → List ℕ → ℕ → RunTold
refused_run cap t n = refused_by cap t (check_of t) (line_of n t)

abbrev pub handed_out : RunTold → RefusedRun
handed_out r = record { answer = r.answer; lookahead = r.lookahead; joined = length r.text }

-- ---- the order: "gives its own answers, or 1, 2, 9"

-- 9 where a line doesn't fit the join buffer
abbrev pub full_order : Run → List Ground
full_order r = Ground.given JoinFull (eqb (outcome_no r.stop) (number_of JoinFull)) ∷ []

abbrev pub stretch_order : ℕ → Stretch → List Ground
stretch_order cap Stretch.none = []
stretch_order cap (Stretch.block shallow ls) = cond shallow (full_order (run_of cap 0 ls)) []

-- a comment joins nothing
abbrev pub lines_order : ℕ → List (List ℕ) → List Ground
lines_order cap [] = []
lines_order cap (l ∷ ls) =
    cond (opens l) (cond (opens_comment l) [] (stretch_order cap (walk_from (indent_columns l) (on_first (indent_columns l)) (l ∷ ls)))) []

-- by a place
abbrev pub place_order : ℕ → List ℕ → ℕ → List Ground
place_order cap t at = Ground.given TextTooLong (too_long t) ∷ lines_order cap (lines (drop at t))

abbrev pub from_line : ℕ → List ℕ → Option Range → List Ground
from_line cap t None = []
from_line cap t (Some r) = lines_order cap (lines (drop r.from t))

abbrev pub refused_order : ℕ → List ℕ → ℕ → List Ground
refused_order cap t n = text_order t ++ from_line cap t (line_of n t)
