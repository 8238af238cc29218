-- The report part by part: what a call lays into lent memory, and where the next call goes on.
use Rattle.std.specs.Prelude.{ℕ, zero, suc, ◌-◌, ◌+◌, Bool, true, cond, ◌&&◌, List, [], ◌∷◌, ◌++◌, eqb, leb, ltb, length, get_or, Err, Ok, Result}
use Rattle.base_refusals.specs.Numbers.{max_text, too_long, Paper, refused_paper, passed_paper}
use Rattle.base_refusals.specs.Orders.{Ground, in_order}
use Rattle.base_refusals.specs.declared.Refusal.{Refusal}
use Rattle.base_refusals.specs.declared.Refusal.TheVariants.{TextTooLong, NothingThere, JoinFull, CanonTooLong}
use Rattle.text_checks.specs.Check.{text_order, check_of}
use Rattle.sheet_blocks.specs.Sheets.{Try, is_block, tries_at}
use Rattle.sheet_report.specs.declared.Told.{Told}
use Rattle.sheet_report.specs.declared.Told.TheVariants.{More, Done}
use Rattle.sheet_report.specs.declared.Part.{Part}
use Rattle.sheet_report.specs.Report.{block_line, refused_line}
use Rattle.base_bytes.specs.Bytes.{lf}

-- on paper: the number of a refusal; else whether the report goes on, yes and no as 1 and 0
abbrev pub told_paper : Result Told Refusal → Paper
told_paper (Err r) = refused_paper r
told_paper (Ok More) = passed_paper (1 ∷ [])
told_paper (Ok Done) = passed_paper (0 ∷ [])

abbrev pub told_no : Result Told Refusal → ℕ
told_no a = (told_paper a).number

-- No line of a report is longer (`line_le` of proofs/Laying.antt): where so many bytes are free, the next line has room, whatever it says. It is `max_text` for the canonical text and
-- 65 for the rest: the word (5 bytes), two numbers of at most 20 digits, three tabs and the LF take 49 of them. The line of a refusal is far shorter.
abbrev pub max_line : ℕ
max_line = max_text + 65

-- ---- what a call does

-- it lays `text` at the front of the lent memory and goes past these tries; the next call goes on at the line of number `line`, which begins at `at`
pub record Laid : Type 0 where
  pub told : Result Told Refusal
  pub text : List ℕ
  pub past : List Try
  pub at : ℕ
  pub line : ℕ

-- nothing is laid, and there is nowhere to go on
abbrev pub laid_none : Result Told Refusal → Laid
laid_none a = record { told = a; text = []; past = []; at = 0; line = 0 }

abbrev pub stopped : Try → Laid
stopped x = record { told = Ok More; text = []; past = []; at = x.at; line = x.line }

-- first these tries are gone past and xs is laid
abbrev pub laid_behind : List Try → List ℕ → Laid → Laid
laid_behind ys xs r = record { told = r.told; text = xs ++ r.text; past = ys ++ r.past; at = r.at; line = r.line }

-- a line at which there is no block adds nothing
unfoldable pub try_line : List ℕ → Try → List ℕ
try_line t x = cond (is_block x.found) (block_line t x) []

-- the lines of tries to come, with so many bytes free: before each the longest line must have room
unfoldable pub lay_from : List ℕ → ℕ → List Try → Laid
lay_from t room [] = laid_none (Ok Done)
lay_from t room (x ∷ xs) = cond (ltb room max_line) (stopped x) (laid_behind (x ∷ []) (try_line t x) (lay_from t (room - length (try_line t x)) xs))

-- it goes on where it went past fewer tries than there are
abbrev pub more_to_tell : List ℕ → ℕ → List Try → List ℕ
more_to_tell t room xs = cond (ltb (length (lay_from t room xs).past) (length xs)) 1 0 ∷ []

-- ---- the two entries

-- "Lines end at LF": where a line begins if a byte stands there, at the text's front and behind each LF
abbrev pub begins_line : List ℕ → ℕ → Bool
begins_line t zero = true
begins_line t (suc i) = eqb (get_or t i 0) lf

-- "no such line": a line begins at the place, and its number can be n, since each line before it has a byte. Behind an LF that ends the text, and in the
-- empty text, no line begins: there nothing is left to report, and the report is whole.
abbrev pub may_begin : List ℕ → ℕ → ℕ → Bool
may_begin t at n = leb at (length t) && (leb 1 n && (leb n (suc at) && begins_line t at))

-- "text above 65,535 bytes"; "answer 9, right after 2, for a shorter one", where the join buffer has `cap` bytes and 2 is the start's; "no such line"; and 10 where the
-- memory lent for the text, `size` bytes, has no room for a line
abbrev pub part_order : List ℕ → ℕ → ℕ → ℕ → ℕ → List Ground
part_order t at n cap size =
    Ground.given TextTooLong (too_long t)
    ∷ Ground.given JoinFull (ltb cap max_text)
    ∷ Ground.lacking NothingThere (may_begin t at n)
    ∷ Ground.given CanonTooLong (ltb size max_line)
    ∷ []

unfoldable pub part_of : List ℕ → ℕ → ℕ → ℕ → ℕ → Laid
unfolding in_order
part_of t at n cap size = in_order (λ r. laid_none (Err r)) (part_order t at n cap size) (lay_from t size (tries_at t max_text n at))

-- "For 1 or 2 the only output is `refused`, 0, 0, number.": the refusal is told, and that line laid unless the longest has no room
abbrev pub refusal : ℕ → Refusal → Laid
refusal size r = record { told = Err r; text = cond (ltb size max_line) [] (refused_line 0 0 r); past = []; at = 0; line = 0 }

abbrev pub start_by : List ℕ → ℕ → ℕ → Result (Unit {0}) Refusal → Laid
start_by t cap size (Err r) = refusal size r
start_by t cap size (Ok _) = part_of t 0 1 cap size

-- "not UTF-8: .. the whole text elsewhere": 2 comes before what a part answers
unfoldable pub start_of : List ℕ → ℕ → ℕ → Laid
start_of t cap size = start_by t cap size (check_of t)

-- "answer 9, right after 2, for a shorter one", then 10
abbrev pub start_order : List ℕ → ℕ → ℕ → List Ground
start_order t cap size = text_order t ++ (Ground.given JoinFull (ltb cap max_text) ∷ Ground.given CanonTooLong (ltb size max_line) ∷ [])

-- ---- what is handed out; the lent memory holds the text at its front, the rest untouched
abbrev pub shown_part : Laid → Part
shown_part r = record { told = r.told; len = length r.text; at = r.at; line = r.line }
