-- The lines of a sheet that look like a block and are none: what is wrong with each. Document 01: "A block is one good line, else .. a wrapped run".
use Rattle.std.specs.Prelude.{ℕ, ◌+◌, ◌-◌, Bool, true, false, cond, ◌&&◌, not, List, [], ◌∷◌, eqb, ltb, take, drop, Err, None, Ok, Option, Result, Some}
use Rattle.std.proofs.Math.Seq.{slice}
use Rattle.base_lists.specs.Lists.{same, over}
use Rattle.base_refusals.specs.Numbers.{max_text, too_long, number_of, Paper, refused_paper, passed_paper}
use Rattle.base_refusals.specs.Orders.{Ground}
use Rattle.base_refusals.specs.declared.Refusal.{Refusal}
use Rattle.base_refusals.specs.declared.Refusal.TheVariants.{TextTooLong, JoinFull}
use Rattle.text_lines.specs.Lines.{ranges}
use Rattle.block_faults.specs.Faults.{fault_from}
use Rattle.block_faults.specs.declared.Fault as faults
use Rattle.block_faults.specs.declared.Fault.TheVariants as fault
use Rattle.block_trimmed_line.specs.Fronts.{front_of, opens_at}
use Rattle.run_stops.specs.Stops.{quote_left, stop_at, source_of}
use Rattle.run_stops.specs.declared.Stop.{Stop}
use Rattle.run_stops.specs.declared.Source.{Source}
use Rattle.run_stops.specs.declared.Why as whys
use Rattle.run_stops.specs.declared.Why.TheVariants as why
use Rattle.run_lines.specs.Runs.{Run, run_at, past_lines}
use Rattle.run_refused.specs.Refused.{refused_at}
use Rattle.run_refused.specs.declared.RunReply as replies
use Rattle.run_refused.specs.declared.RunReply.TheVariants as reply
use Rattle.read_blocks.specs.Blocks.{Found, found, lines_of, join_holds}
use Rattle.read_lengths.specs.Lengths.{flush_left}
use Rattle.sheet_blocks.specs.Sheets.{Try, tries_from, tries_at, is_block}
use Rattle.sheet_verdicts.specs.Verdicts.{verdict_at}
use Rattle.sheet_findings.specs.declared.Kind as kinds
use Rattle.sheet_findings.specs.declared.Kind.TheVariants as kind
use Rattle.sheet_findings.specs.declared.Finding.{Finding}
use Rattle.sheet_findings.specs.declared.Step.{Step}
use Rattle.sheet_findings.specs.declared.Next.{Next}

-- ---- a finding

abbrev pub kind_no : kinds.Kind → ℕ
kind_no kind.Clear = 0
kind_no kind.Limit = 1
kind_no kind.Marked = 2
kind_no kind.Indented = 3
kind_no kind.Mistake = 4
kind_no kind.Behind = 5
kind_no kind.Unclosed = 6
kind_no kind.Quoted = 7
kind_no kind.Blank = 8
kind_no kind.Left = 9
kind_no kind.Shallow = 10
kind_no kind.Entries = 11

abbrev pub is_clear : kinds.Kind → Bool
is_clear k = eqb (kind_no k) 0

-- in the line itself
abbrev pub here : kinds.Kind → ℕ → Finding
here k place = record { kind = k; row = 0; place = place; number = 0 }

-- ---- blocks that should stand back to back to the end

-- "no close": for a quote that is left open, or by itself
abbrev pub open_by : ℕ → Option ℕ → Finding
open_by at None = here kind.Unclosed at
open_by at (Some p) = here kind.Quoted p

unfoldable pub open_finding : List ℕ → ℕ → Finding
open_finding s at = open_by at (quote_left s at)

-- text behind the last `}`, no close, or "a place": where the payload went wrong
abbrev pub chain_by : List ℕ → Option faults.Fault → Finding
chain_by s None = here kind.Clear 0
chain_by s (Some (fault.Behind i)) = here kind.Behind i
chain_by s (Some (fault.Open i)) = open_finding s i
chain_by s (Some (fault.Wrong i)) = here kind.Mistake i

unfoldable pub chain_finding : List ℕ → ℕ → Finding
chain_finding s from = chain_by s (fault_from (drop from s) 0 from)

-- ---- wrapped runs

-- in the joined text of n lines, told where it stands in the sheet
abbrev pub placed : Finding → Source → Finding
placed f s = record { kind = f.kind; row = s.row; place = s.place; number = 0 }

unfoldable pub joined_finding : List ℕ → ℕ → ℕ → List ℕ → Finding
joined_finding t at n s = placed (chain_finding s 0) (source_of t at n (chain_finding s 0).place)

-- `refused_brace_run` says Lines: the run is refused only for a line too far left
abbrev pub left_kind : Result replies.RunReply Refusal → kinds.Kind
left_kind (Ok (reply.No n)) = kind.Left
left_kind (Ok (reply.Lines n)) = kind.Shallow
left_kind (Ok reply.NoEnd) = kind.Left
left_kind (Err r) = kind.Left

abbrev pub stopped : kinds.Kind → Stop → ℕ → Finding
stopped k s n = record { kind = k; row = s.row; place = s.place; number = n }

abbrev pub stop_by : Stop → ℕ → kinds.Kind → whys.Why → Finding
stop_by s from k why.End = here kind.Unclosed from
stop_by s from k why.Blank = stopped kind.Blank s 0
stop_by s from k why.Quoted = stopped kind.Quoted s 0
stop_by s from k why.Left = stopped k s s.brace
stop_by s from k why.Entries = stopped kind.Entries s 0

-- why a run isn't closed; its first brace stands at `from`
unfoldable pub stop_finding : Stop → ℕ → kinds.Kind → Finding
stop_finding s from left = stop_by s from left s.why

-- "The run ends at the first line with a `}` after which the joined text holds no open block; that text must then be a good line." Else the run has stopped before.
abbrev pub run_by : List ℕ → ℕ → ℕ → ℕ → Run → Result (Unit {0}) Refusal → Finding
run_by t cap at from r (Ok _) = joined_finding t at r.lines r.text
run_by t cap at from r (Err q) = stop_finding (stop_at t at r.lines) from (left_kind (refused_at cap t at).answer)

unfoldable pub run_finding : List ℕ → ℕ → ℕ → ℕ → Finding
run_finding t cap at from = run_by t cap at from (run_at cap 0 t at) (run_at cap 0 t at).stop

-- ---- a line outside blocks

-- its trimmed front is `{`, and it is no block: "if the first line's trimmed end isn't `}`, a wrapped run"
unfoldable pub fault_finding : List ℕ → ℕ → ℕ → Finding
fault_finding t cap at = cond (front_of t at).closes (chain_finding (take (front_of t at).to t) (front_of t at).from) (run_finding t cap at (front_of t at).from)

-- "for `standalone_attrs_block_len`, first line starts with space or tab": so many bytes stand before its brace
abbrev pub indented_finding : List ℕ → ℕ → Finding
indented_finding t at = record { kind = kind.Indented; row = 0; place = at; number = (front_of t at).from - at }

-- the bytes EF BB BF, "never trimmed and never blank", before a brace: at `at`, which is a line's trimmed front
abbrev pub byte_order_mark : List ℕ
byte_order_mark = 239 ∷ 187 ∷ 191 ∷ []

unfoldable pub mark_finding : List ℕ → ℕ → Finding
mark_finding t at = cond (same (slice at (at + 3) t) byte_order_mark && opens_at t (at + 3)) (here kind.Marked at) (here kind.Clear 0)

-- no line is taken
abbrev pub has_none : Found → Bool
has_none f = eqb (lines_of f) 0

unfoldable pub line_finding : List ℕ → ℕ → ℕ → Finding
line_finding t cap at = cond (opens_at t at) (cond (has_none (found t at 0 cap)) (fault_finding t cap at) (indented_finding t at)) (mark_finding t (front_of t at).from)

-- ---- a line that the sheet program tries

-- "for 6, 7 or 10 `refused`"
abbrev pub limit_finding : Result (Unit {0}) Refusal → ℕ → Finding
limit_finding (Ok _) place = here kind.Clear 0
limit_finding (Err r) place = record { kind = kind.Limit; row = 0; place = place; number = number_of r }

-- what is wrong with it: of a block what the report says of it
unfoldable pub finding_of : List ℕ → ℕ → Try → Finding
finding_of t cap x = cond (is_block x.found) (limit_finding (verdict_at t x) (front_of t x.at).from) (line_finding t cap x.at)

-- "then it goes past the block, or with none on one line"
abbrev pub lines_past : Found → ℕ
lines_past f = cond (is_block f) (lines_of f) 1

-- the findings of a sheet: of the lines that are tried those with which something is wrong
abbrev pub is_found : List ℕ → ℕ → Try → Bool
is_found t cap x = not (is_clear (finding_of t cap x).kind)

unfoldable pub only_found : List ℕ → ℕ → List Try → List Try
only_found t cap [] = []
only_found t cap (x ∷ xs) = cond (is_found t cap x) (x ∷ only_found t cap xs) (only_found t cap xs)

unfoldable pub findings_of : List ℕ → List Try
findings_of t = only_found t max_text (tries_from t max_text 1 0 (ranges t))

-- ---- how a caller goes from one to the next

-- the line at `at`, its finding, how many lines it takes, and where the next begins
abbrev pub try_at : List ℕ → ℕ → ℕ → ℕ → Try
try_at t cap n at = record { line = n; at = at; found = flush_left t cap at }

unfoldable pub step_of : List ℕ → ℕ → ℕ → Step
step_of t cap at =
    record {
      finding = finding_of t cap (try_at t cap 0 at);
      lines = lines_past (flush_left t cap at);
      next = past_lines (lines_past (flush_left t cap at)) t at;
    }

abbrev pub at_once : Result (Option Finding) Refusal → ℕ → Next
at_once x at = record { told = x; skipped = 0; at = at; lines = 0; next = at }

-- the first of those whose lines are numbered from 0, so that its number says how many lines are gone past before it
abbrev pub first_found : List ℕ → ℕ → ℕ → List Try → Next
first_found t cap at [] = at_once (Ok None) at
first_found t cap at (x ∷ xs) =
    record {
      told = Ok (Some (finding_of t cap x));
      skipped = x.line;
      at = x.at;
      lines = lines_past x.found;
      next = past_lines (lines_past x.found) t x.at;
    }

-- before anything is read "text above 65,535 bytes" is refused, and a join buffer of fewer bytes: "later parts that read whole sheets are lent such a join buffer and
-- answer 9, right after 2, for a shorter one" (2 is for the caller to ask)
unfoldable pub next_finding : List ℕ → ℕ → ℕ → Next
next_finding t cap at =
    cond (too_long t) (at_once (Err TextTooLong) at)
    (cond (ltb cap max_text) (at_once (Err JoinFull) at)
    (first_found t cap at (only_found t cap (tries_at t cap 0 at))))

-- ---- "a second run in one call writes over the front of what the first left": the join buffer

abbrev pub run_holds_by : List ℕ → ℕ → ℕ → List ℕ → Run → Result (Unit {0}) Refusal → List ℕ
run_holds_by t cap at buf r (Ok _) = over r.text buf
run_holds_by t cap at buf r (Err q) = over (refused_at cap t at).text (over r.text buf)

unfoldable pub run_holds : List ℕ → ℕ → ℕ → List ℕ → List ℕ
run_holds t cap at buf = run_holds_by t cap at buf (run_at cap 0 t at) (run_at cap 0 t at).stop

unfoldable pub fault_holds : List ℕ → ℕ → ℕ → List ℕ → List ℕ
fault_holds t cap at buf = cond (front_of t at).closes buf (run_holds t cap at buf)

-- a block is looked for in every line that opens with a brace, and what is wrong where there is none
unfoldable pub step_holds : List ℕ → ℕ → ℕ → List ℕ → List ℕ
step_holds t cap at buf =
    cond (opens_at t at) (cond (has_none (found t at 0 cap)) (fault_holds t cap at (join_holds buf (found t at 0 cap))) (join_holds buf (found t at 0 cap))) buf

-- up to the first finding
unfoldable pub holds_up_to : List ℕ → ℕ → List ℕ → List Try → List ℕ
holds_up_to t cap buf [] = buf
holds_up_to t cap buf (x ∷ xs) = cond (is_found t cap x) (step_holds t cap x.at buf) (holds_up_to t cap (step_holds t cap x.at buf) xs)

unfoldable pub next_holds : List ℕ → ℕ → ℕ → List ℕ → List ℕ
next_holds t cap at buf = cond (too_long t) buf (cond (ltb cap max_text) buf (holds_up_to t cap buf (tries_at t cap 0 at)))

-- ---- on paper: 1, 9; else which kind it is, and its numbers, for which document 01 has none

abbrev pub next_order : List ℕ → ℕ → List Ground
next_order t cap = Ground.given TextTooLong (too_long t) ∷ Ground.given JoinFull (ltb cap max_text) ∷ []

abbrev pub found_paper : Result (Option Finding) Refusal → Paper
found_paper (Err r) = refused_paper r
found_paper (Ok None) = passed_paper []
found_paper (Ok (Some f)) = passed_paper (kind_no f.kind ∷ f.row ∷ f.place ∷ f.number ∷ [])
