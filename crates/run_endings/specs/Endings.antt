-- "`ends_in_refused_brace_run` says yes or no": yes if one of the runs that are tried, at most two, is refused
-- and takes all lines from its first to the text's last.
use Rattle.std.specs.Prelude.{ℕ, ◌+◌, Bool, cond, ◌&&◌, not, List, [], ◌∷◌, ◌++◌, eqb, length, take, get_or, Err, Ok, Result, true, false}
use Rattle.block_payloads.specs.Payloads.{opens}
use Rattle.base_lists.specs.Lists.{all, is_in, over}
use Rattle.base_refusals.specs.Numbers.{Paper, refused_paper, passed_paper}
use Rattle.base_refusals.specs.Orders.{Ground}
use Rattle.text_checks.specs.Check.{text_order, check_of}
use Rattle.text_lines.specs.Trim.{is_blank_line}
use Rattle.text_lines.specs.Lines.{lines}
use Rattle.run_spots.specs.Spots.{closes_comment}
use Rattle.run_refused.specs.Refused.{reply_paper, RunTold, refused_of, lines_order}
use Rattle.run_refused.specs.declared.RunReply.{RunReply}
use Rattle.run_refused.specs.declared.RunReply.TheVariants.{No, Lines, NoEnd}
use Rattle.run_endings.specs.declared.EndsRun.{EndsRun}
use Rattle.base_bytes.specs.Bytes.{close_brace}
use Rattle.base_refusals.specs.declared.Refusal.{Refusal}

-- "says yes or no, or 1, 2, 9": yes and no are 1 and 0
abbrev pub ends_paper : Result Bool Refusal → Paper
ends_paper (Ok true) = passed_paper (1 ∷ [])
ends_paper (Ok false) = passed_paper (0 ∷ [])
ends_paper (Err r) = refused_paper r

-- with the lookahead, and what the join buffer holds at the end
pub record Ended : Type 0 where
  pub answer : Result Bool Refusal
  pub lookahead : ℕ
  pub join : List ℕ

-- no run is made any more
abbrev pub settled : Result Bool Refusal → List ℕ → Ended
settled a buf = record { answer = a; lookahead = 0; join = buf }

-- ---- which runs are tried (000)

-- no line is blank
abbrev pub unbroken : List (List ℕ) → Bool
unbroken ls = all (λ l. not (is_blank_line l)) ls

-- from each line that opens with a brace to the last, unbroken: from the last line upwards, so the fewest lines first
unfoldable pub openings : List (List ℕ) → List (List (List ℕ))
openings [] = []
openings (l ∷ ls) = openings ls ++ cond (opens l && unbroken (l ∷ ls)) ((l ∷ ls) ∷ []) []

unfoldable pub last_of : List (List ℕ) → List ℕ
last_of [] = []
last_of (l ∷ []) = l
last_of (l ∷ m ∷ ls) = last_of (m ∷ ls)

-- how many: none where the last line has no `}`, and a second one only where it has `%}`
abbrev pub tries : List ℕ → ℕ
tries l = cond (is_in l close_brace) (cond (closes_comment l) 2 1) 0

abbrev pub tries_of : List (List ℕ) → List (List (List ℕ))
tries_of ls = take (tries (last_of ls)) (openings ls)

-- ---- what they say

-- the run has to take all lines, so many; if it doesn't, the next one tells
abbrev pub told_by : Result RunReply Refusal → ℕ → List ℕ → Ended → Ended
told_by (Err r) count buf next = settled (Err r) buf
told_by (Ok (Lines n)) count buf next = cond (eqb n count) (settled (Ok true) buf) next
told_by (Ok (No n)) count buf next = next
told_by (Ok NoEnd) count buf next = next

-- "reports its runs' sum"
abbrev pub ahead : ℕ → Ended → Ended
ahead n e = record { answer = e.answer; lookahead = n + e.lookahead; join = e.join }

-- "a second run in one call writes over the front of what the first left"
abbrev pub try_run : ℕ → List ℕ → RunTold → (List ℕ → Ended) → Ended
try_run count buf r next = ahead r.lookahead (told_by r.answer count (over r.text buf) (next (over r.text buf)))

unfoldable pub tried_in : List ℕ → List (List (List ℕ)) → Ended
tried_in buf [] = settled (Ok false) buf
tried_in buf (ls ∷ more) = try_run (length ls) buf (refused_of (length buf) ls) (λ x. tried_in x more)

unfoldable pub ends_of : List ℕ → List (List ℕ) → Ended
ends_of buf ls = tried_in buf (tries_of ls)

-- ---- the entry

abbrev pub ends_by : List ℕ → List ℕ → Result (Unit {0}) Refusal → Ended
ends_by buf t (Err r) = settled (Err r) buf
ends_by buf t (Ok _) = ends_of buf (lines t)

unfoldable pub ends_in : List ℕ → List ℕ → Ended
ends_in buf t = ends_by buf t (check_of t)

abbrev pub ends_shown : Ended → EndsRun
ends_shown e = record { answer = e.answer; lookahead = e.lookahead }

-- ---- the order: "says yes or no, or 1, 2, 9"

-- that of a run, or that of the next ones where it doesn't settle the answer
abbrev pub or_next : Result RunReply Refusal → ℕ → List Ground → List Ground → List Ground
or_next (Err r) count here next = here
or_next (Ok (Lines n)) count here next = cond (eqb n count) [] next
or_next (Ok (No n)) count here next = next
or_next (Ok NoEnd) count here next = next

unfoldable pub tried_order : List ℕ → List (List (List ℕ)) → List Ground
tried_order buf [] = []
tried_order buf (ls ∷ more) =
    or_next (refused_of (length buf) ls).answer (length ls) (lines_order (length buf) ls) (tried_order (over (refused_of (length buf) ls).text buf) more)

abbrev pub ends_order : List ℕ → List ℕ → List Ground
ends_order buf t = text_order t ++ tried_order buf (tries_of (lines t))

-- the reply is Lines, and of all `count` lines: on paper 1 and that count
abbrev pub takes_all : Result RunReply Refusal → ℕ → Bool
takes_all a count = eqb (get_or (reply_paper a).values 0 0) 1 && eqb (get_or (reply_paper a).values 1 0) count

-- no where none of the runs that are tried takes all lines, with a join buffer of `cap` bytes
abbrev pub yes_no : ℕ → List (List (List ℕ)) → List ℕ
yes_no cap rs = cond (all (λ ls. not (takes_all (refused_of cap ls).answer (length ls))) rs) 0 1 ∷ []
