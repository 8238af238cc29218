-- What a run joins, and the lookahead that is reported with it.
use Rattle.std.specs.Prelude.{ℕ, ◌+◌, ◌-◌, ◌≤◌, ◌≡◌, Bool, true, false, cond, List, [], ◌∷◌, ◌++◌, eqb, length, take, drop, Err, Ok, Result}
use Rattle.base_lists.specs.Lists.{over}
use Rattle.base_bytes.specs.Bytes.{space}
use Rattle.text_checks.specs.Check.{is_text}
use Rattle.text_lines.specs.Trim.{trim}
use Rattle.text_lines.specs.Lines.{lines}
use Rattle.run_lines.specs.Runs.{run_at}
use Rattle.run_refused.specs.declared.RunReply.{RunReply}
use Rattle.run_refused.specs.declared.RunReply.TheVariants.{No, Lines, NoEnd}
use Rattle.run_refused.specs.Refused.{RunTold, refused_of, refused_run}
use Rattle.run_endings.specs.Endings.{openings, last_of, tries, ends_in}
use Rattle.base_refusals.specs.declared.Refusal.{Refusal}

-- ---- "trimmed lines joined by one space"

-- each line behind a space
unfoldable pub each_spaced : List (List ℕ) → List ℕ
each_spaced [] = []
each_spaced (l ∷ ls) = space ∷ (trim l ++ each_spaced ls)

unfoldable pub one_spaced : List (List ℕ) → List ℕ
one_spaced [] = []
one_spaced (l ∷ ls) = trim l ++ each_spaced ls

-- ---- "The lookahead is the sum of the untrimmed lengths of the lines joined, reported with each run, refused or not"

unfoldable pub untrimmed : List (List ℕ) → ℕ
untrimmed [] = 0
untrimmed (l ∷ ls) = length l + untrimmed ls

-- the first n of the lines are joined, to this text and with this lookahead
pub record JoinedFirst (ls : List (List ℕ)) (text : List ℕ) (lookahead : ℕ) (n : ℕ) : Type 0 where
  pub within : n ≤ length ls
  pub spaced : text ≡ one_spaced (take n ls)
  pub sum : lookahead ≡ untrimmed (take n ls)

-- a run joins as many lines as it counts
abbrev pub RunJoins : Type 0
RunJoins = (cap base : ℕ) (t : List ℕ) (at : ℕ)
    → JoinedFirst (lines (drop at t)) (run_at cap base t at).text (run_at cap base t at).lookahead (run_at cap base t at).lines

-- and so does the run of `refused_brace_run`, over padded copies, from the first of some lines on, or from the line of a number on
abbrev pub RefusedJoins : Type 0
RefusedJoins = (cap : ℕ) (ls : List (List ℕ)) → (n : ℕ) × JoinedFirst ls (refused_of cap ls).text (refused_of cap ls).lookahead n

abbrev pub RefusedRunJoins : Type 0
RefusedRunJoins = (cap : ℕ) (t : List ℕ) (n : ℕ) → (k : ℕ) × JoinedFirst (drop (n - 1) (lines t)) (refused_run cap t n).text (refused_run cap t n).lookahead k

-- ---- "at most the text's length"

-- no more than what stands from the run's first line on
abbrev pub RunLookahead : Type 0
RunLookahead = (cap base : ℕ) (t : List ℕ) (at : ℕ) → ((run_at cap base t at).lookahead ≤ length t - at) × ((run_at cap base t at).lookahead ≤ length t)

abbrev pub RefusedLookahead : Type 0
RefusedLookahead = (cap : ℕ) (t : List ℕ) (n : ℕ) → (refused_run cap t n).lookahead ≤ length t

-- ---- "`ends_in_refused_brace_run` reports its runs' sum"

-- a run that is refused, or takes all lines, so many, is the last one
abbrev pub is_last_run : Result RunReply Refusal → ℕ → Bool
is_last_run (Err r) count = true
is_last_run (Ok (Lines n)) count = eqb n count
is_last_run (Ok (No n)) count = false
is_last_run (Ok NoEnd) count = false

-- the runs that are made over the lines of each try, with the join buffer that the first one finds
unfoldable pub runs_made : List ℕ → List (List (List ℕ)) → List RunTold
runs_made buf [] = []
runs_made buf (ls ∷ more) =
    refused_of (length buf) ls ∷ cond (is_last_run (refused_of (length buf) ls).answer (length ls)) [] (runs_made (over (refused_of (length buf) ls).text buf) more)

unfoldable pub lookaheads : List RunTold → ℕ
lookaheads [] = 0
lookaheads (r ∷ rs) = r.lookahead + lookaheads rs

abbrev pub RunsSum : Type 0
RunsSum = (buf t : List ℕ) → is_text t ≡ true → (ends_in buf t).lookahead ≡ lookaheads (runs_made buf (take (tries (last_of (lines t))) (openings (lines t))))

-- ".. which keeps that bound"
abbrev pub SumBound : Type 0
SumBound = (buf t : List ℕ) → (ends_in buf t).lookahead ≤ length t
