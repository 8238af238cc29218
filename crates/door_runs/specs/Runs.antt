-- What a caller from C or Rust is told of refused runs.
use Rattle.std.specs.Prelude.{ℕ, cond, List, [], ◌∷◌, eqb, length, get_or, Result, Bool}
use Rattle.run_refused.specs.Refused.{reply_paper, RunTold}
use Rattle.run_refused.specs.declared.RunReply.{RunReply}
use Rattle.run_endings.specs.Endings.{ends_paper, Ended}
use Rattle.base_refusals.specs.declared.Refusal.{Refusal}

-- "`refused_brace_run` answers Lines, No with a count, or No to the end": 1 for Lines, else 0
abbrev pub run_kind : Result RunReply Refusal → ℕ
run_kind a = cond (eqb (get_or (reply_paper a).values 0 0) 1) 1 0

-- the count, 0 where the answer is a refusal
abbrev pub run_lines : Result RunReply Refusal → ℕ
run_lines a = get_or (reply_paper a).values 1 0

abbrev pub run_told : RunTold → List ℕ
run_told r = run_kind r.answer ∷ run_lines r.answer ∷ r.lookahead ∷ length r.text ∷ []

-- "`ends_in_refused_brace_run` says yes or no": 1 and 0
abbrev pub ends_kind : Result Bool Refusal → ℕ
ends_kind e = get_or (ends_paper e).values 0 0

abbrev pub ends_told : Ended → List ℕ
ends_told e = ends_kind e.answer ∷ e.lookahead ∷ []
