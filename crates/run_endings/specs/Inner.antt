-- What private functions promise on the way upwards: nothing that a reader of the public promise has to believe.
use Rattle.std.specs.Prelude.{ℕ, suc, ◌+◌, ◌-◌, ◌<◌, ◌≡◌, Bool, true, false, cond, ◌&&◌, not, ◌⊎◌, List, [], ◌∷◌, eqb, length, get_or, Err, Ok, Result}
use Rattle.block_payloads.specs.Payloads.{opens}
use Rattle.base_lists.specs.Lists.{over}
use Rattle.text_lines.specs.Trim.{is_blank_line}
use Rattle.text_lines.specs.Lines.{line_from}
use Rattle.run_refused.specs.Refused.{RunTold, refused_of}
use Rattle.run_refused.specs.declared.RunReply.{RunReply}
use Rattle.run_refused.specs.declared.RunReply.TheVariants.{No, Lines, NoEnd}
use Rattle.run_endings.specs.declared.Verdict as verdicts
use Rattle.run_endings.specs.declared.Verdict.TheVariants as verdict
use Rattle.run_endings.specs.Endings.{Ended}
use Rattle.base_bytes.specs.Bytes.{lf}
use Rattle.base_refusals.specs.declared.Refusal.{Refusal}

-- a line begins at the place, or the text ends there
abbrev pub Edge : List ℕ → ℕ → Type 0
Edge t at = (at ≡ 0) ⊎ ((at ≡ length t) ⊎ (get_or t (at - 1) 0 ≡ lf))

-- the line before `at` begins at `from`
pub record Before (t : List ℕ) (at from : ℕ) : Type 0 where
  pub below : from < at
  pub edge : Edge t from
  pub next : (line_from t from).next ≡ at

-- ---- the search, line by line

-- still looking, with one line tried already or none, or told; the lookahead of the runs made, and what the join buffer holds
pub data Back : Type 0 where
  looking : Bool → ℕ → List ℕ → Back
  told : Result Bool Refusal → ℕ → List ℕ → Back

abbrev pub next_or : Bool → Bool → verdicts.Verdict
next_or again tried = cond (again && not tried) verdict.Next (verdict.Told (Ok false))

abbrev pub verdict_of : Result RunReply Refusal → ℕ → Bool → Bool → verdicts.Verdict
verdict_of (Err r) count again tried = verdict.Told (Err r)
verdict_of (Ok (Lines n)) count again tried = cond (eqb n count) (verdict.Told (Ok true)) (next_or again tried)
verdict_of (Ok (No n)) count again tried = next_or again tried
verdict_of (Ok NoEnd) count again tried = next_or again tried

abbrev pub tried_by : verdicts.Verdict → ℕ → List ℕ → Back
tried_by (verdict.Told a) look buf = Back.told a look buf
tried_by verdict.Next look buf = Back.looking true look buf

abbrev pub tried_line : Bool → Bool → ℕ → ℕ → List ℕ → RunTold → Back
tried_line again tried count look buf r = tried_by (verdict_of r.answer count again tried) (look + r.lookahead) (over r.text buf)

-- the line l, with the lines ls behind it
abbrev pub back_over : Bool → List ℕ → List (List ℕ) → Back → Back
back_over again l ls (Back.told a look buf) = Back.told a look buf
back_over again l ls (Back.looking tried look buf) =
    cond (is_blank_line l) (Back.told (Ok false) look buf)
    (cond (opens l) (tried_line again tried (suc (length ls)) look buf (refused_of (length buf) (l ∷ ls)))
    (Back.looking tried look buf))

unfoldable pub back_from : Bool → List ℕ → List (List ℕ) → Back
back_from again buf [] = Back.looking false 0 buf
back_from again buf (l ∷ ls) = back_over again l ls (back_from again buf ls)

abbrev pub ended_by : Back → Ended
ended_by (Back.looking tried look buf) = record { answer = Ok false; lookahead = look; join = buf }
ended_by (Back.told a look buf) = record { answer = a; lookahead = look; join = buf }
