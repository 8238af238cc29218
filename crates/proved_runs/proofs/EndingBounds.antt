-- `ends_in_refused_brace_run` reports the sum of its runs' lookaheads, which is at most the text's length.
-- Assumes nothing.
use Rattle.std.specs.Prelude.{Err, Ok, Result}
use mathlib.Core.Path.{◌≡◌, refl, ap, ◌∙◌}
use mathlib.Core.Bool.{Bool, true, false, cond}
use mathlib.Core.List.{List, [], ◌∷◌, map}
use Prim.Native.Nat.{ℕ, ◌+◌, ◌≤◌, zero-le}
use native.Mathlib.Omega.{arith}
use lib.Dec.{eqb}
use lib.ListN.{length, take}
use Rattle.base_lists.specs.Lists.{is_in, over}
use Rattle.text_checks.specs.Check.{check_of}
use Rattle.text_checks.proofs.Texts.{text-passes}
use Rattle.text_lines.specs.Lines.{lines}
use Rattle.run_lines.specs.Runs.{as_is, sizes}
use Rattle.run_lines.proofs.Bounds.{sizes-lines}
use Rattle.run_spots.specs.Spots.{closes_comment}
use Rattle.run_refused.specs.declared.RunReply.{RunReply}
use Rattle.run_refused.specs.declared.RunReply.TheVariants.{No, Lines, NoEnd}
use Rattle.run_refused.specs.Refused.{RunTold, refused_of}
use Rattle.run_endings.specs.Endings.{Ended, settled, openings, last_of, tries, told_by, tried_in, ends_of, ends_by, ends_in}
use Rattle.run_endings.specs.Inner.{Back, back_from, ended_by}
use Rattle.run_endings.proofs.Openings.{ended_same}
use Rattle.run_endings.proofs.Bounds.{Fair, fair, spent_le}
use Rattle.proved_runs.specs.Lookaheads.{is_last_run, runs_made, lookaheads, RunsSum, SumBound}
use Rattle.base_refusals.specs.declared.Refusal.{Refusal}

-- ---- the sum

-- what comes behind a run counts only where that run isn't the last one
behind-ahead : (a : Result RunReply Refusal) (count : ℕ) (buf : List ℕ) (next : Ended) → (told_by a count buf next).lookahead ≡ cond (is_last_run a count) 0 next.lookahead
behind-ahead (Err r) count buf next = refl
behind-ahead (Ok (No n)) count buf next = refl
behind-ahead (Ok NoEnd) count buf next = refl
behind-ahead (Ok (Lines n)) count buf next = go (eqb n count)
  where
    go : (b : Bool) → (cond b (settled (Ok true) buf) next).lookahead ≡ cond b 0 next.lookahead
    go true = refl
    go false = refl

made_sum : (buf : List ℕ) (rs : List (List (List ℕ))) → (tried_in buf rs).lookahead ≡ lookaheads (runs_made buf rs)
unfolding tried_in runs_made lookaheads
made_sum buf [] = refl
made_sum buf (ls ∷ more) =
    ap (λ n. r.lookahead + n) (behind-ahead r.answer (length ls) after (tried_in after more) ∙ go (is_last_run r.answer (length ls)) (made_sum after more))
  where
    r : RunTold
    r = refused_of (length buf) ls

    after : List ℕ
    after = over r.text buf

    go : (b : Bool) → (tried_in after more).lookahead ≡ lookaheads (runs_made after more) → cond b 0 (tried_in after more).lookahead ≡ lookaheads (cond b [] (runs_made after more))
    go true h = refl
    go false h = h

pub runs_sum : RunsSum
unfolding ends_in ends_of
runs_sum buf t h = rw (text-passes t h) (made_sum buf (take (tries (last_of (lines t))) (openings (lines t))))

ended_le : (ls : List (List ℕ)) (b : Back) → Fair ls b → (ended_by b).lookahead ≤ sizes (map as_is ls)
ended_le ls (Back.looking tried look x) h = spent_le ls tried look h
ended_le ls (Back.told a look x) h = h

-- ---- and keeps the bound

pub sum_of_runs : SumBound
unfolding ends_in ends_of tried_in
sum_of_runs buf t = go (check_of t)
  where
    c : Bool
    c = closes_comment (last_of (lines t))

    searched : (x : Bool) → (tried_in buf (take (cond x (cond c 2 1) 0) (openings (lines t)))).lookahead ≤ length t
    searched true = rw (← ended_same c buf (lines t)) (omega (arith, ended_le (lines t) (back_from c buf (lines t)) (fair c buf (lines t)), sizes-lines t))
    searched false = zero-le

    go : (x : Result (Unit {0}) Refusal) → (ends_by buf t x).lookahead ≤ length t
    go (Err r) = zero-le
    go (Ok _) = searched (is_in (last_of (lines t)) 125)
