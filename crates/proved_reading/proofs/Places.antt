-- Where no run is made nothing is joined; a block that is measured isn't refused 5; and the place behind the lines of a block.
-- Assumes nothing.
use Rattle.std.specs.Prelude.{Err, Ok, Result}
use Prim.Native.Nat.{ℕ, ◌<◌, ◌≤◌}
use mathlib.Core.Path.{◌≡◌, refl, ◌∙◌, ap}
use mathlib.Core.Bool.{Bool, true, false, not, cond, ◌&&◌}
use mathlib.Core.List.{List, []}
use native.Mathlib.Omega.{arith}
use lib.ListN.{length}
use Rattle.base_refusals.specs.Numbers.{max_text}
use Rattle.base_refusals.specs.declared.Refusal.TheVariants.{NothingThere, NoReading}
use Rattle.block_chain.specs.Chain.{good_line}
use Rattle.run_lines.proofs.Bounds.{text_short}
use Rattle.block_trimmed_line.specs.Fronts.{front_of, opens_at}
use Rattle.read_blocks.specs.Blocks.{Found, nothing, closed_run, ended_run, run_found, found, joined_in, lookahead_of, lines_of, block_of}
use Rattle.read_blocks.specs.Inner.{is_unread}
use Rattle.read_blocks.proofs.Finds.{unread_is}
use Rattle.proved_runs.proofs.Joined.{past_lines_lem}
use Rattle.proved_reading.specs.Measuring.{NoRun, MeasuredIsRead, PlaceBehind}
use Rattle.run_lines.specs.Runs as runs
use Rattle.base_refusals.specs.declared.Refusal.{Refusal}

pub no_run : NoRun
unfolding found
no_run t at base cap e = go (opens_at t at) (good_line t (front_of t at).from (front_of t at).to) (front_of t at).closes e
  where
    go : (o g c : Bool) → (o && (not g && not c)) ≡ false
        → (lookahead_of (cond o (cond g Found.line (cond c (nothing NoReading) (run_found t at base cap))) (nothing NothingThere)) ≡ 0)
        × (joined_in (cond o (cond g Found.line (cond c (nothing NoReading) (run_found t at base cap))) (nothing NothingThere)) ≡ [])
    go true true c e = (refl, refl)
    go true false true e = (refl, refl)
    go true false false e = let z : ◌≡◌ {A = ℕ} 0 1 = cc in absurd (omega arith)
    go false g c e = (refl, refl)

module _ (t : List ℕ) (at base cap : ℕ) where
  run_read : length t ≤ max_text → 0 < lines_of (run_found t at base cap) → is_unread (block_of t at (run_found t at base cap)).outcome ≡ false
  unfolding run_found block_of
  run_read k = go r r.stop (omega (arith, k, text_short cap base t at))
    where
      r : runs.Run
      r = runs.run_at cap base t at

      closed : (r : runs.Run) (b : Bool) → good_line r.text 0 (length r.text) ≡ b → length r.text ≤ max_text → 0 < lines_of (closed_run r b)
          → is_unread (block_of t at (closed_run r b)).outcome ≡ false
      closed r true g s h = unread_is r.text 0 (length r.text) s ∙ ap not g
      closed r false g s h = absurd (omega arith)

      go : (r : runs.Run) (x : Result (Unit {0}) Refusal) → length r.text ≤ max_text → 0 < lines_of (ended_run r x) → is_unread (block_of t at (ended_run r x)).outcome ≡ false
      go r (Ok _) s h = closed r (good_line r.text 0 (length r.text)) refl s h
      go r (Err q) s h = absurd (omega arith)

  pub found_read : MeasuredIsRead t at base cap
  unfolding found block_of
  found_read k = go (opens_at t at) (good_line t (front_of t at).from (front_of t at).to) refl (front_of t at).closes
    where
      f : Bool → Bool → Bool → Found
      f o g c = cond o (cond g Found.line (cond c (nothing NoReading) (run_found t at base cap))) (nothing NothingThere)

      go : (o g : Bool) → good_line t (front_of t at).from (front_of t at).to ≡ g → (c : Bool) → 0 < lines_of (f o g c) → is_unread (block_of t at (f o g c)).outcome ≡ false
      go true true e c h = unread_is t (front_of t at).from (front_of t at).to k ∙ ap not e
      go true false e true h = absurd (omega arith)
      go true false e false h = run_read k h
      go false g e c h = absurd (omega arith)

-- ---- the place behind a block

pub behind_block : PlaceBehind
behind_block = past_lines_lem
