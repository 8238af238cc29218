-- Which numbers measuring gives, at a place and by line number, and how long what is joined and the lookahead can be.
-- Assumes nothing.
use Rattle.std.specs.Prelude.{Err, None, Ok, Option, Result, Some}
use mathlib.Core.Path.{◌≡◌, refl}
use mathlib.Core.Bool.{Bool, true, false, cond}
use mathlib.Core.List.{List, map}
use Prim.Native.Nat.{ℕ, ◌≤◌, zero-le}
use native.Mathlib.Omega.{arith}
use lib.Dec.{eqb, ltb}
use lib.ListN.{length, drop}
use Rattle.base_lists.specs.Lists.{is_in}
use Rattle.text_utf8.specs.Computed.{is_utf8}
use Rattle.base_refusals.specs.Numbers.{max_text, number_of, outcome_no}
use Rattle.base_refusals.specs.declared.Refusal.{Refusal}
use Rattle.base_refusals.specs.declared.Refusal.TheVariants.{TextTooLong, NotUtf8, NothingThere, NoReading}
use Rattle.text_checks.specs.Check.{check_of}
use Rattle.text_lines.specs.Lines.{lines, line_of, line_at}
use Rattle.block_chain.specs.Chain.{good_line}
use Rattle.run_joins.specs.Joins.{Lined, So}
use Rattle.run_lines.specs.Runs as runs
use Rattle.run_lines.proofs.Bounds.{run_by_lem, text_short, never_full}
use Rattle.block_trimmed_line.specs.Fronts.{front_of, opens_at, begins_indented}
use Rattle.text_line_start.specs.Starts.{begun, start_at, on_start}
use Rattle.read_blocks.specs.Blocks.{Found, nothing, closed_run, ended_run, run_found, found, wrapped, lines_of}
use Rattle.read_blocks.specs.ByLine.{block_found, wrapped_found}
use Rattle.read_lengths.specs.Lengths.{flush_left, standalone_found, indented_found}
use Rattle.proved_runs.proofs.Bounds.{lookahead_le}
use Rattle.proved_reading.specs.Measuring.{measured_numbers, Fair, FairFound, FairBlock, FairWraps, FairStandalone, FairIndented}
use Rattle.text_lines.specs.declared.Range.{Range}

stop_given : (cap : ℕ) (so : So) (ls : List Lined) → is_in measured_numbers (outcome_no (runs.run_from cap so ls).stop) ≡ true
unfolding is_in number_of
stop_given cap = run_by_lem cap (λ so ls R. is_in measured_numbers (outcome_no R.stop) ≡ true) (λ so ls. refl) (λ so l ls h. refl) (λ so ls. refl) (λ so l ls R p h ih. ih)

module _ (t : List ℕ) (cap : ℕ) where
  fair_none : (r : Refusal) → is_in measured_numbers (number_of r) ≡ true → eqb (number_of r) 9 ≡ false → Fair t cap (nothing r)
  fair_none r e n = record { number = e; lookahead = zero-le; joined = zero-le; room = λ h. n }

  fair_run : (at base : ℕ) → Fair t cap (run_found t at base cap)
  unfolding run_found runs.run_at is_in number_of
  fair_run at base =
      go r r.stop (stop_given cap (runs.start base) (map runs.as_is (lines (drop at t)))) (never_full cap base t at) (lookahead_le cap base t at).1
      (omega (arith, text_short cap base t at))
    where
      r : runs.Run
      r = runs.run_at cap base t at

      closed : (r : runs.Run) (b : Bool) → r.lookahead ≤ length t → length r.text ≤ length t → Fair t cap (closed_run r b)
      closed r true a k = record { number = refl; lookahead = a; joined = k; room = λ h. refl }
      closed r false a k = record { number = refl; lookahead = a; joined = k; room = λ h. refl }

      go : (r : runs.Run) (x : Result (Unit {0}) Refusal) → is_in measured_numbers (outcome_no x) ≡ true → (length t ≤ cap → eqb (outcome_no x) 9 ≡ false) → r.lookahead ≤ length t → length r.text ≤ length t
          → Fair t cap (ended_run r x)
      go r (Ok _) i n a k = closed r (good_line r.text 0 (length r.text)) a k
      go r (Err q) i n a k = record { number = i; lookahead = a; joined = k; room = n }

  pub fair_found : FairFound t cap
  unfolding found is_in number_of
  fair_found at base = go (opens_at t at) (good_line t (front_of t at).from (front_of t at).to) (front_of t at).closes
    where
      go : (o g e : Bool) → Fair t cap (cond o (cond g Found.line (cond e (nothing NoReading) (run_found t at base cap))) (nothing NothingThere))
      go true true e = record { number = refl; lookahead = zero-le; joined = zero-le; room = λ h. refl }
      go true false true = fair_none NoReading refl refl
      go true false false = fair_run at base
      go false g e = fair_none NothingThere refl refl

  fair_wrapped : (at base : ℕ) → Fair t cap (wrapped t at base cap)
  unfolding wrapped is_in number_of
  fair_wrapped at base = go (opens_at t at)
    where
      go : (o : Bool) → Fair t cap (cond o (run_found t at base cap) (nothing NothingThere))
      go true = fair_run at base
      go false = fair_none NothingThere refl refl

-- ---- by line number

module _ (t : List ℕ) (cap : ℕ) where
  fair_start : (n : ℕ) (g : ℕ → Found) → ((at : ℕ) → Fair t cap (g at)) → Fair t cap (on_start nothing g (start_at t n))
  unfolding start_at check_of is_in number_of
  fair_start n g h = go (ltb max_text (length t)) (is_utf8 t) (line_of n t)
    where
      go : (x y : Bool) (l : Option Range) → Fair t cap (on_start nothing g (begun (cond x (Err TextTooLong) (cond y (Ok tt) (Err NotUtf8))) l))
      go true y l = fair_none t cap TextTooLong refl refl
      go false false l = fair_none t cap NotUtf8 refl refl
      go false true None = fair_none t cap NothingThere refl refl
      go false true (Some r) = h r.from

  pub fair_block : FairBlock t cap
  unfolding block_found
  fair_block n base = fair_start n (λ at. found t at base cap) (λ at. fair_found t cap at base)

  pub fair_wraps : FairWraps t cap
  unfolding wrapped_found
  fair_wraps n base = fair_start n (λ at. wrapped t at base cap) (λ at. fair_wrapped t cap at base)

  pub fair_standalone : FairStandalone t cap
  unfolding standalone_found flush_left is_in number_of
  fair_standalone n = fair_start n (flush_left t cap) (λ at. go at (begins_indented (line_at t at)))
    where
      go : (at : ℕ) (b : Bool) → Fair t cap (cond b (nothing NothingThere) (found t at 0 cap))
      go at true = fair_none t cap NothingThere refl refl
      go at false = fair_found t cap at 0

  pub fair_indented : FairIndented t cap
  unfolding indented_found is_in number_of
  fair_indented n = go (eqb (lines_of (block_found t n 0 cap)) 1)
    where
      go : (b : Bool) → Fair t cap (cond b (nothing NoReading) (block_found t n 0 cap))
      go true = fair_none t cap NoReading refl refl
      go false = fair_block n 0
