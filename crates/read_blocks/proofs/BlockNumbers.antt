-- The numbers of a block at a place: "9 or 5 as the run meets them, 6, 7".
-- Assumes nothing.
use Rattle.std.specs.Prelude.{Err, Ok, Result}
use mathlib.Core.Path.{◌≡◌, refl, ◌∙◌, ap}
use mathlib.Core.Bool.{Bool, true, false, cond}
use mathlib.Core.List.{List, [], ◌∷◌, ◌++◌}
use Prim.Native.Nat.{ℕ, ◌≤◌}
use native.Mathlib.Omega.{arith}
use borrow.Author.Tests.{le-ltb}
use lib.ListN.{length}
use Rattle.base_bytes.specs.declared.Mode.TheVariants.{Loose}
use Rattle.base_refusals.specs.Numbers.{max_text, too_long, number_of, outcome_no}
use Rattle.base_refusals.specs.Orders.{Ground, in_order, order_no, met}
use Rattle.base_refusals.specs.declared.Refusal.{Refusal}
use Rattle.base_refusals.specs.declared.Refusal.TheVariants.{TextTooLong, NothingThere, NoReading}
use Rattle.base_refusals.proofs.Orders.{order_where, order_short}
use Rattle.block_chain.specs.Chain.{good_line}
use Rattle.set_fill.specs.Fill.{chain_at}
use Rattle.set_fill.proofs.Numbers.{chain_no}
use Rattle.run_lines.specs.Runs as runs
use Rattle.run_lines.proofs.Bounds.{text_short}
use Rattle.block_trimmed_line.specs.Fronts.{front_of, opens_at}
use Rattle.read_blocks.specs.declared.Block.{Block}
use Rattle.read_blocks.specs.Blocks.{Found, nothing, closed_run, ended_run, run_found, found, wrapped, block_of, sized, sized_order, ran_order, wrapped_order, found_order, read_order}

-- what holds of a good line and of each way that a run can end holds of the block at a place
module _ (g : List ℕ → ℕ → ℕ → List Ground) (t : List ℕ) (at base cap : ℕ) (n : Found → ℕ)
    (none : (q : Refusal) (x : List ℕ) (k : ℕ) → n (Found.none q x k) ≡ number_of q)
    (run : (r : runs.Run) → length r.text ≤ length t → n (Found.run r) ≡ order_no (g r.text 0 (length r.text))) where
  by_run : n (run_found t at base cap) ≡ order_no (ran_order g (runs.run_at cap base t at))
  unfolding run_found order_no
  by_run = go (runs.run_at cap base t at) (runs.run_at cap base t at).stop (omega (arith, text_short cap base t at))
    where
      behind : runs.Run → List Ground
      behind r = Ground.lacking NoReading (good_line r.text 0 (length r.text)) ∷ g r.text 0 (length r.text)

      closed : (r : runs.Run) (b : Bool) → length r.text ≤ length t → n (closed_run r b) ≡ order_no (Ground.lacking NoReading b ∷ g r.text 0 (length r.text))
      closed r true h = run r h
      closed r false h = none NoReading r.text r.lookahead

      go : (r : runs.Run) (x : Result (Unit {0}) Refusal) → length r.text ≤ length t → n (ended_run r x) ≡ order_no (met x ++ behind r)
      go r (Ok _) h = closed r (good_line r.text 0 (length r.text)) h
      go r (Err q) h = none q r.text r.lookahead

  pub by_wrapped : n (wrapped t at base cap) ≡ order_no (wrapped_order g t at base cap)
  unfolding wrapped order_no
  by_wrapped = go (opens_at t at)
    where
      go : (o : Bool) → n (cond o (run_found t at base cap) (nothing NothingThere)) ≡ order_no (Ground.lacking NothingThere o ∷ ran_order g (runs.run_at cap base t at))
      go true = by_run
      go false = none NothingThere _ _

  pub by_found : n Found.line ≡ order_no (g t (front_of t at).from (front_of t at).to) → n (found t at base cap) ≡ order_no (found_order g t at base cap)
  unfolding found order_no
  by_found line = go (opens_at t at) (good_line t (front_of t at).from (front_of t at).to) (front_of t at).closes
    where
      go : (o b c : Bool)
          → n (cond o (cond b Found.line (cond c (nothing NoReading) (run_found t at base cap))) (nothing NothingThere))
          ≡ order_no (Ground.lacking NothingThere o ∷ cond b (g t (front_of t at).from (front_of t at).to) (Ground.given NoReading c ∷ ran_order g (runs.run_at cap base t at)))
      go true true c = line
      go true false true = none NoReading _ _
      go true false false = by_run
      go false b c = none NothingThere _ _

-- blocks, where the text has the size
pub part_no : (s : List ℕ) (from to : ℕ) → length s ≤ max_text → outcome_no (chain_at Loose s from to).outcome ≡ order_no (read_order s from to)
unfolding order_no
part_no s from to h = chain_no Loose s from to ∙ (rw (le-ltb max_text (length s) h))

module _ (t : List ℕ) (at base cap : ℕ) where
  module _ (k : length t ≤ max_text) where
    pub read_no : outcome_no (block_of t at (found t at base cap)).outcome ≡ order_no (found_order read_order t at base cap)
    unfolding block_of
    read_no =
        by_found read_order t at base cap (λ f. outcome_no (block_of t at f).outcome) (λ q x n. refl) (λ r h. part_no r.text 0 (length r.text) (omega (arith, h, k)))
        (part_no t (front_of t at).from (front_of t at).to k)

    pub wrapped_read_no : outcome_no (block_of t at (wrapped t at base cap)).outcome ≡ order_no (wrapped_order read_order t at base cap)
    unfolding block_of
    wrapped_read_no =
        by_wrapped read_order t at base cap (λ f. outcome_no (block_of t at f).outcome) (λ q x n. refl) (λ r h. part_no r.text 0 (length r.text) (omega (arith, h, k)))

  -- `read_at` and `wrapped_at`
  by_size : (f : Found) (hs : List Ground) → (length t ≤ max_text → outcome_no (block_of t at f).outcome ≡ order_no hs)
      → outcome_no (block_of t at (sized t f)).outcome ≡ order_no (sized_order t hs)
  unfolding sized block_of in_order
  by_size f hs h =
      order_where (λ x. outcome_no (block_of t at x).outcome) nothing (λ r. refl) (Ground.given TextTooLong (too_long t) ∷ []) hs (λ e. h (order_short t [] e))

  pub sized_no : outcome_no (block_of t at (sized t (found t at base cap))).outcome ≡ order_no (sized_order t (found_order read_order t at base cap))
  sized_no = by_size (found t at base cap) (found_order read_order t at base cap) read_no

  pub sized-wrapped_no : outcome_no (block_of t at (sized t (wrapped t at base cap))).outcome ≡ order_no (sized_order t (wrapped_order read_order t at base cap))
  sized-wrapped_no = by_size (wrapped t at base cap) (wrapped_order read_order t at base cap) wrapped_read_no

-- what is answered, beside what the join buffer then holds, has the number of what it is equal to
pub said : {x y : Block} {b d : List ℕ} {n : ℕ} → outcome_no y.outcome ≡ n → (x ≡ y) × (b ≡ d) → record { value : x ≡ y; join_after : b ≡ d; outcome_value : outcome_no x.outcome ≡ n }
said k e = record { value = e.0; join_after = e.1; outcome_value = ap (λ z. outcome_no z.outcome) e.0 ∙ k }
