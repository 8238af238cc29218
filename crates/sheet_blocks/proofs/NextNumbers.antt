-- The numbers of `next_block`: 1, 9, 3 where there is no block, else 6, 7.
-- Assumes nothing.
use mathlib.Core.Path.{◌≡◌, refl, ◌∙◌, ap}
use mathlib.Core.Bool.{Bool, true, false, cond}
use mathlib.Core.List.{List, [], ◌∷◌}
use Prim.Native.Nat.{ℕ, ◌≤◌}
use native.Mathlib.Omega.{arith}
use lib.Dec.{ltb}
use lib.ListN.{length}
use Rattle.base_lists.proofs.More.{contra}
use Rattle.base_refusals.specs.Numbers.{max_text, too_long, outcome_no}
use Rattle.base_refusals.specs.Orders.{Ground, in_order, order_no}
use Rattle.base_refusals.specs.declared.Refusal.TheVariants.{TextTooLong, NothingThere, JoinFull}
use Rattle.base_refusals.proofs.Orders.{order_where, order_short}
use Rattle.text_lines.specs.Lines.{line_at}
use Rattle.block_trimmed_line.specs.Fronts.{begins_indented}
use Rattle.read_blocks.specs.Blocks.{nothing, found, block_of}
use Rattle.read_blocks.proofs.BlockNumbers.{read_no}
use Rattle.read_lengths.specs.Lengths.{flush_left}
use Rattle.sheet_blocks.specs.declared.Next.{Next}
use Rattle.sheet_blocks.specs.Sheets.{is_block, tries_at, only_blocks, nowhere, first_block, next_of, first_order, next_order}
use Rattle.sheet_blocks.proofs.Goes.{Leads, leads}

-- a block that isn't indented is the block at its place
flush_is : (t : List ℕ) (cap at : ℕ) → is_block (flush_left t cap at) ≡ true → flush_left t cap at ≡ found t at 0 cap
unfolding flush_left
flush_is t cap at = go (begins_indented (line_at t at))
  where
    go : (b : Bool) → is_block (cond b (nothing NothingThere) (found t at 0 cap)) ≡ true → cond b (nothing NothingThere) (found t at 0 cap) ≡ found t at 0 cap
    go true e = contra false e refl
    go false e = refl

module _ (t : List ℕ) (cap at : ℕ) where
  first_no : length t ≤ max_text → outcome_no (first_block t at (only_blocks (tries_at t cap 0 at))).block.outcome ≡ order_no (first_order t cap (only_blocks (tries_at t cap 0 at)))
  unfolding order_no
  first_no k = go (leads t cap (length t) at (omega arith))
    where
      go : Leads t cap at → outcome_no (first_block t at (only_blocks (tries_at t cap 0 at))).block.outcome ≡ order_no (first_order t cap (only_blocks (tries_at t cap 0 at)))
      go (Leads.ends w) = rw (w.blocks 0)
      go (Leads.first s from w) = rw (w.blocks 0, flush_is t cap from w.is) (read_no t from 0 cap k)

  pub next_no : outcome_no (next_of t cap at).block.outcome ≡ order_no (next_order t cap at)
  unfolding next_of in_order
  next_no =
      order_where (λ x. outcome_no x.block.outcome) (λ r. nowhere r at) (λ r. refl) (Ground.given TextTooLong (too_long t) ∷ Ground.given JoinFull (ltb cap max_text) ∷ [])
      (first_order t cap (only_blocks (tries_at t cap 0 at))) (λ e. first_no (order_short t (Ground.given JoinFull (ltb cap max_text) ∷ []) e))

-- what is answered, beside what the join buffer then holds, has the number of what it is equal to
pub said : {x y : Next} {b d : List ℕ} {n : ℕ} → outcome_no y.block.outcome ≡ n → (x ≡ y) × (b ≡ d) → record { value : x ≡ y; join_after : b ≡ d; outcome_value : outcome_no x.block.outcome ≡ n }
said k e = record { value = e.0; join_after = e.1; outcome_value = ap (λ z. outcome_no z.block.outcome) e.0 ∙ k }
