-- The numbers of the entries that read by line: "elsewhere 1, 2, 3, 9 or 5 as the run meets them, 6, 7".
-- Assumes nothing.
use mathlib.Core.Path.{◌≡◌, refl}
use mathlib.Core.List.{List, [], ◌∷◌}
use Prim.Native.Nat.{ℕ, ◌≤◌}
use lib.ListN.{length}
use Rattle.base_bytes.specs.declared.Mode.TheVariants.{Loose}
use Rattle.base_refusals.specs.Numbers.{max_text, outcome_no}
use Rattle.base_refusals.specs.Orders.{Ground, in_order, order_no}
use Rattle.base_refusals.specs.declared.Refusal.TheVariants.{NothingThere}
use Rattle.set_table.specs.Filled.{refusing}
use Rattle.set_table.proofs.Numbers.{behind_no}
use Rattle.set_fill.specs.Fill.{chain_at}
use Rattle.block_trimmed_line.specs.Fronts.{front_of, opens_at}
use Rattle.text_line_start.specs.Starts.{on_start, place_of}
use Rattle.text_line_start.proofs.StartNumbers.{by_start}
use Rattle.read_blocks.specs.Blocks.{nothing, found, wrapped, block_of, found_order, wrapped_order, read_order}
use Rattle.read_blocks.specs.ByLine.{block_found, wrapped_found, block_order, wrap_order}
use Rattle.read_blocks.proofs.BlockNumbers.{read_no, wrapped_read_no, part_no}
use Rattle.read_by_line.specs.Entries.{line_read, parse_standalone, standalone_order}

-- the line at a place
line_read_no : (t : List ℕ) (at : ℕ) → length t ≤ max_text
    → outcome_no (line_read t at).outcome ≡ order_no (Ground.lacking NothingThere (opens_at t at) ∷ read_order t (front_of t at).from (front_of t at).to)
unfolding line_read in_order
line_read_no t at k =
    behind_no (Ground.lacking NothingThere (opens_at t at) ∷ []) (read_order t (front_of t at).from (front_of t at).to)
    (chain_at Loose t (front_of t at).from (front_of t at).to) (part_no t (front_of t at).from (front_of t at).to k)

module _ (t : List ℕ) (n : ℕ) where
  -- `parse_standalone_attrs`
  pub line_no : outcome_no (parse_standalone t n).outcome ≡ order_no (standalone_order t n)
  unfolding parse_standalone
  line_no =
      by_start t n (λ s. outcome_no (on_start refusing (line_read t) s).outcome)
      (λ at. Ground.lacking NothingThere (opens_at t at) ∷ read_order t (front_of t at).from (front_of t at).to) (λ r. refl) (λ k at. line_read_no t at k)

  -- `parse_standalone_attrs_block`
  pub block_no : (cap : ℕ) → outcome_no (block_of t (place_of t n) (block_found t n 0 cap)).outcome ≡ order_no (block_order t n cap)
  unfolding block_found block_of
  block_no cap =
      by_start t n (λ s. outcome_no (block_of t (on_start (λ r. 0) (λ at. at) s) (on_start nothing (λ at. found t at 0 cap) s)).outcome)
      (λ at. found_order read_order t at 0 cap) (λ r. refl) (λ k at. read_no t at 0 cap k)

  -- `wrapped_attrs_run_at`
  pub wrapped_no : (base cap : ℕ) → outcome_no (block_of t (place_of t n) (wrapped_found t n base cap)).outcome ≡ order_no (wrap_order t n base cap)
  unfolding wrapped_found block_of
  wrapped_no base cap =
      by_start t n (λ s. outcome_no (block_of t (on_start (λ r. 0) (λ at. at) s) (on_start nothing (λ at. wrapped t at base cap) s)).outcome)
      (λ at. wrapped_order read_order t at base cap) (λ r. refl) (λ k at. wrapped_read_no t at base cap k)
