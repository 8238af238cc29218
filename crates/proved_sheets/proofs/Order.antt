-- Each try of a sheet is what `standalone_attrs_block_len` answers for its line, 9 never comes, and the blocks stand in order, none over another.
-- Assumes nothing.
use Rattle.std.specs.Prelude.{Ok, Some}
use mathlib.Core.Path.{◌≡◌, refl}
use mathlib.Core.List.{List, [], ◌∷◌}
use Prim.Native.Nat.{ℕ, zero, suc, ◌+◌, ◌-◌, ◌≤◌}
use native.Mathlib.Nat.{add-zero}
use native.Mathlib.Omega.{arith}
use lib.Dec.{eqb-suc-zero}
use lib.ListN.{length}
use Rattle.text_checks.specs.Check.{check_of}
use Rattle.text_lines.specs.Lines.{ranges, pick, line_of}
use Rattle.text_lines.specs.declared.Range.{Range}
use Rattle.run_lines.specs.Runs.{past_lines}
use Rattle.read_blocks.proofs.Places.{past_in}
use Rattle.read_blocks.specs.Blocks.{lines_of}
use Rattle.text_line_start.specs.Starts.{start_at}
use Rattle.read_lengths.specs.Lengths.{flush_left, standalone_found}
use Rattle.sheet_blocks.specs.Sheets.{Try, tries_from, tries_at, only_blocks}
use Rattle.sheet_blocks.proofs.Goes.{block_bytes, First, Leads, leads}
use Rattle.sheet_blocks.proofs.Tries.{some_lines, tries_end, try}
use Rattle.base_refusals.specs.Numbers.{max_text}
use Rattle.proved_sheets.specs.Order.{Each, ByEntry, TriedByEntry, NineNever, Stands, InOrder, BlocksInOrder, SheetInOrder}
use Rattle.proved_reading.proofs.LengthsFair.{fair_standalone}
use Rattle.proved_sheets.proofs.Rooms.{blocks_are}

-- ---- "it tries `standalone_attrs_block_len` at each line"

later : (t : List ℕ) (n : ℕ) (r : Range) (rs : List Range) → ((j : ℕ) → pick (n + j) (ranges t) ≡ pick (suc j) (r ∷ rs)) → (j : ℕ) → pick (suc n + j) (ranges t) ≡ pick (suc j) rs
unfolding pick
later t n r rs h j = let z : n + suc j ≡ suc n + j = omega arith in rw (z, eqb-suc-zero j) at (h (suc j))

by_entry : (t : List ℕ) (cap n k : ℕ) (rs : List Range) → check_of t ≡ Ok tt → ((j : ℕ) → pick (n + j) (ranges t) ≡ pick (suc j) rs) → Each (ByEntry t cap) (tries_from t cap n k rs)
unfolding tries_from Each pick start_at standalone_found line_of
by_entry t cap n k [] p h = refl
by_entry t cap n (suc k) (r ∷ rs) p h = by_entry t cap (suc n) k rs p (later t n r rs h)
by_entry t cap n zero (r ∷ rs) p h =
    let z : pick n (ranges t) ≡ Some r = rw (add-zero n) at (h 0) in
    (rw (p, z) (refl, refl), by_entry t cap (suc n) (lines_of (flush_left t cap r.from) - 1) rs p (later t n r rs h))

pub tries_by_entry : TriedByEntry
tries_by_entry t cap p = by_entry t cap 1 0 (ranges t) p (λ j. let z : 1 + j ≡ suc j = omega arith in rw z)

-- ---- "so 9 can't arise"

each : {P Q : Try → Type 0} → ((x : Try) → P x → Q x) → (xs : List Try) → Each P xs → Each Q xs
unfolding Each
each f [] h = refl
each f (x ∷ xs) (p, h) = (f x p, each f xs h)

pub nine_never : NineNever
nine_never t cap p h = each (λ x e. rw e.1 ((fair_standalone t cap x.line).room h)) (tries_from t cap 1 0 (ranges t)) (tries_by_entry t cap p)

-- ---- the blocks in order

module _ (t : List ℕ) (cap : ℕ) where
  stands : (n : ℕ) {at s from : ℕ} → First t cap at s from → Stands t cap n at (try t cap (n + s) from)
  stands n {at} {s} {from} w =
      let z : n + s - n ≡ s = omega arith in
      record {
        number = omega arith;
        place = rw z w.place;
        order = rw z w.order;
        found = refl;
        is = w.is;
        some = some_lines t from cap w.is;
        bytes = block_bytes t cap from w.within;
        inside = past_in (lines_of (flush_left t cap from)) t from (omega (arith, w.within));
      }

  ordered : (fuel n at : ℕ) → length t ≤ at + fuel → InOrder t cap n at (only_blocks (tries_at t cap n at))
  unfolding InOrder only_blocks
  ordered zero n at h = rw (tries_end t cap n at (omega arith))
  ordered (suc fuel) n at h = go (leads t cap (length t) at (omega arith)) (ordered fuel)
    where
      go : Leads t cap at → ((m k : ℕ) → length t ≤ k + fuel → InOrder t cap m k (only_blocks (tries_at t cap m k))) → InOrder t cap n at (only_blocks (tries_at t cap n at))
      go (Leads.ends w) ih = rw (w.blocks n)
      go (Leads.first s from w) ih =
          let z = stands n w in
          rw (w.blocks n) (z, ih (n + s + lines_of (flush_left t cap from)) (past_lines (lines_of (flush_left t cap from)) t from) (omega (arith, h, z.bytes, z.some, w.order)))

pub in_order : BlocksInOrder
in_order t cap n at = ordered t cap (length t) n at (omega arith)

pub sheet_in_order : SheetInOrder
sheet_in_order t h = rw (blocks_are t max_text h h) (in_order t max_text 1 0)
