-- The cells laid one after the other, and an answer about the table, made of what the parts promise.
-- Assumes nothing.
use mathlib.Core.Path.{◌≡◌, refl, sym, ◌∙◌}
use mathlib.Core.Bool.{Bool, true, false}
use mathlib.Core.List.{List}
use Prim.Native.Nat.{ℕ, ◌+◌, ◌≤◌, ◌<◌, min}
use native.Mathlib.Omega.{arith}
use borrow.Author.Tests.{ltb-true, ltb-false}
use lib.Dec.{ltb}
use lib.ListN.{length, get_or, set, length-map, get_or-map}
use Rattle.base_refusals.specs.Numbers.{outcome_no}
use Rattle.sheet_valves.specs.Tables.{cell_count, unfilled, cell_no}
use Rattle.sheet_valves.specs.declared.Table.{Table}
use Rattle.sheet_variants.specs.Variants.{cell_nos}
use Rattle.sheet_variants.specs.declared.Variants.{Variants}
use Rattle.door_shared.specs.Tells.{told_in}
use Rattle.door_shared.proofs.Laws.{Laid, laid_start, laid_go, laid_end, laid_full}
use Rattle.door_valves.specs.Valves.{cells_in, variants_told}

-- ---- the loop over the cells of t

pub record CellsLaid (t : Table) (buf cells : List ℕ) (i : ℕ) : Type 0 where
  pub laid : Laid (cell_nos t) buf cells i

pub cells_start : (t : Table) (buf : List ℕ) → CellsLaid t buf buf 0
cells_start t buf = record { laid = laid_start (cell_nos t) buf }

module _ {t : Table} {buf cells : List ℕ} {i : ℕ} (long : length t.cells ≡ cell_count) (inv : CellsLaid t buf cells i) where
  all_long : length (cell_nos t) ≡ cell_count
  all_long = length-map t.cells cell_no ∙ long

  pub cells_go : i < cell_count → CellsLaid t buf (set cells i (cell_no (get_or t.cells i unfilled))) (i + 1)
  cells_go h = record { laid = laid_go inv.laid (cell_no unfilled) (omega (arith, all_long)) (sym (get_or-map cell_no t.cells i unfilled)) }

  -- where the room or the cells end
  pub cells_end : min (length cells) cell_count ≤ i → cells ≡ told_in buf (cell_nos t)
  cells_end h = go (ltb (length cells) cell_count) refl
    where
      go : (b : Bool) → ltb (length cells) cell_count ≡ b → cells ≡ told_in buf (cell_nos t)
      go true e = laid_full inv.laid (omega (arith, h, ltb-true (length cells) cell_count e))
      go false e = laid_end inv.laid (omega (arith, h, all_long, ltb-false (length cells) cell_count e))

-- ---- the answer

pub variants_told_lem : (cells told : List ℕ) (R : Variants) {x : Variants} {r : ℕ} {i j o v : List ℕ} → x ≡ R → i ≡ j → r ≡ outcome_no x.outcome → o ≡ cells_in cells x → v ≡ told_in told (variants_told x)
    → (r ≡ outcome_no R.outcome) × ((i ≡ j) × ((o ≡ cells_in cells R) × (v ≡ told_in told (variants_told R))))
variants_told_lem cells told R e b n o v = rw (← e) (n, (b, (o, v)))
