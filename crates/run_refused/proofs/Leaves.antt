-- Before a line, and the walk over a byte.
-- Assumes nothing.
use mathlib.Core.Path.{◌≡◌, ap}
use mathlib.Core.Bool.{Bool, true, false}
use mathlib.Core.List.{List}
use Prim.Native.Nat.{ℕ, suc, ◌+◌, ◌-◌, ◌*◌, ◌<◌, ◌≤◌}
use native.Mathlib.Numerals.{add-one}
use native.Mathlib.Omega.{arith}
use borrow.Author.Tests.{ne_eqb, lt-ltb, le-ltb}
use lib.Dec.{eqb}
use lib.ListN.{length, get_or, drop, drop_of_length-le}
use lib.Seq.{drop-cons}
use Rattle.block_payloads.specs.Payloads.{opens}
use Rattle.text_lines.specs.Trim.{is_blank_line}
use Rattle.text_tabs.proofs.Laws.{after_le}
use Rattle.run_scanners.specs.Scanners.{column_behind}
use Rattle.run_spots.specs.declared.Spot.{Spot}
use Rattle.run_spots.specs.Spots.{spot_after}
use Rattle.run_refused.specs.Refused.{halts}
use Rattle.run_refused.specs.Inner.{spots_from, far_column}

-- ---- before a line

module _ (n brace opener : ℕ) (l : List ℕ) where
  pub halts_blank : true ≡ is_blank_line l → true ≡ halts (eqb n 0) brace opener l
  halts_blank e = rw (← e)

  module _ (e : false ≡ is_blank_line l) where
    pub halts_first : n ≡ 0 → false ≡ halts (eqb n 0) brace opener l
    halts_first z = rw (← e, z)

    module _ (z : n ≡ 0 → ⊥) where
      pub halts_below : brace + 1 < opener → true ≡ halts (eqb n 0) brace opener l
      halts_below b = rw (← e, ne_eqb n 0 z, lt-ltb (suc brace) opener (omega arith))

      pub halts-opens : {r : Bool} → opener ≤ brace + 1 → r ≡ opens l → r ≡ halts (eqb n 0) brace opener l
      halts-opens b q = rw (← e, ne_eqb n 0 z, le-ltb (suc brace) opener (omega arith)) q

-- ---- a byte of the walk

pub behind_le : (x : Bool) (c b : ℕ) → column_behind x c b ≤ c + 4
behind_le x c b = after_le c _

pub spot_column : (p : Spot) (b : ℕ) → (spot_after p b).column ≤ p.column + 4
unfolding spot_after
spot_column p b = behind_le p.scan.escaped p.column b

-- the loop of `pass_over`
pub record Passes (s : List ℕ) (r : Spot) (i : ℕ) (p : Spot) : Type 0 where
  pub small : p.column + 4 * (length s - i) < far_column
  pub rest : spots_from p (drop i s) ≡ r

module _ {s : List ℕ} {r : Spot} {i : ℕ} {p : Spot} (inv : Passes s r i p) where
  pub passes_go : {v : Spot} → i < length s → v ≡ spot_after p (get_or s i 0) → Passes s r (i + 1) v
  unfolding spots_from
  passes_go h e = record { small = omega (arith, ap (λ q. q.column) e, spot_column p (get_or s i 0), inv.small); rest = rw (e, add-one) (rw (drop-cons s i 0 h) at inv.rest) }

  pub passes_end : length s ≤ i → p ≡ r
  unfolding spots_from
  passes_end h = rw (drop_of_length-le s h) at inv.rest
