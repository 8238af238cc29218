-- The test of a place, and what the code that puts a setting asks.
-- Assumes nothing.
use Rattle.std.specs.Prelude.{Some}
use mathlib.Core.Path.{◌≡◌, refl}
use mathlib.Core.Bool.{Bool, true, false, cond, ◌&&◌}
use Prim.Native.Nat.{ℕ}
use borrow.Author.Tests.{le-leb, lt-ltb, leb-true, ltb-true}
use lib.Dec.{leb, ltb}
use lib.ListN.{set}
use Rattle.base_lists.proofs.Scan.{both}
use Rattle.sheet_valves.specs.Tables.{variant_count, wheels, IsPlace, is_place, cell_place, with_setting}
use Rattle.sheet_valves.specs.declared.Table.{Table}
use Rattle.sheet_valves.specs.declared.Setting.{Setting}

pub place_yes : {v w : ℕ} → IsPlace v w → is_place v w ≡ true
place_yes {v} {w} p = rw (le-leb 1 v p.first, le-leb v variant_count p.last, lt-ltb w wheels p.wheel)

pub yes_place : (v w : ℕ) → is_place v w ≡ true → IsPlace v w
yes_place v w e =
    let y = both (leb 1 v) (leb v variant_count && ltb w wheels) e in
    let z = both (leb v variant_count) (ltb w wheels) y.1 in
    record { first = leb-true 1 v y.0; last = leb-true v variant_count z.0; wheel = ltb-true w wheels z.1 }

-- what the code asks: a setting put, and one for no cell
pub put_there : (t : Table) (s : Setting) → IsPlace s.variant s.wheel
    → record { cells = set t.cells (cell_place s.variant s.wheel) (record { valve = Some s.valve }) } ≡ with_setting t s
unfolding with_setting
put_there t s p = rw (place_yes p)

pub put-nowhere : (t : Table) (s : Setting) → (IsPlace s.variant s.wheel → ⊥) → t ≡ with_setting t s
unfolding with_setting
put-nowhere t s n = go (is_place s.variant s.wheel) refl
  where
    go : (b : Bool) → is_place s.variant s.wheel ≡ b
        → t ≡ cond b (record { cells = set t.cells (cell_place s.variant s.wheel) (record { valve = Some s.valve }) }) t
    go true e = absurd (n (yes_place s.variant s.wheel e))
    go false e = refl
