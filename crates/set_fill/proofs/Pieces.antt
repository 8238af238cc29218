-- The pieces of a class value by places: whitespace is passed, and then the first piece stands there.
-- Assumes nothing.
use mathlib.Core.Path.{◌≡◌, refl, ◌∙◌}
use mathlib.Core.Bool.{Bool, true, false, not, cond}
use mathlib.Core.List.{List, [], ◌∷◌}
use Prim.Native.Nat.{ℕ, suc, ◌+◌, ◌<◌, ◌≤◌}
use native.Mathlib.Nat.{add-zero, add-suc, suc-add}
use native.Mathlib.Omega.{arith}
use lib.ListN.{length, get_or, drop, length-drop, drop_of_length-le}
use lib.Seq.{drop-cons, drop-drop, get_or-drop}
use borrow.Author.Tests.{lt-ltb, le-ltb}
use Rattle.base_lists.specs.Lists.{run}
use Rattle.base_lists.proofs.Scan.{run_le}
use Rattle.base_lists.proofs.More.{run_stops}
use Rattle.base_bytes.specs.Bytes.{is_space}
use Rattle.block_grammar.specs.Meaning.{PieceAt, mark, piece_ranges}

abbrev solid : ℕ → Bool
solid b = not (is_space b)

abbrev range : ℕ → ℕ → PieceAt
range f e = record { from = f; to = e }

-- ---- of a list whose first byte stands at `at`
pub none : (at : ℕ) → piece_ranges at at [] ≡ []
unfolding piece_ranges
none at = rw (le-ltb at at (omega arith))

passed : (at : ℕ) (v : List ℕ) → piece_ranges at at v ≡ piece_ranges (at + run is_space v) (at + run is_space v) (drop (run is_space v) v)
unfolding run piece_ranges
passed at [] = rw add-zero
passed at (b ∷ v) = go (is_space b) refl (passed (suc at) v)
  where
    go : (x : Bool) → is_space b ≡ x → piece_ranges (suc at) (suc at) v ≡ piece_ranges (suc at + run is_space v) (suc at + run is_space v) (drop (run is_space v) v)
        → cond x (mark at at (piece_ranges (suc at) (suc at) v)) (piece_ranges at (suc at) v) ≡ piece_ranges (at + cond x (suc (run is_space v)) 0) (at + cond x (suc (run is_space v)) 0) (drop (cond x (suc (run is_space v)) 0) (b ∷ v))
    go true p ih = rw (le-ltb at at (omega arith), add-suc, ← suc-add) ih
    go false p ih = rw (add-zero, p)

-- a piece was begun at `from`
begun : (from at : ℕ) (v : List ℕ) → from < at → piece_ranges from at v ≡ range from (at + run solid v) ∷ piece_ranges (at + run solid v) (at + run solid v) (drop (run solid v) v)
unfolding run piece_ranges
begun from at [] h = rw (lt-ltb from at h, add-zero, le-ltb at at (omega arith))
begun from at (b ∷ v) h = go (is_space b) refl (begun from (suc at) v (omega arith))
  where
    go : (x : Bool) → is_space b ≡ x → piece_ranges from (suc at) v ≡ range from (suc at + run solid v) ∷ piece_ranges (suc at + run solid v) (suc at + run solid v) (drop (run solid v) v)
        → cond x (mark from at (piece_ranges (suc at) (suc at) v)) (piece_ranges from (suc at) v) ≡ range from (at + cond (not x) (suc (run solid v)) 0) ∷ piece_ranges (at + cond (not x) (suc (run solid v)) 0) (at + cond (not x) (suc (run solid v)) 0) (drop (cond (not x) (suc (run solid v)) 0) (b ∷ v))
    go true p ih = rw (lt-ltb from at h, add-zero, p, le-ltb at at (omega arith))
    go false p ih = rw (add-suc, ← suc-add) ih

-- ---- of the bytes of w from `at` on, whose whitespace ends before `from`
module _ (w : List ℕ) (at : ℕ) {from : ℕ} (is : from ≡ at + run is_space (drop at w)) where
  skipped : piece_ranges at at (drop at w) ≡ piece_ranges from from (drop from w)
  skipped = passed at (drop at w) ∙ (rw (drop-drop (run is_space (drop at w)) at w, ← is))

  pub no_piece : length w ≤ from → piece_ranges at at (drop at w) ≡ []
  no_piece h = skipped ∙ (rw (drop_of_length-le w h) (none from))

  bare : from < length w → is_space (get_or w from 0) ≡ false
  bare h = rw (is, ← get_or-drop at w (run is_space (drop at w)) 0) (run_stops is_space (drop at w) (omega (arith, length-drop at w)))

  -- a piece up to e is first
  module _ {e : ℕ} (ends : e ≡ from + run solid (drop from w)) (h : from < length w) where
    longer : e ≡ suc from + run solid (drop (suc from) w)
    unfolding run
    longer = let z : e ≡ from + suc (run solid (drop (suc from) w)) = rw (drop-cons w from 0 h, bare h) at ends in omega arith

    pub a_piece : piece_ranges at at (drop at w) ≡ range from e ∷ piece_ranges e e (drop e w)
    unfolding piece_ranges
    a_piece =
        let z = begun from (suc from) (drop (suc from) w) (omega arith) in
        skipped ∙ (rw (drop-cons w from 0 h, bare h) (z ∙ (rw (drop-drop (run solid (drop (suc from) w)) (suc from) w, ← longer))))

    pub piece_ahead : (from < e) × (e ≤ length w)
    piece_ahead = omega (arith, longer, run_le solid (drop (suc from) w), length-drop (suc from) w)
