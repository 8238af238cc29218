-- Each item's text stands at its place, so that ranges of the text give an item's parts.
-- Assumes nothing.
use mathlib.Core.Path.{◌≡◌}
use mathlib.Core.List.{List, ◌∷◌, ◌++◌}
use Prim.Native.Nat.{ℕ, ◌+◌}
use lib.ListN.{length, take, drop}
use lib.Seq.{drop-drop, take-append_seam, drop-append_seam}

-- a part of a text that stands at a place, by its range
pub part : (w a b c : List ℕ) (at : ℕ) → drop at w ≡ a ++ (b ++ c) → take (length b) (drop (at + length a) w) ≡ b
part w a b c at e = rw (← drop-drop (length a) at w, e, drop-append_seam a (b ++ c), take-append_seam b c)
