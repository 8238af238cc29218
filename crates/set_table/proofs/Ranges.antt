-- The bytes of a range, as each way through `bytes_of` hands them out.
-- Assumes nothing.
use mathlib.Core.Path.{◌≡◌}
use mathlib.Core.List.{List, []}
use Prim.Native.Nat.{ℕ, ◌-◌, ◌≤◌}
use native.Mathlib.Omega.{arith}
use lib.ListN.{length, take, drop, drop_of_length-le, length-drop}
use lib.Seq.{slice, take_all, take-nil}
use Rattle.base_lists.proofs.Parts.{slice_part}

module _ (t : List ℕ) (from to : ℕ) where
  pub whole : take (to - from) (drop from t) ≡ slice from to t
  whole = rw (slice_part from to t)

  -- the text ends before the range does
  pub over : length t ≤ to → take (length t - from) (drop from t) ≡ slice from to t
  over h = rw (slice_part from to t, take_all (length t - from) (drop from t) (simp length-drop (omega arith)), take_all (to - from) (drop from t) (simp length-drop (omega arith)))

  -- the range begins behind the text
  pub past : length t ≤ from → [] ≡ slice from to t
  past h = rw (slice_part from to t, drop_of_length-le t h, take-nil)

  -- the range ends before it begins
  pub back : to ≤ from → [] ≡ slice from to t
  back h = let z : to - from ≡ 0 = omega arith in rw (slice_part from to t, z)
