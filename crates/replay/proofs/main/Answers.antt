-- `main` lends two buffers that are too long to be counted through: their lengths are cited by a law.
-- Assumes nothing.
use mathlib.Core.Path.{sym}
use Prim.Native.Nat.{ℕ}
use lib.ListN.{length-replicate}
use Rattle.replay.proofs.main.Goals as goal

pub slice_bounds-answer_all-end : goal.slice_bounds-answer_all-end
slice_bounds-answer_all-end c = sym (length-replicate {A = ℕ} 800100 0)

pub slice_bounds-answer_all-end-8 : goal.slice_bounds-answer_all-end-8
slice_bounds-answer_all-end-8 c = sym (length-replicate {A = ℕ} 1048576 0)
