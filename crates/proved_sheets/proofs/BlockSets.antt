-- "it is well-formed if its text gives neither 1 nor 2": the set of a sheet's next block.
-- Assumes nothing.
use mathlib.Core.Path.{◌≡◌}
use mathlib.Core.Bool.{true}
use mathlib.Core.List.{List}
use Prim.Native.Nat.{ℕ}
use Rattle.text_checks.specs.Check.{is_text}
use Rattle.text_checks.proofs.Texts.{text_short}
use Rattle.proved_origins.proofs.Checks.{empty_text}
use Rattle.proved_reading.specs.HandedSets.{SetFormed}
use Rattle.proved_reading.proofs.BlockSets.{none_ok, found_ok_lem}
use Rattle.read_lengths.specs.Lengths.{flush_left}
use Rattle.sheet_blocks.specs.Sheets.{next_of}
use Rattle.sheet_blocks.proofs.Tries.{flush_by}
use Rattle.sheet_blocks.proofs.Goes.{goes_on_lem}
use Rattle.proved_sheets.specs.Blocks.{NextSetOk}

flush_ok : (t : List ℕ) → is_text t ≡ true → (cap at : ℕ) → SetFormed t at (flush_left t cap at)
flush_ok t h cap at = flush_by (SetFormed t at) t at cap (none_ok t h at _ _ _ empty_text) (found_ok_lem t h at 0 cap)

-- the next block stands some lines farther on
pub next_set_ok : NextSetOk
next_set_ok t cap at h j n = rw (goes_on_lem t cap at (text_short t h) j n).read (flush_ok t h cap (next_of t cap at).at)
