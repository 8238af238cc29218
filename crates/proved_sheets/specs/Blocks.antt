-- What is read of a sheet's blocks: a set, or a refusal for a limit.
use Rattle.std.specs.Prelude.{◌≡◌, Bool, true, List, [], ◌∷◌, ℕ, ◌≤◌, length, Err, Ok, Result}
use Rattle.base_lists.specs.Lists.{is_in}
use Rattle.base_refusals.specs.Numbers.{max_text, number_of}
use Rattle.text_checks.specs.Check.{is_text}
use Rattle.set_wellformed.specs.WellFormed.{well_formed}
use Rattle.proved_sets.specs.HandedOut.{Zeroed}
use Rattle.read_blocks.specs.Blocks.{texts_in, block_of}
use Rattle.read_lengths.specs.Lengths.{flush_left}
use Rattle.sheet_blocks.specs.Sheets.{is_block, next_of}
use Rattle.base_refusals.specs.declared.Refusal.{Refusal}

-- ---- "or for 6, 7 or 10 `refused`", where 10 is the writer's

-- read, or refused 6 or 7
abbrev pub is_limited : Result (Unit {0}) Refusal → Bool
is_limited (Ok _) = true
is_limited (Err r) = is_in (6 ∷ 7 ∷ []) (number_of r)

-- so is each block of a text within the size
abbrev pub BlockLimited : Type 0
BlockLimited = (t : List ℕ) (cap at : ℕ) → length t ≤ max_text → is_block (flush_left t cap at) ≡ true → is_limited (block_of t at (flush_left t cap at)).outcome ≡ true

-- ---- "Rows past the counts are zero in every set handed out"

-- that of the next block, and that of the refusal where there is none
abbrev pub NextZeroed : Type 0
NextZeroed = (t : List ℕ) (cap at : ℕ) → Zeroed (next_of t cap at).block.set

-- ---- "and it is well-formed if its texts give neither 1 nor 2"

-- the set of the next block behind a place, over the lent text and what was joined
abbrev pub NextSetOk : Type 0
NextSetOk = (t : List ℕ) (cap at : ℕ) → is_text t ≡ true → max_text ≤ cap → ((next_of t cap at).block.lines ≡ 0 → ⊥)
    → well_formed (texts_in t (flush_left t cap (next_of t cap at).at)) (next_of t cap at).block.set ≡ true
