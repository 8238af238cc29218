-- Laws that keep the numbers of a sheet honest.
use Rattle.std.specs.Prelude.{◌≡◌, List, true, false, ℕ, ◌+◌, ◌≤◌, ◌<◌, length, drop, Ok}
use Rattle.base_refusals.specs.declared.Refusal.TheVariants.{NothingThere}
use Rattle.text_checks.specs.Check.{check_of}
use Rattle.read_blocks.specs.Blocks.{lines_of, nothing, found}
use Rattle.read_lengths.specs.Lengths.{flush_left}
use Rattle.sheet_blocks.specs.Sheets.{may_open, blocks_of}
use Rattle.sheet_tally.specs.Lists.{greatest_of, keep}
use Rattle.sheet_tally.specs.Counts.{tries_in, blocks_by, printed, is_wrapped}

-- "3 .. trimmed line doesn't start with `{`; for `standalone_attrs_block_len`, first line starts with space or tab": what `may_open` says of the line at a place.
-- Where it says no, nothing is there; where it says yes, the line isn't indented.
pub record OpensTells (t : List ℕ) (at cap : ℕ) : Type 0 where
  pub shut : may_open (drop at t) ≡ false → flush_left t cap at ≡ nothing NothingThere
  pub flush : may_open (drop at t) ≡ true → flush_left t cap at ≡ found t at 0 cap

abbrev pub MayOpenTells : Type 0
MayOpenTells = (t : List ℕ) (at cap : ℕ) → at < length t → OpensTells t at cap

-- every block of a sheet is printed, or refused by 6, 7 or 10, and by one of them alone
abbrev pub AllBlocks : Type 0
AllBlocks = (t : List ℕ) → check_of t ≡ Ok tt
    → length (printed t (tries_in t)) + length (blocks_by 6 t (tries_in t)) + (length (blocks_by 7 t (tries_in t)) + length (blocks_by 10 t (tries_in t))) ≡ length (blocks_of t)

-- "`wrapped` ones" are printed ones
abbrev pub WrappedPrinted : Type 0
WrappedPrinted = (t : List ℕ) → length (keep is_wrapped (printed t (tries_in t))) ≤ length (printed t (tries_in t))

-- "`longest` printed block in lines" is 0 exactly where none is printed
pub record LongestTells (t : List ℕ) : Type 0 where
  pub none : length (printed t (tries_in t)) ≡ 0 → greatest_of (λ x. lines_of x.found) (printed t (tries_in t)) ≡ 0
  pub only_none : greatest_of (λ x. lines_of x.found) (printed t (tries_in t)) ≡ 0 → length (printed t (tries_in t)) ≡ 0

abbrev pub LongestSome : Type 0
LongestSome = (t : List ℕ) → LongestTells t
