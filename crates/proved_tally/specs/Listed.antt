-- "`classes` as read and distinct `keys`": what is counted of a block is what its set lists.
use Rattle.std.specs.Prelude.{◌≡◌, List, ℕ}
use Rattle.set_table.specs.Rows.{listed_of}
use Rattle.block_grammar.specs.Meaning.{Entry}
use Rattle.read_blocks.specs.Blocks.{texts_in, filled_found}
use Rattle.sheet_blocks.specs.Sheets.{Try}
use Rattle.sheet_tally.specs.Counts.{tries_in, classes_at, keys_at}
use Rattle.proved_sets.specs.Limits.{class_count, key_count}
use Rattle.proved_sheets.specs.Order.{Each}

-- what a block's set lists: "Reading and merging still list every class"
abbrev pub listed_at : List ℕ → Try → List Entry
listed_at t x = listed_of (texts_in t x.found) (filled_found t x.at x.found).set

-- every class, each time that it is said, and every key once
pub record AsListed (t : List ℕ) (x : Try) : Type 0 where
  pub classes : classes_at t x ≡ class_count (listed_at t x)
  pub keys : keys_at t x ≡ key_count (listed_at t x)

-- of each try of a sheet
abbrev pub CountsListed : Type 0
CountsListed = (t : List ℕ) → Each (AsListed t) (tries_in t)
