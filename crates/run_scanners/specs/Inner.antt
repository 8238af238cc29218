-- What the code's own functions promise of the search for the last open brace. No definition of a public promise rests on this.
use Rattle.std.specs.Prelude.{◌≡◌, false, List, ℕ, ◌-◌, ◌<◌, ◌≤◌, length, get_or, drop}
use Rattle.base_lists.specs.Lists.{is_in}
use Rattle.base_bytes.specs.Bytes.{open_brace}
use Rattle.text_tabs.specs.Columns.{capped}
use Rattle.run_scanners.specs.declared.Seek.{Seek}
use Rattle.run_scanners.specs.Scanners.{capped_at}

-- what a `usize` can hold of where it stands
abbrev pub capped_seek : Seek → Seek
capped_seek k = record { scan = k.scan; column = capped k.column; found = capped_at k.found }

-- the last `{` of s stands before r; where r is 0 there is none
pub record LastBrace (s : List ℕ) (r : ℕ) : Type 0 where
  pub within : r ≤ length s
  pub none : is_in (drop r s) open_brace ≡ false
  pub there : 0 < r → get_or s (r - 1) 0 ≡ open_brace
