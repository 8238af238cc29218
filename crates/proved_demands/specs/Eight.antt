-- Document 02: "Show over every reading and merge that 8 is never given": of each public function that reads or merges, over the definition that it promises. With
-- "more than 34 slots" (66 today) asked last, as document 01 had it at first, its number would be the same (`NeverEight`, proved_sets/specs/Eight).
use Rattle.std.specs.Prelude.{List, ℕ}
use Rattle.base_bytes.specs.declared.Mode.{Mode}
use Rattle.base_refusals.specs.Numbers.{outcome_no}
use Rattle.text_line_start.specs.Starts.{place_of}
use Rattle.set_table.specs.Types.{Texts}
use Rattle.set_table.specs.declared.Attrs.{Attrs}
use Rattle.set_fill.specs.Fill.{fill_at, chain_at}
use Rattle.set_merge.specs.Merge.{merge_of}
use Rattle.set_lent.specs.Lent.{end_of, lent_both}
use Rattle.read_brace.specs.Brace.{brace_paper, read_attrs_at}
use Rattle.read_blocks.specs.declared.Block.{Block}
use Rattle.read_blocks.specs.Blocks.{found, wrapped, block_of, sized}
use Rattle.read_blocks.specs.ByLine.{block_found, wrapped_found}
use Rattle.read_by_line.specs.Entries.{parse_standalone}
use Rattle.sheet_blocks.specs.Sheets.{next_of}
use Rattle.proved_sets.specs.Eight.{NeverEight, NeverGiven}

abbrev pub NeverOfBlock : Block → Type 0
NeverOfBlock b = NeverEight (outcome_no b.outcome) b.set

-- "over every reading"
pub record ReadingNeverEight : Type 0 where
  -- `read_attrs_at` and `read_attrs_at_with`, in both modes; `fill`, of the payload alone
  pub brace : (m : Mode) (t : List ℕ) (i : ℕ) → NeverEight (brace_paper (read_attrs_at m t i).answer).number (read_attrs_at m t i).set
  pub payload : (m : Mode) (t : List ℕ) (at end : ℕ) → NeverGiven (fill_at m t at end)
  -- `fill_chain` and `parse_standalone_attrs`: a line
  pub chain : (m : Mode) (t : List ℕ) (from to : ℕ) → NeverGiven (chain_at m t from to)
  pub line : (t : List ℕ) (n : ℕ) → NeverGiven (parse_standalone t n)
  -- `read_at` and `wrapped_at`: a block and a run by place
  pub block_at : (t : List ℕ) (at base cap : ℕ) → NeverOfBlock (block_of t at (sized t (found t at base cap)))
  pub run_at : (t : List ℕ) (at base cap : ℕ) → NeverOfBlock (block_of t at (sized t (wrapped t at base cap)))
  -- `parse_standalone_attrs_block` and `wrapped_attrs_run_at`: by line number
  pub block : (t : List ℕ) (n base cap : ℕ) → NeverOfBlock (block_of t (place_of t n) (block_found t n base cap))
  pub run : (t : List ℕ) (n base cap : ℕ) → NeverOfBlock (block_of t (place_of t n) (wrapped_found t n base cap))
  -- `next_block`, of a whole sheet
  pub next : (t : List ℕ) (cap at : ℕ) → NeverOfBlock (next_of t cap at).block

-- "and merge", of any two tables over any texts, hand-made ones too
pub record MergeNeverEight : Type 0 where
  -- `merge_attrs` and `merge_leading_attrs`
  pub merge : (t : Texts) (a b : Attrs) → NeverGiven (merge_of t a b)
  pub leading : (t : Texts) (a b : Attrs) → NeverGiven (merge_of t b a)
  -- `merge_into` and `merge_leading_into`, with the lent set as it then stands
  pub into : (t : Texts) (a b : Attrs) → NeverEight (outcome_no (merge_of t a b).outcome) (end_of a (merge_of t a b))
  pub leading_into : (t : Texts) (a b : Attrs) → NeverEight (outcome_no (merge_of t b a).outcome) (end_of a (merge_of t b a))
  -- `merge_both`: of each of its two merges
  pub led : (t : Texts) (a leading incoming : Attrs) → NeverEight (outcome_no (lent_both t a leading incoming).led) (end_of a (merge_of t leading a))
  pub merged : (t : Texts) (a leading incoming : Attrs) → NeverEight (outcome_no (lent_both t a leading incoming).merged) (lent_both t a leading incoming).set
