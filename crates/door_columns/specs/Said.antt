-- What a caller from C or Rust is answered of the columns of a block.
use Rattle.std.specs.Prelude.{ℕ, take, None, Option, Some}
use mathlib.Core.List.{List, [], ◌∷◌, flat_map}
use Rattle.base_refusals.specs.Numbers.{outcome_no}
use Rattle.text_checks.specs.Outcomes.{or_else, or_left}
use Rattle.set_table.specs.Types.{Texts}
use Rattle.set_table.specs.declared.Origin.TheVariants as origin
use Rattle.set_columns.specs.Columns.{columns_of}
use Rattle.set_columns.specs.declared.Align as aligns
use Rattle.set_columns.specs.declared.Align.TheVariants as align
use Rattle.set_columns.specs.declared.Valign as valigns
use Rattle.set_columns.specs.declared.Valign.TheVariants as valign
use Rattle.set_columns.specs.declared.Width as widths
use Rattle.set_columns.specs.declared.Width.TheVariants as width
use Rattle.set_columns.specs.declared.Column.{Column}
use Rattle.set_columns.specs.declared.Columns.{Columns}
use Rattle.set_columns.specs.declared.Made.{Made}
use Rattle.read_blocks.specs.Blocks.{Found, block_of, texts_in}
use Rattle.read_blocks.specs.declared.Block.{Block}
use Rattle.door_shared.specs.Tells.{told_in}

-- ---- five numbers of a column: its align, its vertical align, what its width is, and from where to where

-- "left, right, center or none", "top, middle, bottom or none": 0 is none
abbrev pub align_no : Option aligns.Align → ℕ
align_no None = 0
align_no (Some align.Left) = 1
align_no (Some align.Right) = 2
align_no (Some align.Center) = 3

abbrev pub valign_no : Option valigns.Valign → ℕ
valign_no None = 0
valign_no (Some valign.Top) = 1
valign_no (Some valign.Middle) = 2
valign_no (Some valign.Bottom) = 3

-- none; that of a bare key, which has no place; a range of the text; a range of what was joined
abbrev pub width_no : Option widths.Width → ℕ
width_no None = 0
width_no (Some width.Empty) = 1
width_no (Some (width.Range origin.First f t)) = 2
width_no (Some (width.Range origin.Second f t)) = 3

abbrev pub width_from : Option widths.Width → ℕ
width_from None = 0
width_from (Some width.Empty) = 0
width_from (Some (width.Range o f t)) = f

abbrev pub width_to : Option widths.Width → ℕ
width_to None = 0
width_to (Some width.Empty) = 0
width_to (Some (width.Range o f t)) = t

unfoldable pub column_nos : Column → List ℕ
column_nos c = align_no c.align ∷ valign_no c.valign ∷ width_no c.width ∷ width_from c.width ∷ width_to c.width ∷ []

unfoldable pub table_nos : Columns → List ℕ
table_nos t = flat_map column_nos (take t.count t.columns)

-- ---- the answer: its number, what is told, and what then stands in the memory that was lent for the columns' numbers
pub record Answered : Type 0 where
  pub number : ℕ
  pub told : List ℕ
  pub numbers : List ℕ

-- the block's refusal, else that of its columns; as many numbers as there is room for, none on a refusal; told: the count of columns, the block's lines, and
-- how many bytes were joined
abbrev pub made_said : Block → Made → List ℕ → Answered
made_said b m buf =
    record {
      number = outcome_no (or_else b.outcome m.outcome);
      told = m.table.count ∷ b.lines ∷ b.joined ∷ [];
      numbers = or_left (or_else b.outcome m.outcome) buf (told_in buf (table_nos m.table));
    }

abbrev pub columns_said_by : Block → Texts → List ℕ → Answered
columns_said_by b t buf = made_said b (columns_of t b.set) buf

unfoldable pub columns_said : List ℕ → ℕ → Found → List ℕ → Answered
columns_said t at f buf = columns_said_by (block_of t at f) (texts_in t f) buf
