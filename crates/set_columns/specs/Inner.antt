-- What private functions promise that lay a list down on the columns: nothing that a reader of the public promise has to believe.
use Rattle.std.specs.Prelude.{ℕ, suc, Bool, true, false, cond, List, [], ◌∷◌, ltb, get_or, set, replicate, None, Ok, Option, Some}
use Rattle.std.proofs.Math.Seq.{slice}
use Rattle.base_refusals.specs.declared.Refusal.TheVariants.{TooManyColumns}
use Rattle.block_grammar.specs.Meaning.{PieceAt}
use Rattle.set_marks.specs.Marks.{bytes_in}
use Rattle.set_table.specs.Types.{Texts, value_bytes}
use Rattle.set_table.specs.declared.Attrs.{Attrs}
use Rattle.set_table.specs.declared.Origin.{Origin}
use Rattle.set_keyed.specs.Keyed.{key_found}
use Rattle.set_commas.specs.Commas.{comma_pieces}
use Rattle.set_columns.specs.declared.Align.{Align}
use Rattle.set_columns.specs.declared.Valign.{Valign}
use Rattle.set_columns.specs.declared.Width.{Width}
use Rattle.set_columns.specs.declared.Column.{Column}
use Rattle.set_columns.specs.declared.Made.{Made}
use Rattle.set_columns.specs.Columns.{max_columns, zero_column, align_of, valign_of, aligns_name, valigns_name, widths_name, width_at, longest_of, none_made, found_widths}
use Rattle.set_table.specs.declared.Value.{Value}

-- a column with one thing of it changed
abbrev pub align_on : Option Align → Column → Column
align_on a c = record { align = a; valign = c.valign; width = c.width }

abbrev pub valign_on : Option Valign → Column → Column
valign_on v c = record { align = c.align; valign = v; width = c.width }

abbrev pub width_on : Option Width → Column → Column
width_on w c = record { align = c.align; valign = c.valign; width = w }

-- the columns from i on, each changed by one of the list
unfoldable pub laid_on : {A : Type 0} → (A → Column → Column) → List A → ℕ → List Column → List Column
laid_on f [] i cs = cs
laid_on f (x ∷ xs) i cs = laid_on f xs (suc i) (set cs i (f x (get_or cs i zero_column)))

-- by a piece of the list of aligns, or of that of the vertical ones
unfoldable pub word_by : Bool → List ℕ → Column → Column
word_by false p c = align_on (align_of p) c
word_by true p c = valign_on (valign_of p) c

-- by the piece of a value at a range
abbrev pub word_at : Bool → Bool → List ℕ → PieceAt → Column → Column
word_at vertical q s r c = word_by vertical (bytes_in q (slice r.from r.to s)) c

abbrev pub range_at : Origin → ℕ → PieceAt → Column → Column
range_at o base r c = width_on (width_at o base r) c

-- the pieces of a value that was found
unfoldable pub found_pieces : Texts → Option Value → List (List ℕ)
found_pieces t None = []
found_pieces t (Some v) = comma_pieces (value_bytes t v)

-- the columns of three lists
unfoldable pub found_columns : Texts → Option Value → Option Value → Option Value → List Column
found_columns t a v w = laid_on width_on (found_widths t w) 0 (laid_on (word_by true) (found_pieces t v) 0 (laid_on (word_by false) (found_pieces t a) 0 (replicate max_columns zero_column)))

-- the table of three lists
abbrev pub found_table : Texts → Option Value → Option Value → Option Value → Made
found_table t a v w =
    cond (ltb max_columns (longest_of (found_pieces t a) (found_pieces t v) (found_pieces t w))) (none_made TooManyColumns)
    (record { outcome = Ok tt; table = record { columns = found_columns t a v w; count = longest_of (found_pieces t a) (found_pieces t v) (found_pieces t w) } })

unfoldable pub found_made : Texts → Attrs → Made
found_made t a = found_table t (key_found t a aligns_name) (key_found t a valigns_name) (key_found t a widths_name)
