-- "The valve tables use `aligns`, `valigns` and `widths`, split at commas as `table_columns_from_attrs` in source document 000 does."
use Rattle.std.specs.Prelude.{ℕ, zero, suc, ◌+◌, max, Bool, true, false, cond, List, [], ◌∷◌, ◌++◌, map, ltb, length, get_or, replicate, Err, None, Ok, Option, Result, Some}
use Rattle.base_lists.specs.Lists.{same}
use Rattle.base_refusals.specs.Orders.{Ground}
use Rattle.base_refusals.specs.declared.Refusal.{Refusal}
use Rattle.base_refusals.specs.declared.Refusal.TheVariants.{NotWellFormed, TooManyColumns}
use Rattle.text_checks.specs.Check.{both_order, both_of}
use Rattle.block_grammar.specs.Meaning.{Entry, PieceAt, lookup}
use Rattle.set_table.specs.Types.{Texts, range_bytes}
use Rattle.set_table.specs.Rows.{meaning_of, padded}
use Rattle.set_table.specs.declared.Attrs.{Attrs}
use Rattle.set_table.specs.declared.Origin.{Origin}
use Rattle.set_table.specs.declared.Text as texts
use Rattle.set_table.specs.declared.Text.TheVariants as text
use Rattle.set_wellformed.specs.WellFormed.{table_ok}
use Rattle.set_keyed.specs.Keyed.{key_found}
use Rattle.set_commas.specs.Commas.{comma_pieces, cuts_of}
use Rattle.set_columns.specs.declared.Align as aligns
use Rattle.set_columns.specs.declared.Align.TheVariants as align
use Rattle.set_columns.specs.declared.Valign as valigns
use Rattle.set_columns.specs.declared.Valign.TheVariants as valign
use Rattle.set_columns.specs.declared.Width as widths
use Rattle.set_columns.specs.declared.Width.TheVariants as width
use Rattle.set_columns.specs.declared.Column.{Column}
use Rattle.set_columns.specs.declared.Columns as tables
use Rattle.set_columns.specs.declared.Made.{Made}
use Rattle.set_table.specs.declared.Value.{Value}

-- "At most 32 columns."
abbrev pub max_columns : ℕ
max_columns = 32

abbrev pub zero_column : Column
zero_column = record { align = None; valign = None; width = None }

abbrev pub no_columns : tables.Columns
no_columns = record { columns = replicate max_columns zero_column; count = 0 }

-- ---- "Give per column an align (left, right, center or none), a vertical align (top, middle, bottom or none)"

unfoldable pub align_of : List ℕ → Option aligns.Align
align_of p =
    cond (same p (108 ∷ 101 ∷ 102 ∷ 116 ∷ [])) (Some align.Left)
    (cond (same p (114 ∷ 105 ∷ 103 ∷ 104 ∷ 116 ∷ [])) (Some align.Right)
    (cond (same p (99 ∷ 101 ∷ 110 ∷ 116 ∷ 101 ∷ 114 ∷ [])) (Some align.Center) None))

unfoldable pub valign_of : List ℕ → Option valigns.Valign
valign_of p =
    cond (same p (116 ∷ 111 ∷ 112 ∷ [])) (Some valign.Top)
    (cond (same p (109 ∷ 105 ∷ 100 ∷ 100 ∷ 108 ∷ 101 ∷ [])) (Some valign.Middle)
    (cond (same p (98 ∷ 111 ∷ 116 ∷ 116 ∷ 111 ∷ 109 ∷ [])) (Some valign.Bottom) None))

-- ---- the lists: `aligns`, `valigns`, `widths`

abbrev pub aligns_name : List ℕ
aligns_name = 97 ∷ 108 ∷ 105 ∷ 103 ∷ 110 ∷ 115 ∷ []

abbrev pub valigns_name : List ℕ
valigns_name = 118 ∷ 97 ∷ 108 ∷ 105 ∷ 103 ∷ 110 ∷ 115 ∷ []

abbrev pub widths_name : List ℕ
widths_name = 119 ∷ 105 ∷ 100 ∷ 116 ∷ 104 ∷ 115 ∷ []

-- "Values are unescaped before splitting": the pieces of the value that a meaning has under a name, none where it has none; "a present but empty value is one
-- empty column"
abbrev pub list_of : List (List ℕ) → List (List ℕ)
list_of [] = []
list_of (v ∷ vs) = comma_pieces v

abbrev pub list_in : List ℕ → List Entry → List (List ℕ)
list_in n m = list_of (lookup n m)

-- "the width as a raw range": of the text that the value is of; a bare key has no place in it
abbrev pub width_at : Origin → ℕ → PieceAt → Option widths.Width
width_at o base r = Some (width.Range o (base + r.from) (base + r.to))

abbrev pub widths_by : Texts → texts.Text → List (Option widths.Width)
widths_by t (text.Plain o from to) = map (width_at o from) (cuts_of false (range_bytes t o from to))
widths_by t (text.Quoted o from to) = map (width_at o from) (cuts_of true (range_bytes t o from to))
widths_by t text.Empty = Some width.Empty ∷ []

unfoldable pub found_widths : Texts → Option Value → List (Option widths.Width)
found_widths t None = []
found_widths t (Some v) = widths_by t v.text

abbrev pub widths_in : Texts → Attrs → List (Option widths.Width)
widths_in t a = found_widths t (key_found t a widths_name)

-- ---- the columns

-- "none past its list"
abbrev pub column_at : List (List ℕ) → List (List ℕ) → List (Option widths.Width) → ℕ → Column
column_at al va wi i = record { align = align_of (get_or al i []); valign = valign_of (get_or va i []); width = get_or wi i None }

-- f at each of n numbers from i on
unfoldable pub tabled : {A : Type 0} → (ℕ → A) → ℕ → ℕ → List A
tabled f zero i = []
tabled f (suc n) i = f i ∷ tabled f n (suc i)

-- "The count is the longest of the three lists"
abbrev pub longest_of : List (List ℕ) → List (List ℕ) → List (List ℕ) → ℕ
longest_of al va wi = max (length al) (max (length va) (length wi))

unfoldable pub count_in : List Entry → ℕ
count_in m = longest_of (list_in aligns_name m) (list_in valigns_name m) (list_in widths_name m)

unfoldable pub columns_in : Texts → Attrs → List Column
columns_in t a = tabled (column_at (list_in aligns_name (meaning_of t a)) (list_in valigns_name (meaning_of t a)) (widths_in t a)) (count_in (meaning_of t a)) 0

-- ---- the answer

-- a refusal hands out the table without a column
abbrev pub none_made : Refusal → Made
none_made r = record { outcome = Err r; table = no_columns }

-- the columns in their array, zero past the count
abbrev pub made_of : List Column → Made
made_of cs = record { outcome = Ok tt; table = record { columns = padded max_columns zero_column cs; count = length cs } }

-- "Refusals: 18 more than 32 columns, after 11": and before that 1 and 2 of the first text, 1 and 2 of the second
abbrev pub columns_order : Texts → Attrs → List Ground
columns_order t a = both_order t.first t.second ++ (Ground.lacking NotWellFormed (table_ok t a) ∷ Ground.given TooManyColumns (ltb max_columns (count_in (meaning_of t a))) ∷ [])

abbrev pub columns_by : Result (Unit {0}) Refusal → Texts → Attrs → Made
columns_by (Err r) t a = none_made r
columns_by (Ok _) t a = cond (table_ok t a) (cond (ltb max_columns (count_in (meaning_of t a))) (none_made TooManyColumns) (made_of (columns_in t a))) (none_made NotWellFormed)

unfoldable pub columns_of : Texts → Attrs → Made
columns_of t a = columns_by (both_of t.first t.second) t a
