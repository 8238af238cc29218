-- "The valve tables use `aligns`, `valigns` and `widths`, split at commas .. Give per column an align .., a vertical align .. and the width as a raw range (none
-- past its list) .. The count is the longest of the three lists; a present but empty value is one empty column. Values are unescaped before splitting, so an
-- escaped comma splits too; its backslash belongs to no width's range."
use Rattle.std.specs.Prelude.{◌≡◌, Bool, true, false, List, [], map, ℕ, ◌<◌, ◌≤◌, max, length, get_or, Err, None, Ok, Option, Some}
use Rattle.std.proofs.Math.Seq.{slice}
use Rattle.base_refusals.specs.declared.Refusal.{Refusal}
use Rattle.base_refusals.specs.declared.Refusal.TheVariants.{TooManyColumns}
use Rattle.set_table.specs.Types.{Texts, range_bytes}
use Rattle.set_table.specs.Rows.{meaning_of}
use Rattle.set_table.specs.declared.Attrs.{Attrs}
use Rattle.set_table.specs.declared.Text as texts
use Rattle.set_values.specs.Values.{range_ok}
use Rattle.set_marks.specs.Marks.{bytes_in, raw_text, is_quoted_text}
use Rattle.set_keyed.specs.Keyed.{key_found}
use Rattle.set_wellformed.specs.WellFormed.{well_formed}
use Rattle.block_grammar.specs.Meaning.{PieceAt}
use Rattle.set_commas.specs.Commas.{comma_pieces, cuts_of}
use Rattle.set_commas.specs.Rules.{Split, Parted}
use Rattle.set_columns.specs.declared.Columns.{Columns}
use Rattle.set_columns.specs.declared.Width as widths
use Rattle.set_columns.specs.declared.Width.TheVariants as width
use Rattle.set_columns.specs.Columns.{max_columns, zero_column, no_columns, align_of, valign_of, aligns_name, valigns_name, widths_name, list_in, widths_by, widths_in, count_in, columns_of}
use Rattle.set_columns_lent.specs.Lent.{table_end}
use Rattle.set_table.specs.declared.Value.{Value}

-- ---- splitting

-- "split at commas": at least one piece, none with a comma in it, which give the text back with a comma between two; and no other list does
abbrev pub SplitOnly : Type 0
SplitOnly = (s : List ℕ) → Split s (comma_pieces s) × ((ps : List (List ℕ)) → Split s ps → comma_pieces s ≡ ps)

-- "Values are unescaped before splitting": the raw ranges' bytes, each unescaped by itself where the value is quoted, are the pieces of the unescaped value
abbrev pub CutsPieces : Type 0
CutsPieces = (q : Bool) (s : List ℕ) → map (λ r. bytes_in q (slice r.from r.to s)) (cuts_of q s) ≡ comma_pieces (bytes_in q s)

-- "an escaped comma splits too; its backslash belongs to no width's range": the ranges go from the value's front to its end, none has a comma in it, and between
-- two stands a comma, in a quoted value with the backslash that escapes it, and nothing else; and no other ranges lie so
abbrev pub CutsOnly : Type 0
CutsOnly = (q : Bool) (s : List ℕ) → Parted q s 0 (cuts_of q s) × ((rs : List PieceAt) → Parted q s 0 rs → cuts_of q s ≡ rs)

-- ---- the bytes that a width stands for, unescaped where its list was quoted
abbrev pub width_bytes : Texts → Bool → Option widths.Width → List ℕ
width_bytes t q None = []
width_bytes t q (Some width.Empty) = []
width_bytes t q (Some (width.Range o from to)) = bytes_in q (range_bytes t o from to)

-- "the width as a raw range": the widths of a value stand for the pieces of its unescaped bytes
abbrev pub WidthsStand : Type 0
WidthsStand = (t : Texts) (x : texts.Text) → map (width_bytes t (is_quoted_text x)) (widths_by t x) ≡ comma_pieces (bytes_in (is_quoted_text x) (raw_text t x))

-- ---- the width of a column

-- whether the value of `widths` was quoted
abbrev pub quoted_by : Option Value → Bool
quoted_by None = false
quoted_by (Some v) = is_quoted_text v.text

abbrev pub is_unset : Option widths.Width → Bool
is_unset None = true
is_unset (Some width.Empty) = false
is_unset (Some (width.Range o from to)) = false

-- of the k-th column, and the bytes that it stands for
abbrev pub width_in : Texts → Attrs → ℕ → Option widths.Width
width_in t a k = (get_or (columns_of t a).table.columns k zero_column).width

abbrev pub width_bytes_in : Texts → Attrs → ℕ → List ℕ
width_bytes_in t a k = width_bytes t (quoted_by (key_found t a widths_name)) (width_in t a k)

-- "ranges inside their text on character boundaries"
abbrev pub width_ok : Texts → Option widths.Width → Bool
width_ok t None = true
width_ok t (Some width.Empty) = true
width_ok t (Some (width.Range o from to)) = range_ok t o from to

abbrev pub WidthsOnBoundaries : Type 0
WidthsOnBoundaries = (t : Texts) (a : Attrs) (k : ℕ) → width_ok t (width_in t a k) ≡ true

-- ---- the table
pub record TableRight (t : Texts) (a : Attrs) : Type 0 where
  -- "The count is the longest of the three lists"
  pub count : (columns_of t a).table.count
      ≡ max (length (list_in aligns_name (meaning_of t a))) (max (length (list_in valigns_name (meaning_of t a))) (length (list_in widths_name (meaning_of t a))))
  -- "none past its list": any piece past a list's end is none
  pub align : (k : ℕ) → (get_or (columns_of t a).table.columns k zero_column).align ≡ align_of (get_or (list_in aligns_name (meaning_of t a)) k [])
  pub valign : (k : ℕ) → (get_or (columns_of t a).table.columns k zero_column).valign ≡ valign_of (get_or (list_in valigns_name (meaning_of t a)) k [])
  -- "the width as a raw range": the k-th range of the value as it lies in its text, whose bytes are those of the k-th piece
  pub width : (k : ℕ) → width_in t a k ≡ get_or (widths_in t a) k None
  pub bytes : (k : ℕ) → width_bytes_in t a k ≡ get_or (list_in widths_name (meaning_of t a)) k []
  -- "(none past its list)", and none but there
  pub none : (k : ℕ) → length (list_in widths_name (meaning_of t a)) ≤ k → is_unset (width_in t a k) ≡ true
  pub some : (k : ℕ) → k < length (list_in widths_name (meaning_of t a)) → is_unset (width_in t a k) ≡ false
  -- the columns past the count are zero
  pub past : (k : ℕ) → (columns_of t a).table.count ≤ k → get_or (columns_of t a).table.columns k zero_column ≡ zero_column

abbrev pub ColumnsRight : Type 0
ColumnsRight = (t : Texts) (a : Attrs) → (columns_of t a).outcome ≡ Ok tt → TableRight t a

-- "18 more than 32 columns", of a well-formed set
abbrev pub TooManyExactly : Type 0
TooManyExactly = (t : Texts) (a : Attrs) → well_formed t a ≡ true
    → (max_columns < count_in (meaning_of t a) → (columns_of t a).outcome ≡ Err TooManyColumns) × (count_in (meaning_of t a) ≤ max_columns → (columns_of t a).outcome ≡ Ok tt)

-- a refusal hands out the table without a column
abbrev pub RefusedNone : Type 0
RefusedNone = (t : Texts) (a : Attrs) (r : Refusal) → (columns_of t a).outcome ≡ Err r → (columns_of t a).table ≡ no_columns

-- "the lent table is unchanged": on a refusal it stays as it was, to its last column, ..
abbrev pub TableStays : Type 0
TableStays = (t : Texts) (a : Attrs) (was : Columns) (r : Refusal) → (columns_of t a).outcome ≡ Err r → table_end was (columns_of t a) ≡ was

-- .. and else nothing of what it held is left
abbrev pub TableGoes : Type 0
TableGoes = (t : Texts) (a : Attrs) (was : Columns) → (columns_of t a).outcome ≡ Ok tt → table_end was (columns_of t a) ≡ (columns_of t a).table

-- the columns depend on the meaning alone but for the widths' places: where a width is and which bytes it stands for is the meaning's too
pub record SameSettings (t u : Texts) (a b : Attrs) : Type 0 where
  pub outcome : (columns_of t a).outcome ≡ (columns_of u b).outcome
  pub count : (columns_of t a).table.count ≡ (columns_of u b).table.count
  pub align : (k : ℕ) → (get_or (columns_of t a).table.columns k zero_column).align ≡ (get_or (columns_of u b).table.columns k zero_column).align
  pub valign : (k : ℕ) → (get_or (columns_of t a).table.columns k zero_column).valign ≡ (get_or (columns_of u b).table.columns k zero_column).valign
  pub bytes : (k : ℕ) → width_bytes_in t a k ≡ width_bytes_in u b k
  pub unset : (k : ℕ) → is_unset (width_in t a k) ≡ is_unset (width_in u b k)

abbrev pub ByMeaning : Type 0
ByMeaning = (t u : Texts) (a b : Attrs) → well_formed t a ≡ true → well_formed u b ≡ true → meaning_of t a ≡ meaning_of u b → SameSettings t u a b
