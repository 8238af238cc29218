-- "`indent_columns`: leading spaces and tabs; a tab goes to the next multiple of 4 (CommonMark 2.2)."
use Rattle.std.specs.Prelude.{◌≡◌, true, cond, not, List, [], ◌∷◌, ◌++◌, ℕ, ◌+◌, ◌-◌, ◌%◌, ◌<◌, ◌≤◌, eqb, replicate}
use Rattle.base_lists.specs.Lists.{all, run}
use Rattle.base_bytes.specs.Bytes.{space, tab}
use Rattle.text_utf8.specs.Utf8.{char_count}
use Rattle.text_tabs.specs.Columns.{tab_stop, column_after, columns_from, indent_from, indent_columns}

-- "a tab goes to the next multiple of 4": from column c on, the first one behind it
pub record NextStop (c : ℕ) : Type 0 where
  pub behind : c < tab_stop c
  pub multiple : tab_stop c % 4 ≡ 0
  pub first : (d : ℕ) → c < d → d % 4 ≡ 0 → tab_stop c ≤ d

-- .. from every column
abbrev pub TabGoesToStop : Type 0
TabGoesToStop = (c : ℕ) → NextStop c

-- CommonMark 2.2, word for word: tabs "behave as if they were replaced by spaces with a tab stop of 4 characters"
unfoldable pub expand_from : ℕ → List ℕ → List ℕ
expand_from c [] = []
expand_from c (b ∷ s) = cond (eqb b tab) (replicate (4 - c % 4) space ++ expand_from (tab_stop c) s) (b ∷ expand_from (column_after c b) s)

-- So replaced, no tab is left, ..
abbrev pub NoTabLeft : Type 0
NoTabLeft = (c : ℕ) (s : List ℕ) → all (λ b. not (eqb b tab)) (expand_from c s) ≡ true

-- .. the text leads to the same column, ..
abbrev pub SameColumn : Type 0
SameColumn = (c : ℕ) (s : List ℕ) → columns_from c (expand_from c s) ≡ columns_from c s

-- .. which is a number of characters: "Columns count characters, not bytes."
abbrev pub ColumnCounts : Type 0
ColumnCounts = (c : ℕ) (s : List ℕ) → columns_from c s ≡ c + char_count (expand_from c s)

-- "leading spaces and tabs": the indentation is then a number of leading spaces, from column c on, ..
abbrev pub IndentCounts : Type 0
IndentCounts = (c : ℕ) (s : List ℕ) → indent_from c s ≡ c + run (λ b. eqb b space) (expand_from c s)

-- .. and of a line
abbrev pub IndentIsSpaces : Type 0
IndentIsSpaces = (s : List ℕ) → run (λ b. eqb b space) (expand_from 0 s) ≡ indent_columns s
