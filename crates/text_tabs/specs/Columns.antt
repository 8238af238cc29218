-- Columns count characters from 0, with tab stops of 4.
use Rattle.std.specs.Prelude.{ℕ, suc, ◌+◌, ◌-◌, ◌%◌, cond, eqb, leb}
use mathlib.Core.List.{List, [], ◌∷◌, foldl}
use Rattle.base_bytes.specs.Bytes.{is_indent, is_tail, tab}

-- "a tab goes to the next multiple of 4 (CommonMark 2.2)"
unfoldable pub tab_stop : ℕ → ℕ
tab_stop c = c + (4 - c % 4)

-- the column behind a byte that stands at column c, or that goes on the character before it: "Columns count characters, not bytes."
unfoldable pub column_after : ℕ → ℕ → ℕ
column_after c b = cond (eqb b tab) (tab_stop c) (cond (is_tail b) c (suc c))

-- The column behind the last byte, where the first stands at column c. (In quotes 000 gives an escape two columns whatever it escapes, a tab too:
-- that is for the scanners of runs to say.)
unfoldable pub columns_from : ℕ → List ℕ → ℕ
columns_from c s = foldl column_after c s

-- "`indent_columns`: leading spaces and tabs"
unfoldable pub indent_from : ℕ → List ℕ → ℕ
indent_from c [] = c
indent_from c (b ∷ s) = cond (is_indent b) (indent_from (column_after c b) s) c

-- the indentation of a line
unfoldable pub indent_columns : List ℕ → ℕ
indent_columns s = indent_from 0 s

-- what a `usize` can hold of a column: a text of 65,535 bytes never comes near
abbrev pub most : ℕ
most = 18446744073709551615

unfoldable pub capped : ℕ → ℕ
capped n = cond (leb n most) n most
