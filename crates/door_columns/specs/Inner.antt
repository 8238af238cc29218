-- What private functions promise: nothing that a reader of the public promise has to believe.
use Rattle.std.specs.Prelude.{ℕ, ◌+◌, List, set}
use Rattle.set_columns.specs.declared.Column.{Column}
use Rattle.door_columns.specs.Said.{align_no, valign_no, width_no, width_from, width_to}

-- the numbers of a column told from an index on
unfoldable pub column_told : List ℕ → ℕ → Column → List ℕ
column_told buf at c = set (set (set (set (set buf at (align_no c.align)) (at + 1) (valign_no c.valign)) (at + 2) (width_no c.width)) (at + 3) (width_from c.width)) (at + 4) (width_to c.width)
