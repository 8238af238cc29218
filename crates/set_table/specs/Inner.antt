-- What private functions promise as a table is put together: nothing that a reader of the public promises has to believe.
use Rattle.std.specs.Prelude.{◌≡◌, cond, ◌+◌, ◌≤◌, length}
use Rattle.base_lists.specs.Lists.{is_some}
use Rattle.set_table.specs.Types.{max_classes, max_keys}
use Rattle.set_table.specs.Rows.{Rows, is_there, table_of}
use Rattle.set_table.specs.declared.Attrs.{Attrs}

-- as many slots as there are things: one for the id, one for the classes and one for each key
pub record OneEach (s : Rows) : Type 0 where
  pub is : length s.order ≡ cond (is_there s.ident) 1 0 + cond (is_some s.classes) 1 0 + length s.keys

-- a is the table of the rows r, which are within the limits: its rows past the counts are zero
pub record Holds (a : Attrs) (r : Rows) : Type 0 where
  pub is : a ≡ table_of r
  pub classes : length r.classes ≤ max_classes
  pub keys : length r.keys ≤ max_keys
  pub each : OneEach r
