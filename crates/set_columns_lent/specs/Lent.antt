-- "the lent table is unchanged": what a lent table of columns holds after a call.
use Rattle.std.specs.Prelude.{Err, Ok, Result}
use Rattle.set_columns.specs.declared.Columns.{Columns}
use Rattle.set_columns.specs.declared.Made.{Made}
use Rattle.set_table.specs.Types.{Texts}
use Rattle.set_table.specs.declared.Attrs.{Attrs}
use Rattle.set_columns.specs.Columns.{columns_of}
use Rattle.set_columns_lent.specs.declared.Laid.{Laid}
use Rattle.base_refusals.specs.declared.Refusal.{Refusal}

abbrev pub table_left : Result (Unit {0}) Refusal → Columns → Columns → Columns
table_left (Err r) was new = was
table_left (Ok _) was new = new

-- the lent table that held `was`, once the columns have come to m
unfoldable pub table_end : Columns → Made → Columns
table_end was m = table_left m.outcome was m.table

-- the table `was`, lent for the columns of the set s
unfoldable pub lent_columns : Texts → Columns → Attrs → Laid
lent_columns t was s = record { outcome = (columns_of t s).outcome; table = table_end was (columns_of t s) }
