-- What is handed out of rows: 6, 7, or their table.
-- Assumes nothing.
use Rattle.std.specs.Prelude.{Ok}
use mathlib.Core.Path.{◌≡◌}
use Prim.Native.Nat.{◌≤◌, ◌<◌}
use borrow.Author.Tests.{lt-ltb, le-ltb}
use lib.ListN.{length}
use Rattle.base_refusals.specs.declared.Refusal.TheVariants.{TooManyClasses, TooManyKeys}
use Rattle.set_table.specs.Types.{max_classes, max_keys}
use Rattle.set_table.specs.Rows.{Rows, table_of}
use Rattle.set_table.specs.Filled.{refusing, limited}

module _ (s : Rows) where
  pub over_classes : max_classes < length s.classes → limited s ≡ refusing TooManyClasses
  unfolding limited
  over_classes l = rw (lt-ltb max_classes (length s.classes) l)

  module _ (l : length s.classes ≤ max_classes) where
    pub over_keys : max_keys < length s.keys → limited s ≡ refusing TooManyKeys
    unfolding limited
    over_keys k = rw (le-ltb max_classes (length s.classes) l, lt-ltb max_keys (length s.keys) k)

    pub fits : length s.keys ≤ max_keys → limited s ≡ record { outcome = Ok tt; set = table_of s }
    unfolding limited
    fits k = rw (le-ltb max_classes (length s.classes) l, le-ltb max_keys (length s.keys) k)
