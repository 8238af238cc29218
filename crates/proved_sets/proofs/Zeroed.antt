-- "Rows past the counts are zero in every set handed out", that of a refusal included.
-- Assumes nothing.
use mathlib.Core.List.{List}
use Prim.Native.Nat.{ℕ}
use Rattle.base_bytes.specs.declared.Mode.{Mode}
use Rattle.set_table.specs.Types.{Texts, empty_set}
use Rattle.set_table.specs.Rows.{Rows, no_rows, table_of}
use Rattle.set_table.specs.declared.Attrs.{Attrs}
use Rattle.set_table.specs.declared.Filled.{Filled}
use Rattle.set_fill.specs.Fill.{fill_at, chain_at}
use Rattle.set_merge.specs.Merge.{merge_of}
use Rattle.proved_sets.specs.HandedOut.{RestZero, Settled}
use Rattle.proved_sets.proofs.Settled.{fill_settled, chain_settled, merge_settled}
use Rattle.proved_sets.proofs.TableWhole.{past_id, past_classes, past_keys, past_slots, empty_table}
pub use Rattle.proved_sets.specs.HandedOut.{Zeroed}

pub table_zeroed : (s : Rows) → Zeroed (table_of s)
table_zeroed s = record { id = past_id s; classes = past_classes s; keys = past_keys s; slots = past_slots s }

pub empty_zeroed : Zeroed empty_set
empty_zeroed = rw (← empty_table) (table_zeroed no_rows)

-- whatever is a refusal or a set that rows were put into
settled_zeroed : {f : Filled} → Settled f → Zeroed f.set
settled_zeroed (Settled.refused r) = empty_zeroed
settled_zeroed (Settled.done s) = table_zeroed s

module _ (m : Mode) (t : List ℕ) (from to : ℕ) where
  pub fill_zeroed : Zeroed (fill_at m t from to).set
  fill_zeroed = settled_zeroed (fill_settled m t from to)

  pub chain_zeroed : Zeroed (chain_at m t from to).set
  chain_zeroed = settled_zeroed (chain_settled m t from to)

pub merge_zeroed : (t : Texts) (a b : Attrs) → Zeroed (merge_of t a b).set
merge_zeroed t a b = settled_zeroed (merge_settled t a b)

pub rest_zero : RestZero
rest_zero = record { fill = fill_zeroed; chain = chain_zeroed; merge = merge_zeroed }
