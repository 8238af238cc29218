-- What `fill`, `fill_chain` and `merge_attrs` answer is a refusal with the empty set, or the table of the rows that were put together.
-- Assumes nothing.
use Rattle.std.specs.Prelude.{Err, Ok, Result}
use mathlib.Core.Bool.{Bool, true, false, cond, ◌&&◌}
use mathlib.Core.List.{List}
use Prim.Native.Nat.{ℕ}
use lib.Dec.{ltb}
use lib.ListN.{length}
use lib.Seq.{slice}
use Rattle.base_bytes.specs.declared.Mode.{Mode}
use Rattle.block_grammar.specs.Computed.{read_payload}
use Rattle.block_grammar.specs.Grammar.{Reading}
use Rattle.block_chain.specs.Computed.{read_blocks}
use Rattle.base_refusals.specs.Numbers.{max_text}
use Rattle.base_refusals.specs.declared.Refusal.{Refusal}
use Rattle.base_refusals.specs.declared.Refusal.TheVariants.{TextTooLong, NoReading, TooManyClasses, TooManyKeys, NotWellFormed}
use Rattle.set_table.specs.Types.{Texts, one, max_classes, max_keys}
use Rattle.set_table.specs.Rows.{Rows, no_rows, with_puts, rows_in}
use Rattle.set_table.specs.Puts.{puts_in}
use Rattle.set_table.specs.declared.Filled.{Filled}
use Rattle.set_table.specs.Filled.{refusing, limited}
use Rattle.set_fill.specs.Fill.{filled_by, filled_of, fill_at, chain_at}
use Rattle.text_checks.specs.Check.{both_of}
use Rattle.set_table.specs.declared.Attrs.{Attrs}
use Rattle.set_wellformed.specs.WellFormed.{table_ok}
use Rattle.set_merge.specs.Merge.{puts_by, merged_by, merge_of}
use Rattle.proved_sets.specs.HandedOut.{RefusalsEmpty, Settled}

either : (b : Bool) {f g : Filled} → Settled f → Settled g → Settled (cond b f g)
either true h k = h
either false h k = k

unless : (b : Bool) (r : Refusal) {f : Filled} → Settled f → Settled (cond b (refusing r) f)
unless b r h = either b (Settled.refused r) h

limited-settled : (s : Rows) → Settled (limited s)
unfolding limited
limited-settled s =
    unless (ltb max_classes (length s.classes)) TooManyClasses
    (unless (ltb max_keys (length s.keys)) TooManyKeys (Settled.done s))

reading_settled : (t : Texts) (r : Reading) → Settled (filled_by t r)
reading_settled t Reading.refused = Settled.refused NoReading
reading_settled t (Reading.items is) = limited-settled (with_puts t no_rows (puts_in is))

module _ (m : Mode) (t : List ℕ) (from to : ℕ) where
  pub fill_settled : Settled (fill_at m t from to)
  unfolding fill_at filled_of
  fill_settled = unless (ltb max_text (length t)) TextTooLong (reading_settled (one t) (read_payload m from (slice from to t)))

  pub chain_settled : Settled (chain_at m t from to)
  unfolding chain_at
  chain_settled = unless (ltb max_text (length t)) TextTooLong (reading_settled (one t) (read_blocks m from (slice from to t)))

pub merge_settled : (t : Texts) (a b : Attrs) → Settled (merge_of t a b)
unfolding merge_of
merge_settled t a b = go (both_of t.first t.second)
  where
    go : (c : Result (Unit {0}) Refusal) → Settled (merged_by c t a b)
    go (Err r) = Settled.refused r
    go (Ok _) = either (table_ok t a && table_ok t b) (limited-settled (with_puts t (rows_in a) (puts_by (rows_in b)))) (Settled.refused NotWellFormed)

pub refusals_empty : RefusalsEmpty
refusals_empty = record { fill = fill_settled; chain = chain_settled; merge = merge_settled }
