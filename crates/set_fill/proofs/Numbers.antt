-- The numbers of `fill` and `fill_chain`: 1 of the text, 5 where no reading exists, then 6 and 7, else none.
-- Assumes nothing.
use mathlib.Core.Path.{◌≡◌, refl}
use mathlib.Core.Bool.{cond}
use mathlib.Core.List.{List, [], ◌∷◌}
use Prim.Native.Nat.{ℕ}
use lib.Seq.{slice}
use Rattle.base_bytes.specs.declared.Mode.{Mode}
use Rattle.block_grammar.specs.Computed.{read_payload}
use Rattle.block_grammar.specs.Grammar.{Reading}
use Rattle.block_chain.specs.Computed.{read_blocks}
use Rattle.base_refusals.specs.Numbers.{too_long, outcome_no}
use Rattle.base_refusals.specs.Orders.{Ground, in_order, order_no}
use Rattle.base_refusals.specs.declared.Refusal.TheVariants.{TextTooLong}
use Rattle.set_table.specs.Types.{Texts, one}
use Rattle.set_table.specs.Rows.{no_rows, with_puts}
use Rattle.set_table.specs.Puts.{puts_in}
use Rattle.set_table.specs.Filled.{refusing}
use Rattle.set_table.proofs.Numbers.{behind_no, limited_no}
use Rattle.set_fill.specs.Fill.{filled_by, filled_of, reading_order, fill_at, chain_at, fill_order, chain_order}

pub filled_no : (t : Texts) (r : Reading) → outcome_no (filled_by t r).outcome ≡ order_no (reading_order t r)
unfolding order_no
filled_no t Reading.refused = refl
filled_no t (Reading.items is) = limited_no (with_puts t no_rows (puts_in is))

module _ (m : Mode) (t : List ℕ) (from to : ℕ) where
  -- 1 of the text, then what is read
  sized_no : (r : Reading) → outcome_no (cond (too_long t) (refusing TextTooLong) (filled_by (one t) r)).outcome ≡ order_no (Ground.given TextTooLong (too_long t) ∷ reading_order (one t) r)
  unfolding in_order
  sized_no r = behind_no (Ground.given TextTooLong (too_long t) ∷ []) (reading_order (one t) r) (filled_by (one t) r) (filled_no (one t) r)

  pub fill_no : outcome_no (fill_at m t from to).outcome ≡ order_no (fill_order m t from to)
  unfolding fill_at filled_of
  fill_no = sized_no (read_payload m from (slice from to t))

  pub chain_no : outcome_no (chain_at m t from to).outcome ≡ order_no (chain_order m t from to)
  unfolding chain_at
  chain_no = sized_no (read_blocks m from (slice from to t))
