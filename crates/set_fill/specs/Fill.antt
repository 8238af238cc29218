-- The set of a payload and of a line of blocks: what the items put into it, within the limits.
use Rattle.std.specs.Prelude.{ℕ, true, cond, List, [], ◌∷◌}
use Rattle.std.proofs.Math.Seq.{slice}
use Rattle.base_bytes.specs.declared.Mode.{Mode}
use Rattle.block_grammar.specs.Computed.{read_payload}
use Rattle.block_grammar.specs.Grammar.{Reading}
use Rattle.block_chain.specs.Computed.{read_blocks}
use Rattle.base_refusals.specs.declared.Refusal.TheVariants.{TextTooLong, NoReading}
use Rattle.base_refusals.specs.Numbers.{too_long}
use Rattle.base_refusals.specs.Orders.{Ground}
use Rattle.set_table.specs.Types.{Texts, one}
use Rattle.set_table.specs.Rows.{no_rows, with_puts}
use Rattle.set_table.specs.Puts.{puts_in}
use Rattle.set_table.specs.declared.Filled.{Filled}
use Rattle.set_table.specs.Filled.{refusing, limit_order, limited}

-- "no reading of the payload exists"
abbrev pub filled_by : Texts → Reading → Filled
filled_by t Reading.refused = refusing NoReading
filled_by t (Reading.items is) = limited (with_puts t no_rows (puts_in is))

-- ".., 5, 6, 7"
abbrev pub reading_order : Texts → Reading → List Ground
reading_order t Reading.refused = Ground.given NoReading true ∷ []
reading_order t (Reading.items is) = limit_order (with_puts t no_rows (puts_in is))

-- the payload s, whose first byte stands at `at` of the text t
unfoldable pub filled_of : Mode → Texts → ℕ → List ℕ → Filled
filled_of m t at s = filled_by t (read_payload m at s)

-- the payload from `at` up to `end` of a text; "text above 65,535 bytes" is refused, since its places don't fit a range
unfoldable pub fill_at : Mode → List ℕ → ℕ → ℕ → Filled
fill_at m t at end = cond (too_long t) (refusing TextTooLong) (filled_of m (one t) at (slice at end t))

-- the line of blocks from `from` up to `to` of a text. "elsewhere, not a good line": asked of the whole line, before its items are counted. So this is
-- shut out: "Reporting 6 for an ungrammatical chain whose early blocks overflow."
unfoldable pub chain_at : Mode → List ℕ → ℕ → ℕ → Filled
chain_at m t from to = cond (too_long t) (refusing TextTooLong) (filled_by (one t) (read_blocks m from (slice from to t)))

-- their orders, 1 and then that of the reading
module _ (m : Mode) (t : List ℕ) (from to : ℕ) where
  abbrev pub fill_order : List Ground
  fill_order = Ground.given TextTooLong (too_long t) ∷ reading_order (one t) (read_payload m from (slice from to t))

  abbrev pub chain_order : List Ground
  chain_order = Ground.given TextTooLong (too_long t) ∷ reading_order (one t) (read_blocks m from (slice from to t))
