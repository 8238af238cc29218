use Prim.Native.Nat.{◌-◌}
use native.Mathlib.Omega.{arith}
use borrow.Author.Rules.{rules}
use mathlib.Core.Path.{sym, ◌∙◌}
use Rattle.sheet_valves.specs.Tables.{variant_count}
use Rattle.sheet_valves.proofs.Pairs as laws
use Rattle.sheet_valves.proofs.first_pair.Goals as goal

pub loop-v-init : goal.loop-v-init
loop-v-init c = laws.seeks_start _

pub returns-then-row_repeats : goal.returns-then-row_repeats
returns-then-row_repeats c = laws.seeks_stop (c.loop-v.invariant) (omega arith) (sym (c.row_repeats.ensures) ∙ c.if-row_repeats.true)

pub loop-v-preserved : goal.loop-v-preserved
loop-v-preserved c = laws.seeks_go (c.loop-v.invariant) (omega arith) (sym (c.row_repeats.ensures) ∙ c.if-row_repeats.false)

pub returns : goal.returns
returns c = laws.seeks_end (c.loop-v.invariant) (omega arith)
