use Prim.Native.Nat.{◌-◌}
use lib.ListN.{length-map}
use mathlib.Core.Path.{sym, ◌∙◌}
use native.Mathlib.Omega.{arith}
use borrow.Author.Rules.{rules}
use Rattle.sheet_totals.specs.Totals.{total_places}
use Rattle.sheet_totals.proofs.Adding as laws
use Rattle.sheet_totals.proofs.add_totals.Goals as goal

pub loop-i-init : goal.loop-i-init
loop-i-init c = laws.adds_start _ _ (c.well_formed.0.1.1.0.1.0.1) (c.well_formed.1.0.1.1.0.1.0.1)

pub returns-then-is_full : goal.returns-then-is_full
returns-then-is_full c = laws.added-said _ _ (laws.adds_stop c.loop-i.invariant (omega arith) (sym c.is_full.ensures ∙ c.if-is_full.true))

pub together-requires : goal.together-requires
together-requires c = sym c.is_full.ensures ∙ c.if-is_full.false

pub loop-i-preserved : goal.loop-i-preserved
loop-i-preserved c =
    rw c.together.ensures
    (laws.adds_go c.loop-i.invariant (omega arith) (sym c.is_full.ensures ∙ c.if-is_full.false))

pub returns : goal.returns
returns c = laws.added-said _ _ (laws.adds_end c.loop-i.invariant (omega arith))
