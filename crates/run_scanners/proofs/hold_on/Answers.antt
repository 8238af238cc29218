use mathlib.Core.Path.{refl, sym, ◌∙◌}
use native.Mathlib.Omega.{arith}
use Rattle.base_refusals.proofs.Said.{said}
use Rattle.run_scanners.specs.Scanners.{hold_paper}
use Rattle.run_scanners.proofs.Laws as laws
use Rattle.run_scanners.proofs.hold_on.Goals as goal

pub returns-in_default : goal.returns-in_default
returns-in_default c = said hold_paper refl (rw c.in_default.is (sym (laws.dead_stays _)))

pub loop-b-init : goal.loop-b-init
loop-b-init c = record { rest = refl }

pub returns-in-None : goal.returns-in-None
returns-in-None c = said hold_paper refl (rw c.in-Some.is (laws.holds_dead c.loop-b.invariant (omega arith) (sym c.in-None.is ∙ c.held_step.ensures)))

pub loop-b-preserved : goal.loop-b-preserved
loop-b-preserved c = laws.holds_go c.loop-b.invariant (omega arith) (sym c.in-Some-held_step.is ∙ c.held_step.ensures)

pub returns : goal.returns
returns c = said hold_paper refl (rw c.in-Some.is (laws.holds_end c.loop-b.invariant (omega arith)))
