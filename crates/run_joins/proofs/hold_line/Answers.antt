use mathlib.Core.Path.{◌∙◌, ap}
use Rattle.run_scanners.specs.Scanners.{hold_from}
use Rattle.run_joins.proofs.Steps as laws
use borrow.Author.Rules.{rules}
use Rattle.run_joins.proofs.hold_line.Goals as goal

pub returns-then-first : goal.returns-then-first
returns-then-first c =
    (c.hold_on.ensures.value) ∙ laws.hold_first (c.args.hold) (c.args.core.now) (c.if-first.true)

pub returns : goal.returns
returns c =
    c.hold_on-2.ensures.value ∙ ap (λ h. hold_from h c.args.core.now) c.hold_on-behind.ensures.value ∙ laws.hold_later c.args.hold c.args.core.now c.if-first.false
