use mathlib.Core.Path.{ap}
use mathlib.Core.Bool.{not}
use mathlib.Core.Path.{sym, ◌∙◌}
use borrow.Author.Tests.{not-true, not-false}
use Rattle.run_joins.proofs.Steps as laws
use borrow.Author.Rules.{rules}
use Rattle.run_joins.proofs.is_last.Goals as goal

pub returns-then-not-contains_close : goal.returns-then-not-contains_close
returns-then-not-contains_close c =
    laws.no_close (c.args.line.now) (c.args.hold) (sym (c.contains_close.ensures) ∙ not-true _ ((ap not c.if-not-contains_close.true)))

pub returns : goal.returns
returns c = laws.has_close c.args.line.now c.args.hold (sym c.contains_close.ensures ∙ c.if-not-contains_close.false) c.is_held.ensures
