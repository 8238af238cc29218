use Rattle.run_joins.proofs.Steps as laws
use borrow.Author.Rules.{rules}
use Rattle.run_joins.proofs.passes_tests.Goals as goal

pub returns-then-core-eq0 : goal.returns-then-core-eq0
returns-then-core-eq0 c =
    laws.blank_refuses (c.args.st) (c.args.pad) (c.args.line.now) (c.requires) (c.if-core-eq0.true)

pub returns-then-st-eq0 : goal.returns-then-st-eq0
returns-then-st-eq0 c = laws.first_passes c.args.st c.args.pad c.args.line.now c.requires c.if-core-eq0.false c.if-st-eq0.true

pub returns : goal.returns
returns c = laws.later-passes c.args.st c.args.pad c.args.line.now c.requires c.if-core-eq0.false c.if-st-eq0.false c.goes_on.ensures
