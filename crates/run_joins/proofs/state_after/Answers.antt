use Rattle.run_joins.proofs.Steps as laws
use borrow.Author.Rules.{rules}
use Rattle.run_joins.proofs.state_after.Goals as goal

pub returns : goal.returns
returns c =
    laws.state_is _ c.args.st c.args.pad c.args.line.now c.requires c.brace_after.ensures c.open_quote_at_end.ensures.value c.hold_line.ensures
