use Rattle.run_spots.proofs.Leaves as laws
use borrow.Author.Rules.{rules}
use Rattle.run_spots.proofs.opens_brace.Goals as goal

pub returns-then-line-from : goal.returns-then-line-from
returns-then-line-from c = laws.opens_none c.args.line.now (c.trim_ascii_start-from.ensures) (c.if-line-from.true)

pub returns : goal.returns
returns c = laws.opens_some c.args.line.now (c.trim_ascii_start-from.ensures) (c.if-line-from.false)
