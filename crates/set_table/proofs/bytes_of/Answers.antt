use native.Mathlib.Omega.{arith}
use Rattle.set_table.proofs.Ranges as ranges
use borrow.Author.Rules.{rules}
use Rattle.set_table.proofs.bytes_of.Goals as goal

pub returns-then-from-to : goal.returns-then-from-to
returns-then-from-to c =
    ranges.whole c.args.text.now c.args.from c.args.to

pub returns-then-to-text : goal.returns-then-to-text
returns-then-to-text c =
    ranges.back c.args.text.now c.args.from c.args.to (omega arith)

pub returns-then-from-text : goal.returns-then-from-text
returns-then-from-text c =
    ranges.over c.args.text.now c.args.from c.args.to (omega arith)

pub returns : goal.returns
returns c =
    ranges.past c.args.text.now c.args.from c.args.to (omega arith)
