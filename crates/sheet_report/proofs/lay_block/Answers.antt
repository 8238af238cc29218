use Rattle.sheet_report.proofs.Lays as lays
use borrow.Author.Rules.{rules}
use Rattle.sheet_report.proofs.lay_block.Goals as goal

pub returns-in-Err : goal.returns-in-Err
returns-in-Err c =
    lays.of_refused c.args.n c.args.block.lines c.args.text.now c.args.join.now c.args.block.joined c.args.block.set c.in-Err.is c.lay_refused.ensures

pub returns-in-Ok : goal.returns-in-Ok
returns-in-Ok c =
    lays.of_done c.args.n c.args.block.lines c.args.text.now c.args.join.now c.args.block.joined c.args.block.set c.in-Ok.is c.bytes_of-joined.ensures c.lay_set.ensures
