use Rattle.std.proofs.lemmas.Result.{err_from_is_err_and}
use lib.Seq.{slice}
use Rattle.set_table.specs.Types.{two}
use Rattle.sheet_verdicts.proofs.Verdicts as laws
use borrow.Author.Rules.{rules}
use Rattle.sheet_verdicts.proofs.verdict_of.Goals as goal

pub returns-in_err-outcome : goal.returns-in_err-outcome
returns-in_err-outcome c =
    let p = err_from_is_err_and c.from_residual.result c.from_residual.ensures.1 in
    rw (p.1, p.2)
    (laws.by_outcome (two c.args.text.now (slice 0 c.args.block.joined c.args.join.now)) c.args.block.set c.in_err-outcome.was)

pub returns : goal.returns
returns c = laws.by_text (two c.args.text.now (slice 0 c.args.block.joined c.args.join.now)) c.args.block.set c.in_ok-outcome.was (rw (← c.bytes_of-joined.ensures) (c.room_for.ensures))
