use lib.Seq.{slice}
use Rattle.set_table.specs.Types.{two}
use Rattle.sheet_index.specs.Inner.{set_record}
use Rattle.sheet_index.proofs.Builds as laws
use borrow.Author.Rules.{rules}
use Rattle.sheet_index.proofs.added.Goals as goal

pub returns-in-Err : goal.returns-in-Err
returns-in-Err c =
    laws.adds_none (set_record (two c.args.text.now (slice 0 c.args.block.joined c.args.join.now)) c.args.n c.args.block.lines c.args.at c.args.block.set) c.verdict_of.ensures.value c.in-Err.is

pub returns-in-Ok : goal.returns-in-Ok
returns-in-Ok c =
    laws.adds_some (set_record (two c.args.text.now (slice 0 c.args.block.joined c.args.join.now)) c.args.n c.args.block.lines c.args.at c.args.block.set) c.verdict_of.ensures.value c.in-Ok.is (rw (← c.bytes_of-joined.ensures) c.set_len-bytes.ensures)
