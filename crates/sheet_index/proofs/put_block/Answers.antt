use lib.Seq.{slice}
use Rattle.set_table.specs.Types.{two}
use Rattle.sheet_index.specs.Inner.{set_record}
use Rattle.sheet_index.proofs.Builds as laws
use borrow.Author.Rules.{rules}
use Rattle.sheet_index.proofs.put_block.Goals as goal

pub returns-in-Err : goal.returns-in-Err
returns-in-Err c = let r = laws.puts_none (set_record (two c.args.text.now (slice 0 c.args.block.joined c.args.join.now)) c.args.n c.args.block.lines c.args.at c.args.block.set) c.verdict_of.ensures.value c.args.out.now c.args.k c.in-Err.is in record { value = r.0; out_after = r.1 }

pub returns-in-Ok : goal.returns-in-Ok
returns-in-Ok c = let r = laws.puts_some (set_record (two c.args.text.now (slice 0 c.args.block.joined c.args.join.now)) c.args.n c.args.block.lines c.args.at c.args.block.set) c.verdict_of.ensures.value c.args.out.now c.args.k c.in-Ok.is (rw (← c.bytes_of-joined.ensures) c.put_set.ensures.value) (rw (← c.bytes_of-joined.ensures) c.put_set.ensures.out_after) in record { value = r.0; out_after = r.1 }
