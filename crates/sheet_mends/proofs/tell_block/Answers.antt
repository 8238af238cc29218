use lib.Seq.{slice}
use Rattle.set_table.specs.Types.{two}
use Rattle.sheet_index.specs.Inner.{set_record}
use Rattle.sheet_mends.proofs.Tells as laws
use borrow.Author.Rules.{rules}
use Rattle.sheet_mends.proofs.tell_block.Goals as goal

pub returns-in-Err : goal.returns-in-Err
returns-in-Err c = let r = laws.block_none c.args.index.now (record { so = c.args.so; table = c.args.table.now; out = c.args.out.now }) (set_record (two c.args.text.now (slice 0 c.args.block.joined c.args.join.now)) c.args.n c.args.block.lines c.args.at c.args.block.set) c.verdict_of.ensures.value c.in-Err.is in record { out_after = r.0; at_most = r.1 }

pub returns-in-Ok : goal.returns-in-Ok
returns-in-Ok c = let r = laws.block_some c.args.index.now (record { so = c.args.so; table = c.args.table.now; out = c.args.out.now }) (set_record (two c.args.text.now (slice 0 c.args.block.joined c.args.join.now)) c.args.n c.args.block.lines c.args.at c.args.block.set) c.verdict_of.ensures.value c.in-Ok.is (rw (← c.bytes_of-joined.ensures) (c.tell_set.ensures.out_after, c.tell_set.ensures.at_most)) in record { out_after = r.0; at_most = r.1 }
