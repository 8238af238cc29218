use Rattle.sheet_records.specs.Writing.{raw_id}
use Rattle.sheet_mends.proofs.Tells as laws
use borrow.Author.Rules.{rules}
use Rattle.sheet_mends.proofs.tell.Goals as goal

pub returns : goal.returns
returns c =
    laws.told c.args.index.now (record { so = c.args.so; table = c.args.table.now; out = c.args.out.now })
    (record { line = c.args.line; count = c.args.count; offset = c.args.offset; id = raw_id c.args.given c.args.quoted c.args.raw.now })
    c.row_of-row.ensures
    c.stands_too-good.ensures c.put_row.ensures
    c.put_record.ensures.out_after
