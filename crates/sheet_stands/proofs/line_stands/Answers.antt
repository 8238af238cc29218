use mathlib.Core.Path.{ap}
use mathlib.Core.Bool.{not}
use Rattle.sheet_records.specs.Writing.{raw_id}
use Rattle.sheet_stands.proofs.Fronts as laws
use native.Mathlib.Omega.{arith}
use borrow.Author.Rules.{rules}
use Rattle.sheet_stands.proofs.line_stands.Reads as reads
use Rattle.sheet_stands.proofs.line_stands.Lts as lts
use Rattle.base_lists.proofs.same_bytes.Reads as same-bytes-reads
use Rattle.set_table.proofs.bytes_of.Reads as bytes-of-reads
use Rattle.sheet_records.proofs.numbers_len.Reads as numbers-len-reads
use Rattle.sheet_records.proofs.put_record.Reads as put-record-reads
use Rattle.sheet_stands.proofs.end_stands.Reads as end-stands-reads
use Rattle.sheet_stands.proofs.line_stands.Goals as goal

-- src/lib.rt:69:9
pub returns-then-index-at : goal.returns-then-index-at
returns-then-index-at c = laws.past_end c.args.index.now c.args.at c.args.line c.args.count c.args.offset (raw_id c.args.given c.args.quoted c.args.raw.now) c.if-index-at.true

-- src/lib.rt:72:9
pub returns-then-index-at-2 : goal.returns-then-index-at-2
returns-then-index-at-2 c = laws.few c.args.index.now c.args.at c.args.line c.args.count c.args.offset (raw_id c.args.given c.args.quoted c.args.raw.now) c.numbers_len-n.ensures (omega arith) c.if-index-at-2.true

-- src/lib.rt:78:9
pub returns-then-not-same_bytes : goal.returns-then-not-same_bytes
returns-then-not-same_bytes c = laws.differs c.args.index.now c.args.at c.args.line c.args.count c.args.offset (raw_id c.args.given c.args.quoted c.args.raw.now) c.numbers_len-n.ensures (omega arith) c.put_record.ensures.out_after (laws.numbers_le c.args.line c.args.count c.args.offset (omega arith) (omega arith) (omega arith)) c.bytes_of.ensures c.bytes_of-2.ensures c.same_bytes.ensures (ap not c.if-not-same_bytes.true)

-- src/lib.rt:53:1
pub returns : goal.returns
returns c = laws.ends c.args.index.now c.args.at c.args.line c.args.count c.args.offset (raw_id c.args.given c.args.quoted c.args.raw.now) c.numbers_len-n.ensures (omega arith) c.put_record.ensures.out_after (laws.numbers_le c.args.line c.args.count c.args.offset (omega arith) (omega arith) (omega arith)) c.bytes_of.ensures c.bytes_of-2.ensures c.same_bytes.ensures (ap not c.if-not-same_bytes.false) c.end_stands.ensures
