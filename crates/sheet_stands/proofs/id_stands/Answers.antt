use Rattle.set_marks.specs.Marks.{bytes_in}
use Rattle.sheet_stands.proofs.Fronts as laws
use native.Mathlib.Omega.{arith}
use borrow.Author.Rules.{rules}
use Rattle.sheet_stands.proofs.id_stands.Reads as reads
use Rattle.sheet_stands.proofs.id_stands.Lts as lts
use Rattle.set_table.proofs.bytes_of.Reads as bytes-of-reads
use Rattle.sheet_records.proofs.id_len.Reads as id-len-reads
use Rattle.sheet_stands.proofs.same_id.Reads as same-id-reads
use Rattle.sheet_stands.proofs.id_stands.Goals as goal

-- src/lib.rt:30:9
pub returns-then-index-at : goal.returns-then-index-at
returns-then-index-at c = laws.no_room c.args.index.now c.args.at (bytes_in c.args.quoted c.args.raw.now) c.id_len-m.ensures c.requires c.if-index-at.true

-- src/lib.rt:33:9
pub returns-then-index-at-ne10 : goal.returns-then-index-at-ne10
returns-then-index-at-ne10 c = laws.no_lf_lem c.args.index.now c.args.at (bytes_in c.args.quoted c.args.raw.now) c.id_len-m.ensures (omega (arith, c.requires)) c.if-index-at-ne10.true

-- src/lib.rt:24:1
pub returns : goal.returns
returns c = laws.by_bytes c.args.index.now c.args.at (bytes_in c.args.quoted c.args.raw.now) c.id_len-m.ensures (omega (arith, c.requires)) c.if-index-at-ne10.false c.bytes_of.ensures c.same_id.ensures
