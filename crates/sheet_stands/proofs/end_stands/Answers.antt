use Rattle.base_bytes.specs.Bytes.{lf, tab}
use mathlib.Core.List.{◌∷◌, [], ◌++◌}
use Rattle.set_marks.specs.Marks.{bytes_in}
use Rattle.sheet_stands.proofs.Fronts as laws
use borrow.Author.Rules.{rules}
use Rattle.sheet_stands.proofs.end_stands.Reads as reads
use Rattle.sheet_stands.proofs.end_stands.Lts as lts
use Rattle.sheet_stands.proofs.id_stands.Reads as id-stands-reads
use Rattle.sheet_stands.proofs.end_stands.Goals as goal

-- src/lib.rt:45:13
pub returns-then-index-at-ne9 : goal.returns-then-index-at-ne9
returns-then-index-at-ne9 c = rw c.if-given.true (laws.no_byte c.args.index.now c.args.at tab ((bytes_in c.args.quoted c.args.raw.now) ++ (lf ∷ [])) c.requires c.if-index-at-ne9.true)

-- src/lib.rt:47:9
pub returns-then-given : goal.returns-then-given
returns-then-given c = rw c.if-given.true (laws.a_byte c.args.index.now c.args.at tab ((bytes_in c.args.quoted c.args.raw.now) ++ (lf ∷ [])) c.requires c.if-index-at-ne9.false c.id_stands.ensures)

-- src/lib.rt:39:1
pub returns : goal.returns
returns c = rw c.if-given.false (laws.last_byte c.args.index.now c.args.at lf c.requires)
