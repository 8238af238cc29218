use mathlib.Core.Path.{ap}
use mathlib.Core.Bool.{not}
use Rattle.sheet_edits.proofs.Walks as laws
use borrow.Author.Rules.{rules}
use Rattle.sheet_edits.proofs.is_flat.Reads as reads
use Rattle.sheet_edits.proofs.is_flat.Lts as lts
use Rattle.base_bytes.proofs.is_indent.Reads as is-indent-reads
use Rattle.sheet_edits.proofs.is_flat.Goals as goal

-- src/lib.rt:90:9
pub returns-then-not-fresh : goal.returns-then-not-fresh
returns-then-not-fresh c = laws.flat_stale c.args.fresh c.args.b (ap not c.if-not-fresh.true)

-- src/lib.rt:86:1
pub returns : goal.returns
returns c = laws.flat_fresh c.args.fresh c.args.b (ap not c.if-not-fresh.false) c.is_indent.ensures
