use Rattle.sheet_index.proofs.Rows as laws
use borrow.Author.Rules.{rules}
use Rattle.sheet_index.proofs.has_id.Goals as goal

pub returns-then-from-eq0 : goal.returns-then-from-eq0
returns-then-from-eq0 c = laws.id_none _ _ _ _ c.if-from-eq0.true

pub returns : goal.returns
returns c = laws.id_some _ _ _ _ c.if-from-eq0.false c.bytes_of.ensures c.same_bytes.ensures
