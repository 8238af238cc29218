use Rattle.sheet_records.proofs.Lines as laws
use borrow.Author.Rules.{rules}
use Rattle.sheet_records.proofs.id_len.Goals as goal

pub returns-then-quoted : goal.returns-then-quoted
returns-then-quoted c = laws.len_quoted _ _ c.if-quoted.true c.unescaped_len.ensures

pub returns : goal.returns
returns c = laws.len_plain _ _ c.if-quoted.false
