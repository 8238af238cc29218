use mathlib.Core.Path.{sym, ◌∙◌, ap}
use lib.Seq.{sets}
use Rattle.sheet_records.proofs.Lines as laws
use borrow.Author.Rules.{rules}
use Rattle.sheet_records.proofs.put_header.Goals as goal

pub returns : goal.returns
returns c = c.put_bytes.ensures ∙ ap (sets _ 0) (sym laws.header_is)
