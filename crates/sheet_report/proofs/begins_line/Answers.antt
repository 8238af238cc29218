use Rattle.sheet_report.proofs.Entries as entries
use borrow.Author.Rules.{rules}
use Rattle.sheet_report.proofs.begins_line.Goals as goal

pub returns : goal.returns
returns c = entries.behind-lf c.args.text.now c.args.at c.if-at-eq0.false
