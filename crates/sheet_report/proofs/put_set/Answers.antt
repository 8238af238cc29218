use Rattle.set_canon.specs.Canon.{canon}
use Rattle.set_table.specs.Types.{two}
use Rattle.set_table.specs.Rows.{meaning_of}
use Rattle.sheet_report.proofs.Laying as laying
use borrow.Author.Rules.{rules}
use Rattle.sheet_report.proofs.put_set.Goals as goal

pub returns : goal.returns
returns c = let r = laying.set-put (canon (meaning_of (two c.args.text.now c.args.joined.now) c.args.set)) c.args.out.now c.args.at c.requires c.write_set.ensures.value c.write_set.ensures.out_after in record { value = r.0; out_after = r.1 }
