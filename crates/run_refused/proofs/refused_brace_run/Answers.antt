use lib.ListN.{length}
use Rattle.run_refused.proofs.Answers as laws
use Rattle.run_refused.proofs.Numbers.{said-run}
use borrow.Author.Rules.{rules}
use Rattle.run_refused.proofs.refused_brace_run.Goals as goal

pub refused_at-requires : goal.refused_at-requires
refused_at-requires c =
    (laws.passes_short c.args.text.now c.check_text.ensures.value c.in-Ok.is, laws.run_in (length c.args.join.now) c.args.text.now c.args.line c.check_text.ensures.value c.in-Ok.is c.line_of.ensures.value c.in-Some.is)

pub returns-in-Err : goal.returns-in-Err
returns-in-Err c =
    said-run c.args.join.now c.args.text.now c.args.line
    (laws.unjoined_told _ _ (laws.run_refused (length c.args.join.now) c.args.text.now c.args.line c.check_text.ensures.value c.in-Err.is) c.unjoined_run.ensures)

pub returns-in-None : goal.returns-in-None
returns-in-None c =
    said-run c.args.join.now c.args.text.now c.args.line
    (laws.unjoined_told _ _ (laws.run_missing (length c.args.join.now) c.args.text.now c.args.line c.check_text.ensures.value c.in-Ok.is c.line_of.ensures.value c.in-None.is) c.unjoined_run-in-None.ensures)

pub returns-in-Some : goal.returns-in-Some
returns-in-Some c =
    said-run c.args.join.now c.args.text.now c.args.line
    (rw (laws.run_at (length c.args.join.now) c.args.text.now c.args.line c.check_text.ensures.value c.in-Ok.is c.line_of.ensures.value c.in-Some.is) (c.refused_at.ensures.value, c.refused_at.ensures.join_after))
