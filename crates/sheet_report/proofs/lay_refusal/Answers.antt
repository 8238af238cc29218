use native.Mathlib.Omega.{arith}
use Rattle.sheet_report.proofs.Entries as entries
use borrow.Author.Rules.{rules}
use Rattle.sheet_report.proofs.lay_refusal.Goals as goal

pub returns-then-out-lt-LINE : goal.returns-then-out-lt-LINE
returns-then-out-lt-LINE c = let r = entries.refusal_none c.args.out.now c.args.why (omega (arith, c.if-out-lt-LINE.true)) c.refused.ensures in record { value = r.0; out_after = r.1 }

pub returns : goal.returns
returns c = let r = entries.refusal_laid c.args.out.now c.args.why (omega (arith, c.if-out-lt-LINE.false)) c.lay_refused.ensures c.refused-2.ensures in record { value = r.0; out_after = r.1 }
