use native.Mathlib.Omega.{arith}
use lib.ListN.{length}
use Rattle.run_refused.proofs.Answers as laws
use Rattle.run_refused.proofs.Numbers.{said_at}
use borrow.Author.Rules.{rules}
use Rattle.run_refused.proofs.refused_run_at.Goals as goal

pub returns-then-text-gt-MAX_TEXT : goal.returns-then-text-gt-MAX_TEXT
returns-then-text-gt-MAX_TEXT c = said_at c.args.join.now c.args.text.now c.args.at (laws.unjoined_told _ _ (laws.at_long (length c.args.join.now) c.args.text.now c.args.at (omega (arith, c.if-text-gt-MAX_TEXT.true))) c.unjoined_run.ensures)

pub returns-then-text-at : goal.returns-then-text-at
returns-then-text-at c =
    said_at c.args.join.now c.args.text.now c.args.at
    (laws.unjoined_told _ _ (laws.at_end (length c.args.join.now) c.args.text.now c.args.at (omega (arith, c.if-text-gt-MAX_TEXT.false)) (omega (arith, c.if-text-at.true))) c.unjoined_run-then-text-at.ensures)

pub returns : goal.returns
returns c =
    said_at c.args.join.now c.args.text.now c.args.at
    (rw (laws.at_short (length c.args.join.now) c.args.text.now c.args.at (omega (arith, c.if-text-gt-MAX_TEXT.false))) (c.refused_at.ensures.value, c.refused_at.ensures.join_after))
