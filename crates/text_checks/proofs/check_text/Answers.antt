use mathlib.Core.Path.{sym, ◌∙◌}
use borrow.Author.Tests.{not-true, not-false, lt-ltb, le-ltb}
use Rattle.base_refusals.specs.Numbers.{max_text, outcome_no}
use Rattle.base_refusals.proofs.Said.{said}
use Rattle.text_checks.proofs.CheckNumbers.{check_no}
use Rattle.text_checks.specs.Check.{check_of}
use borrow.Author.Rules.{rules}
use Rattle.text_checks.proofs.check_text.Goals as goal

pub returns-then-text-gt-MAX_TEXT : goal.returns-then-text-gt-MAX_TEXT
unfolding check_of
returns-then-text-gt-MAX_TEXT c = said outcome_no (check_no c.args.text.now) (simp (lt-ltb max_text _ c.if-text-gt-MAX_TEXT.true))

pub returns-then-not-is_utf8 : goal.returns-then-not-is_utf8
unfolding check_of
returns-then-not-is_utf8 c = said outcome_no (check_no c.args.text.now) (simp (le-ltb max_text _ c.if-text-gt-MAX_TEXT.false, sym c.is_utf8.ensures ∙ c.if-not-is_utf8.true))

pub returns : goal.returns
unfolding check_of
returns c = said outcome_no (check_no c.args.text.now) (simp (le-ltb max_text _ c.if-text-gt-MAX_TEXT.false, sym c.is_utf8.ensures ∙ c.if-not-is_utf8.false))
