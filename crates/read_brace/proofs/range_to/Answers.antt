use mathlib.Core.Path.{sym, ◌∙◌}
use borrow.Author.Tests.{not-true, not-false}
use Rattle.read_brace.proofs.Laws as laws
use borrow.Author.Rules.{rules}
use Rattle.read_brace.proofs.range_to.Goals as goal

pub returns-then-not-is_utf8 : goal.returns-then-not-is_utf8
returns-then-not-is_utf8 c = laws.part_bad c.args.text.now c.args.place c.args.end (sym c.is_utf8.ensures ∙ c.if-not-is_utf8.true)

pub returns : goal.returns
returns c = laws.part_good c.args.text.now c.args.place c.args.end (sym c.is_utf8.ensures ∙ c.if-not-is_utf8.false)
