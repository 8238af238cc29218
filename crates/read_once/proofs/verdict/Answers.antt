use mathlib.Core.Path.{◌∙◌}
use native.Mathlib.Numerals.{add-one}
use borrow.Author.Tests.{not-true, not-false}
use Rattle.read_once.proofs.Ends as ends
use borrow.Author.Rules.{rules}
use Rattle.read_once.proofs.verdict.Reads as reads
use Rattle.read_once.proofs.verdict.Lts as lts
use Rattle.text_utf8.proofs.is_utf8.Reads as is-utf8-reads
use Rattle.read_once.proofs.verdict.Goals as goal

-- src/lib.rt:616:9
pub returns-then-not-is_utf8 : goal.returns-then-not-is_utf8
returns-then-not-is_utf8 c = rw (ends.told c.args.text.now c.args.place c.args.e c.is_utf8.ensures ∙ c.if-not-is_utf8.true)

-- src/lib.rt:619:9
pub returns-then-not-some : goal.returns-then-not-some
returns-then-not-some c = rw (ends.told c.args.text.now c.args.place c.args.e c.is_utf8.ensures ∙ c.if-not-is_utf8.false, c.if-not-some.true)

-- src/lib.rt:622:9
pub returns-then-not-passes : goal.returns-then-not-passes
returns-then-not-passes c = rw (ends.told c.args.text.now c.args.place c.args.e c.is_utf8.ensures ∙ c.if-not-is_utf8.false, c.if-not-some.false, c.if-not-passes.true)

-- src/lib.rt:625:9
pub returns-then-many : goal.returns-then-many
returns-then-many c = rw (ends.told c.args.text.now c.args.place c.args.e c.is_utf8.ensures ∙ c.if-not-is_utf8.false, c.if-not-some.false, c.if-not-passes.false, c.if-many.true)

-- src/lib.rt:628:9
pub returns-then-over : goal.returns-then-over
returns-then-over c = rw (ends.told c.args.text.now c.args.place c.args.e c.is_utf8.ensures ∙ c.if-not-is_utf8.false, c.if-not-some.false, c.if-not-passes.false, c.if-many.false, c.if-over.true)

-- src/lib.rt:603:1
pub returns : goal.returns
returns c = rw (ends.told c.args.text.now c.args.place c.args.e c.is_utf8.ensures ∙ c.if-not-is_utf8.false, c.if-not-some.false, c.if-not-passes.false, c.if-many.false, c.if-over.false, add-one)
