use mathlib.Core.Path.{sym, ◌∙◌}
use native.Mathlib.Omega.{arith}
use borrow.Author.Tests.{not-true, not-false}
use Rattle.base_bytes.specs.Bytes.{is_letter, is_digit, within}
use Rattle.base_letters.specs.Classes.{class_of}
use Rattle.base_letters.proofs.Rule as rule
use Rattle.read_brace.proofs.Laws.{opens_in}
use Rattle.read_tags.proofs.Orders.{tagged_said_lem}
use Rattle.read_once.proofs.Ends as ends
use borrow.Author.Rules.{rules}
use Rattle.read_once.proofs.read_attrs_once_with.Reads as reads
use Rattle.read_once.proofs.read_attrs_once_with.Lts as lts
use Rattle.read_once.proofs.opens_at.Reads as opens-at-reads
use Rattle.read_once.proofs.refused.Reads as refused-reads
use Rattle.read_once.proofs.walk.Reads as walk-reads
use Rattle.read_once.proofs.read_attrs_once_with.Goals as goal

-- src/lib.rt:764:9
pub returns-then-text-gt-MAX_TEXT : goal.returns-then-text-gt-MAX_TEXT
returns-then-text-gt-MAX_TEXT c = tagged_said_lem c.args.tags c.args.mode c.args.text.now c.args.place (ends.too_long_lem c.args.mode c.args.text.now c.args.place c.args.tags (omega (arith, c.if-text-gt-MAX_TEXT.true)) c.refused.ensures)

-- src/lib.rt:767:9
pub returns-then-not-opens_at : goal.returns-then-not-opens_at
returns-then-not-opens_at c = tagged_said_lem c.args.tags c.args.mode c.args.text.now c.args.place (ends.no_brace c.args.mode c.args.text.now c.args.place (omega (arith, c.if-text-gt-MAX_TEXT.false)) c.args.tags (sym c.opens_at.ensures ∙ c.if-not-opens_at.true) c.refused-then-not-opens_at.ensures)

-- src/lib.rt:770:5
pub walk-requires : goal.walk-requires
unfolding class_of is_letter is_digit within
walk-requires c = (omega (arith, c.if-text-gt-MAX_TEXT.false), (opens_in c.args.text.now c.args.place (sym c.opens_at.ensures ∙ c.if-not-opens_at.false), rule.tells))

-- src/lib.rt:758:1
pub returns : goal.returns
returns c = tagged_said_lem c.args.tags c.args.mode c.args.text.now c.args.place (ends.walked c.args.mode c.args.text.now c.args.place (omega (arith, c.if-text-gt-MAX_TEXT.false)) c.args.tags (sym c.opens_at.ensures ∙ c.if-not-opens_at.false) c.walk.ensures)
