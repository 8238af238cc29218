use mathlib.Core.Path.{refl, sym, ◌∙◌}
use native.Mathlib.Omega.{arith}
use borrow.Author.Tests.{not-true, not-false}
use Rattle.read_brace.specs.Brace.{empty_front, part_to, payload_at}
use Rattle.read_brace.proofs.Laws as laws
use borrow.Author.Rules.{rules}
use Rattle.read_brace.proofs.payload_range.Goals as goal

pub returns-then-text-gt-MAX_TEXT : goal.returns-then-text-gt-MAX_TEXT
unfolding payload_at
returns-then-text-gt-MAX_TEXT c = laws.too_long_lem empty_front empty_front (part_to c.args.text.now c.args.place) _ _ c.if-text-gt-MAX_TEXT.true

pub returns-then-not-opens_at : goal.returns-then-not-opens_at
unfolding payload_at
returns-then-not-opens_at c = laws.no_brace empty_front empty_front (part_to c.args.text.now c.args.place) _ _ c.if-text-gt-MAX_TEXT.false (sym c.opens_at.ensures ∙ c.if-not-opens_at.true)

pub overflow_add-place : goal.overflow_add-place
overflow_add-place c = omega (arith, laws.opens_in c.args.text.now c.args.place (sym c.opens_at.ensures ∙ c.if-not-opens_at.false))

pub range_to-requires : goal.range_to-requires
range_to-requires c =
    ((laws.close_in c.args.text.now c.args.place _ c.find_close.ensures.value c.in-Some.is).0, (laws.close_in c.args.text.now c.args.place _ c.find_close.ensures.value c.in-Some.is).1.0)

pub returns-in-None : goal.returns-in-None
unfolding payload_at
returns-in-None c =
    laws.at_close empty_front empty_front (part_to c.args.text.now c.args.place) _ _ c.if-text-gt-MAX_TEXT.false (sym c.opens_at.ensures ∙ c.if-not-opens_at.false) c.find_close.ensures.value c.in-None.is refl

pub returns-in-Some : goal.returns-in-Some
unfolding payload_at
returns-in-Some c =
    laws.at_close empty_front empty_front (part_to c.args.text.now c.args.place) _ _ c.if-text-gt-MAX_TEXT.false (sym c.opens_at.ensures ∙ c.if-not-opens_at.false) c.find_close.ensures.value c.in-Some.is c.range_to.ensures
