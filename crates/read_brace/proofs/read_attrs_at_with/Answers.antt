use mathlib.Core.Path.{sym, ◌∙◌}
use native.Mathlib.Omega.{arith}
use borrow.Author.Tests.{not-true, not-false}
use Rattle.base_refusals.specs.declared.Refusal.TheVariants.{TextTooLong, NothingThere}
use Rattle.read_brace.specs.Brace.{refusing_read, read_to, read_attrs_at}
use Rattle.read_brace.proofs.Laws as laws
use Rattle.read_brace.proofs.Places.{brace_place}
use Rattle.read_brace.proofs.Numbers.{said, brace_no}
use borrow.Author.Rules.{rules}
use Rattle.read_brace.proofs.read_attrs_at_with.Goals as goal

pub returns-then-text-gt-MAX_TEXT : goal.returns-then-text-gt-MAX_TEXT
unfolding read_attrs_at
returns-then-text-gt-MAX_TEXT c =
    said (brace_no _ _ _) (brace_place _ _ _) (c.refused.ensures ∙ laws.too_long_lem (refusing_read TextTooLong) (refusing_read NothingThere) (read_to c.args.mode c.args.text.now c.args.place) _ _ c.if-text-gt-MAX_TEXT.true)

pub returns-then-not-opens_at : goal.returns-then-not-opens_at
unfolding read_attrs_at
returns-then-not-opens_at c =
    said (brace_no _ _ _) (brace_place _ _ _) (c.refused-then-not-opens_at.ensures ∙ laws.no_brace (refusing_read TextTooLong) (refusing_read NothingThere) (read_to c.args.mode c.args.text.now c.args.place) _ _ c.if-text-gt-MAX_TEXT.false (sym c.opens_at.ensures ∙ c.if-not-opens_at.true))

pub overflow_add-place : goal.overflow_add-place
overflow_add-place c = omega (arith, laws.opens_in c.args.text.now c.args.place (sym c.opens_at.ensures ∙ c.if-not-opens_at.false))

pub read_payload-requires : goal.read_payload-requires
read_payload-requires c =
    (c.if-text-gt-MAX_TEXT.false, laws.close_in c.args.text.now c.args.place _ c.find_close.ensures.value c.in-Some.is)

pub returns-in-None : goal.returns-in-None
unfolding read_attrs_at
returns-in-None c =
    said (brace_no _ _ _) (brace_place _ _ _) (laws.at_close (refusing_read TextTooLong) (refusing_read NothingThere) (read_to c.args.mode c.args.text.now c.args.place) _ _ c.if-text-gt-MAX_TEXT.false (sym c.opens_at.ensures ∙ c.if-not-opens_at.false) c.find_close.ensures.value c.in-None.is c.refused-in-None.ensures)

pub returns-in-Some : goal.returns-in-Some
unfolding read_attrs_at
returns-in-Some c =
    said (brace_no _ _ _) (brace_place _ _ _) (laws.at_close (refusing_read TextTooLong) (refusing_read NothingThere) (read_to c.args.mode c.args.text.now c.args.place) _ _ c.if-text-gt-MAX_TEXT.false (sym c.opens_at.ensures ∙ c.if-not-opens_at.false) c.find_close.ensures.value c.in-Some.is c.read_payload.ensures)
