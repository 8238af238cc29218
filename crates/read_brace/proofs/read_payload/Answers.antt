use mathlib.Core.Path.{sym, ◌∙◌, ap}
use native.Mathlib.Omega.{arith}
use borrow.Author.Tests.{not-true, not-false}
use Rattle.read_brace.proofs.Laws as laws
use borrow.Author.Rules.{rules}
use Rattle.read_brace.proofs.read_payload.Goals as goal

pub returns-then-not-is_utf8 : goal.returns-then-not-is_utf8
returns-then-not-is_utf8 c =
    c.refused.ensures ∙ laws.not_utf8 c.args.mode c.args.text.now c.args.place c.args.end (sym c.is_utf8.ensures ∙ c.if-not-is_utf8.true)

pub place_of-n-requires : goal.place_of-n-requires
place_of-n-requires c =
    let a = c.args in
    (omega (arith, c.requires), (omega (arith, c.requires), ap (λ f. f.outcome) (laws.filled_of_lem a.mode a.text.now a.place a.end c.requires.0 c.fill-filled.ensures.value)))

pub returns : goal.returns
returns c =
    let a = c.args in
    c.handed_out.ensures
    ∙ laws.filled a.mode a.text.now a.place a.end (sym c.is_utf8.ensures ∙ c.if-not-is_utf8.false)
    (laws.filled_of_lem a.mode a.text.now a.place a.end c.requires.0 c.fill-filled.ensures.value) c.place_of-n.ensures
