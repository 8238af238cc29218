use mathlib.Core.Path.{sym, ◌∙◌}
use Prim.Native.Nat.{◌+◌}
use native.Mathlib.Omega.{arith}
use Rattle.block_tokens.proofs.Quotes as quotes
use Rattle.block_tokens.proofs.Words as words
use borrow.Author.Rules.{rules}
use Rattle.block_tokens.proofs.quoted_token.Goals as goal

pub overflow_add-e : goal.overflow_add-e
overflow_add-e c =
    let a = c.args in
    omega (arith, (quotes.closed _ a.s.now (a.k + 2) (sym c.in-Some.is ∙ c.quote_end.ensures) (omega (arith, c.requires))).within)

pub overflow_add-e-in-Some : goal.overflow_add-e-in-Some
overflow_add-e-in-Some c =
    let a = c.args in
    omega (arith, (quotes.closed _ a.s.now (a.k + 2) (sym c.in-Some.is ∙ c.quote_end.ensures) (omega (arith, c.requires))).within)

pub returns-in-None : goal.returns-in-None
returns-in-None c =
    let a = c.args in
    words.quoted_none a.mode a.i a.k a.s.now _ (omega (arith, c.requires)) (sym c.in-None.is ∙ c.quote_end.ensures)

pub returns-in-Some : goal.returns-in-Some
returns-in-Some c =
    let a = c.args in
    words.quoted_some a.mode a.i a.k a.s.now _ (omega (arith, c.requires)) (omega (arith, c.requires)) (quotes.closed _ a.s.now (a.k + 2) (sym c.in-Some.is ∙ c.quote_end.ensures) (omega (arith, c.requires))) c.finish.ensures
