use mathlib.Core.Path.{sym, ◌∙◌}
use native.Mathlib.Omega.{arith}
use Rattle.block_grammar.specs.Grammar.{Item}
use Rattle.block_tokens.specs.Inner.{part}
use Rattle.block_tokens.proofs.Words as words
use borrow.Author.Rules.{rules}
use Rattle.block_tokens.proofs.value_token.Goals as goal

pub returns-then-v-s : goal.returns-then-v-s
returns-then-v-s c =
    let a = c.args in
    words.value_none a.mode a.i a.k a.s.now c.if-v-s.true

pub returns-then-is_quote : goal.returns-then-is_quote
returns-then-is_quote c =
    let a = c.args in
    words.value_quoted a.mode a.i a.k a.s.now (omega arith) (sym c.is_quote.ensures ∙ c.if-is_quote.true) c.quoted_token.ensures

pub returns : goal.returns
returns c =
    let a = c.args in
    words.value_plain a.mode a.i a.k a.s.now (omega arith) (sym c.is_quote.ensures ∙ c.if-is_quote.false)
    (words.plain_word a.i a.mode (λ v. Item.plain (part a.i a.k a.s.now) v) a.s.now c.plain_end-e.ensures (omega arith) (λ v h. words.key_shown a.mode a.i a.k a.s.now v (omega (arith, c.requires)) (omega (arith, c.requires)) h) c.finish.ensures)
