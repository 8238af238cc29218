use mathlib.Core.Path.{refl, sym, ◌∙◌, ap}
use native.Mathlib.Omega.{arith}
use Rattle.base_lists.proofs.Runs as runs
use Rattle.base_bytes.specs.Bytes.{is_plain}
use Rattle.read_once.specs.Inner.{is_closing}
use Rattle.read_once.proofs.Names as laws
use borrow.Author.Rules.{rules}
use Rattle.read_once.proofs.value_seen.Goals as goal

pub returns-then-v-text : goal.returns-then-v-text
returns-then-v-text c =
    let a = c.args in
    laws.value_none a.text.now a.i a.k a.mode c.if-v-text.true c.wrong_at.ensures

pub quoted_seen-requires : goal.quoted_seen-requires
quoted_seen-requires c =
    (c.requires.0, (omega (arith, c.requires.1, c.if-v-text.false), sym c.is_quote.ensures ∙ c.if-is_quote.true))

pub returns-then-is_quote : goal.returns-then-is_quote
returns-then-is_quote c =
    let a = c.args in
    laws.value_quoted a.text.now a.i a.k a.mode (sym c.is_quote.ensures ∙ c.if-is_quote.true) c.quoted_seen.ensures

pub finish-requires : goal.finish-requires
finish-requires c =
    let x = c.seen_as.ensures in
    ((runs.inside is_plain c.args.text.now c.plain_end-e.ensures (omega (arith, c.requires.1))).1, (ap (λ s. s.end) x, ap (λ s. is_closing s.sort) x))

pub returns : goal.returns
returns c =
    let a = c.args in
    let x = c.seen_as.ensures in
    laws.value_plain a.text.now a.i a.k a.mode c.requires.0 (omega (arith, c.requires.1, c.if-v-text.false)) (sym c.is_quote.ensures ∙ c.if-is_quote.false) c.plain_end-e.ensures (rw x at (c.finish.ensures a.i (rw x (refl, c.requires.0, (runs.inside is_plain a.text.now c.plain_end-e.ensures (omega (arith, c.requires.1))).0))))
