use mathlib.Core.Path.{sym, ◌∙◌}
use native.Mathlib.Omega.{arith}
use borrow.Author.Tests.{not-true, not-false}
use borrow.Author.Rules.{rules}
use Rattle.read_once.specs.Inner.{token_seen}
use Rattle.read_once.proofs.Look as look
use Rattle.read_once.proofs.finish.Goals as goal

pub returns-then-not-good : goal.returns-then-not-good
returns-then-not-good c = λ i z.
    let a = c.args in
    look.finish_bad a.text.now a.e a.mode (token_seen a.t) i c.wrong_at.ensures c.requires.0 (c.if-not-good.true)

pub returns-then-text-e : goal.returns-then-text-e
returns-then-text-e c = λ i z.
    let a = c.args in
    look.finish_end a.text.now a.e a.mode c.requires.1.0 c.requires.1.1 c.requires.0 z (c.if-not-good.false) c.if-text-e.true

pub returns-then-text-e-eq125 : goal.returns-then-text-e-eq125
returns-then-text-e-eq125 c = λ i z.
    let a = c.args in
    look.finish-here a.text.now a.e a.mode c.requires.1.0 c.requires.1.1 c.requires.0 z (c.if-not-good.false) (omega (arith, c.if-text-e.false)) c.if-text-e-eq125.true

pub returns-then-not-is_blank : goal.returns-then-not-is_blank
returns-then-not-is_blank c = λ i z.
    let a = c.args in
    look.finish_wrong a.text.now a.e a.mode (token_seen a.t) i c.wrong_at-then-not-is_blank.ensures c.requires.0 (c.if-not-good.false) c.if-text-e-eq125.false (sym c.is_blank.ensures ∙ c.if-not-is_blank.true)

pub returns : goal.returns
returns c = λ i z.
    let a = c.args in
    look.finish_blank a.text.now a.e a.mode c.requires.1.0 c.requires.1.1 c.requires.0 z (c.if-not-good.false) c.if-text-e-eq125.false (sym c.is_blank.ensures ∙ c.if-not-is_blank.false)
