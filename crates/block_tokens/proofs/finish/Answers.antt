use mathlib.Core.Path.{sym, ◌∙◌}
use native.Mathlib.Omega.{arith}
use borrow.Author.Tests.{not-true, not-false}
use lib.ListN.{drop_of_length-le}
use lib.Seq.{drop-cons}
use Rattle.block_grammar.specs.Computed.{ends}
use borrow.Author.Rules.{rules}
use Rattle.block_tokens.proofs.finish.Goals as goal

pub returns-then-not-good : goal.returns-then-not-good
returns-then-not-good c = rw (c.if-not-good.true)

pub returns-then-s-e : goal.returns-then-s-e
unfolding ends
returns-then-s-e c =
    rw (c.if-not-good.false, drop_of_length-le c.args.s.now c.if-s-e.true)

pub returns-then-not-is_blank : goal.returns-then-not-is_blank
unfolding ends
returns-then-not-is_blank c =
    rw (c.if-not-good.false, drop-cons c.args.s.now c.args.e 0 (omega arith), sym c.is_blank.ensures ∙ c.if-not-is_blank.true)

pub returns : goal.returns
unfolding ends
returns c =
    rw (c.if-not-good.false, drop-cons c.args.s.now c.args.e 0 (omega arith), sym c.is_blank.ensures ∙ c.if-not-is_blank.false)
