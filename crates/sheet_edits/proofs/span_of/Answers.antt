use Rattle.sheet_edits.specs.Edits.{span_of}
use borrow.Author.Tests.{lt-ltb, le-ltb}
use mathlib.Core.Path.{sym, ◌∙◌}
use native.Mathlib.Omega.{arith}
use Rattle.sheet_edits.proofs.Walks as laws
use borrow.Author.Rules.{rules}
use Rattle.sheet_edits.proofs.span_of.Goals as goal

pub returns-then-b-a : goal.returns-then-b-a
unfolding span_of
returns-then-b-a c = rw (lt-ltb c.args.b c.args.a c.if-b-a.true)

pub returns-then-a-b : goal.returns-then-a-b
unfolding span_of
returns-then-a-b c =
    rw
    (le-ltb c.args.b c.args.a (omega arith), ← c.line_of.ensures.value, c.in-Some.is)
    (laws.one_line _ _ _ (sym c.line_of.ensures.value ∙ c.in-Some.is) c.if-a-b.true c.line_from-e.ensures)

pub returns-in-None : goal.returns-in-None
unfolding span_of
returns-in-None c = rw (le-ltb c.args.b c.args.a (omega arith), ← c.line_of.ensures.value, c.in-None.is)

pub returns-else-a-b : goal.returns-else-a-b
unfolding span_of
returns-else-a-b c =
    rw
    (le-ltb c.args.b c.args.a (omega arith), ← c.line_of.ensures.value, c.in-Some.is)
    c.span_to.ensures
