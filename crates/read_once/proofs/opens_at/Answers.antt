use borrow.Author.Tests.{le-ltb, lt-ltb}
use Rattle.read_brace.specs.Brace.{brace_at}
use borrow.Author.Rules.{rules}
use Rattle.read_once.proofs.opens_at.Goals as goal

pub returns-then-text-place : goal.returns-then-text-place
unfolding brace_at
returns-then-text-place c = simp (le-ltb _ _ c.if-text-place.true)

pub returns : goal.returns
unfolding brace_at
returns c = simp (lt-ltb _ _ c.if-text-place.false)
