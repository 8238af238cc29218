use native.Mathlib.Omega.{arith}
use borrow.Author.Tests.{eq-eqb, ne_eqb}
use Rattle.text_escapes.specs.Unescape.{is_pair}
use Rattle.text_escapes.proofs.Pieces as laws
use borrow.Author.Rules.{rules}
use Rattle.text_escapes.proofs.is_pair.Goals as goal

pub returns-then-s-i-ne92 : goal.returns-then-s-i-ne92
unfolding is_pair
returns-then-s-i-ne92 c = simp (ne_eqb _ _ c.if-s-i-ne92.true)

pub returns-then-i-s : goal.returns-then-i-s
returns-then-i-s c = laws.last_byte _ _ (omega (arith, c.if-i-s.true))

pub returns : goal.returns
unfolding is_pair
returns c = simp (eq-eqb _ _ c.if-s-i-ne92.false) c.is_punct.ensures
