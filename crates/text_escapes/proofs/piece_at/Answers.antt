use mathlib.Core.Path.{refl, sym, ◌∙◌}
use native.Mathlib.Omega.{arith}
use borrow.Author.Tests.{le-leb, lt-leb}
use Rattle.text_escapes.specs.Unescape.{piece_at, piece_paper}
use Rattle.base_refusals.proofs.Said.{said}
use Rattle.text_escapes.proofs.Pieces as laws
use borrow.Author.Rules.{rules}
use Rattle.text_escapes.proofs.piece_at.Goals as goal

pub returns-then-s-i : goal.returns-then-s-i
unfolding piece_at
returns-then-s-i c = said piece_paper refl (simp (le-leb _ _ c.if-s-i.true))

pub bounds-s-i : goal.bounds-s-i
bounds-s-i c = omega (arith, laws.pair_within _ _ (sym c.is_pair.ensures ∙ c.if-is_pair.true))

pub returns-then-is_pair : goal.returns-then-is_pair
unfolding piece_at
returns-then-is_pair c = said piece_paper refl (simp (lt-leb _ _ c.if-s-i.false, sym c.is_pair.ensures ∙ c.if-is_pair.true))

pub returns : goal.returns
unfolding piece_at
returns c = said piece_paper refl (simp (lt-leb _ _ c.if-s-i.false, sym c.is_pair.ensures ∙ c.if-is_pair.false))
