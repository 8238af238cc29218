use mathlib.Core.Path.{refl, sym, ◌∙◌}
use Rattle.base_refusals.proofs.Said.{said}
use Rattle.run_scanners.specs.Scanners.{passed, scan_paper}
use borrow.Author.Rules.{rules}
use Rattle.run_scanners.proofs.pass.Goals as goal

pub returns-then-st : goal.returns-then-st
unfolding passed
returns-then-st c = said scan_paper refl (simp c.if-st.true)

pub returns-then-covers : goal.returns-then-covers
unfolding passed
returns-then-covers c = said scan_paper refl (simp (c.if-st.false, sym c.covers.ensures ∙ c.if-covers.true))

pub returns : goal.returns
unfolding passed
returns c = said scan_paper refl (simp (c.if-st.false, sym c.covers.ensures ∙ c.if-covers.false, c.turn.ensures))
