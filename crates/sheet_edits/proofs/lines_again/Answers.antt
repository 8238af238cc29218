use Rattle.sheet_edits.proofs.Cuts as cuts
use Rattle.sheet_edits.specs.Edits.{again_of, again_paper}
use Rattle.base_refusals.proofs.Said.{said}
use borrow.Author.Rules.{rules}
use mathlib.Core.Path.{refl, sym, ◌∙◌}
use Rattle.sheet_edits.proofs.lines_again.Reads as reads
use Rattle.sheet_edits.proofs.lines_again.Lts as lts
use Rattle.sheet_edits.proofs.again_in.Reads as again-in-reads
use Rattle.sheet_edits.proofs.span_of.Reads as span-of-reads
use Rattle.sheet_edits.proofs.lines_again.Goals as goal

-- src/lib.rt:175:31
pub again_in-requires : goal.again_in-requires
again_in-requires c = (cuts.span_within _ _ _ (sym c.span_of.ensures ∙ c.in-Some.is)).1

-- src/lib.rt:169:1
pub returns-in-None : goal.returns-in-None
unfolding again_of
returns-in-None c = said again_paper refl (rw (← c.span_of.ensures, c.in-None.is))

-- src/lib.rt:169:1
pub returns-in-Some : goal.returns-in-Some
unfolding again_of
returns-in-Some c = said again_paper refl (rw (← c.span_of.ensures, c.in-Some.is) c.again_in.ensures)
