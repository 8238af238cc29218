use native.Mathlib.Omega.{arith}
use Rattle.text_utf8.proofs.Pieces as laws
use mathlib.Core.Path.{refl, ◌∙◌}
use borrow.Author.Rules.{rules}
use Rattle.text_utf8.proofs.ends.Goals as goal

pub returns-then-wides-eq0 : goal.returns-then-wides-eq0
returns-then-wides-eq0 c = c.whole.ensures ∙ laws.ascii_end c.requires.2 (laws.ascii_of c.wides.ensures c.if-wides-eq0.true (omega arith) (omega arith) (omega arith))

pub returns-then-faults-ne0 : goal.returns-then-faults-ne0
returns-then-faults-ne0 c = laws.judged_fails c.faults.ensures c.if-faults-ne0.true

pub returns : goal.returns
returns c = c.whole-2.ensures ∙ laws.fits_end (laws.fits_on c.requires.2 c.faults.ensures c.if-faults-ne0.false (omega arith) (omega arith)) refl
