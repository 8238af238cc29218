use native.Mathlib.Omega.{arith}
use Rattle.text_utf8.proofs.Pieces as laws
use borrow.Author.Rules.{rules}
use Rattle.text_utf8.proofs.in_parts.Goals as goal

pub by_parts-requires : goal.by_parts-requires
by_parts-requires c = (omega arith, omega (arith, c.past_blocks.ensures.onward, c.past_parts.ensures.onward), laws.fits_first (laws.ascii_all c.wides.ensures c.if-wides-eq0.true (omega arith) c.past_blocks.ensures c.past_parts.ensures))

pub returns-then-first_faults-ne0 : goal.returns-then-first_faults-ne0
returns-then-first_faults-ne0 c = laws.judged_fails c.first_faults.ensures c.if-first_faults-ne0.true

pub by_parts-requires-2 : goal.by_parts-requires-2
by_parts-requires-2 c = (omega arith, omega arith, laws.fits_on (laws.fits-start _) c.first_faults.ensures c.if-first_faults-ne0.false (omega arith) (omega arith))
