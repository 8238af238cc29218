use Rattle.run_stops.proofs.Laws as laws
use native.Mathlib.Omega.{arith}
use borrow.Author.Rules.{rules}
use Rattle.run_stops.specs.Stops.{quote_place}
use Rattle.run_stops.proofs.quote_place.Reads as reads
use Rattle.run_stops.proofs.quote_place.Lts as lts
use Rattle.run_stops.proofs.front.Reads as front_reads
use Rattle.run_stops.proofs.quote_left.Reads as quote-left-reads
use Rattle.text_lines.proofs.line_from.Reads as line-from-reads
use Rattle.run_stops.proofs.quote_place.Goals as goal

-- src/lib.rt:185:1
pub returns-in-None : goal.returns-in-None
unfolding quote_place
returns-in-None c = rw (← c.line_from-l.ensures, ← c.front.ensures, ← c.quote_left.ensures.value, c.in-None.is)

-- src/lib.rt:185:1
pub returns-in-Some : goal.returns-in-Some
unfolding quote_place
returns-in-Some c = rw (← c.line_from-l.ensures, ← c.front.ensures, ← c.quote_left.ensures.value, c.in-Some.is)
