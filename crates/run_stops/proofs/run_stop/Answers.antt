use Rattle.run_stops.proofs.Laws as laws
use native.Mathlib.Omega.{arith}
use borrow.Author.Rules.{rules}
use mathlib.Core.Path.{refl, ◌∙◌}
use Rattle.base_refusals.proofs.Said.{said}
use Rattle.run_stops.specs.Stops.{stop_paper}
use Rattle.run_stops.proofs.run_stop.Reads as reads
use Rattle.run_stops.proofs.run_stop.Lts as lts
use Rattle.run_stops.proofs.before.Reads as before-reads
use Rattle.run_stops.proofs.edge_of.Reads as edge-of-reads
use Rattle.run_stops.proofs.entries_place.Reads as entries-place-reads
use Rattle.run_stops.proofs.quote_place.Reads as quote-place-reads
use Rattle.run_stops.proofs.why_of.Reads as why-of-reads
use Rattle.run_stops.proofs.run_stop.Goals as goal

-- src/lib.rt:230:1
pub returns-in-End : goal.returns-in-End
returns-in-End c = said stop_paper refl (laws.stop_is c.args.text.now c.args.at c.args.lines c.edge_of-e.ensures c.why_of.ensures c.in-End.is)

-- src/lib.rt:230:1
pub returns-in-Blank : goal.returns-in-Blank
returns-in-Blank c = said stop_paper refl (laws.stop_is c.args.text.now c.args.at c.args.lines c.edge_of-e.ensures c.why_of.ensures c.in-Blank.is)

-- src/lib.rt:230:1
pub returns-in-Quoted : goal.returns-in-Quoted
returns-in-Quoted c = said stop_paper refl (rw (c.quote_place.ensures, c.before-in-Quoted.ensures) (laws.stop_is c.args.text.now c.args.at c.args.lines c.edge_of-e.ensures c.why_of.ensures c.in-Quoted.is))

-- src/lib.rt:230:1
pub returns-in-Left : goal.returns-in-Left
returns-in-Left c = said stop_paper refl (laws.stop_is c.args.text.now c.args.at c.args.lines c.edge_of-e.ensures c.why_of.ensures c.in-Left.is)

-- src/lib.rt:230:1
pub returns-in-Entries : goal.returns-in-Entries
returns-in-Entries c = said stop_paper refl (rw c.entries_place.ensures (laws.stop_is c.args.text.now c.args.at c.args.lines c.edge_of-e.ensures c.why_of.ensures c.in-Entries.is))
