use Rattle.block_payloads.proofs.Lines as lines
use Rattle.run_stops.proofs.behind_last.Given as goal

abbrev pub invariant-loop-i : goal.invariant-loop-i
invariant-loop-i l = lines.Behinds l.s l.best l.i
