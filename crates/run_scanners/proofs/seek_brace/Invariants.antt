use Rattle.run_scanners.specs.Scanners.{capped_at, seek_from}
use Rattle.run_scanners.proofs.Laws as laws
use Rattle.run_scanners.proofs.seek_brace.Given as goal

abbrev pub invariant-loop-b : goal.invariant-loop-b
invariant-loop-b l = laws.Seeks l.line (capped_at (seek_from l.initial.k l.line).found) l.b-index l.k
