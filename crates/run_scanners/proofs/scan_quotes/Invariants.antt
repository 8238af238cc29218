use Rattle.run_scanners.specs.Scanners.{open_quote_at_end}
use Rattle.run_scanners.proofs.Laws as laws
use Rattle.run_scanners.proofs.scan_quotes.Given as goal

abbrev pub invariant-loop-b : goal.invariant-loop-b
invariant-loop-b l = laws.Opens l.s (open_quote_at_end l.s) l.b-index l.st
