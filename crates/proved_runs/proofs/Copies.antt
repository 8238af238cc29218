-- What `refused_brace_run` answers of lines with pads is what it answers of their padded copies.
-- Assumes nothing.
use mathlib.Core.Path.{refl}
use lib.ListN.{length-map}
use Rattle.run_lines.specs.Runs.{start}
use Rattle.run_refused.specs.Refused.{found_in}
use Rattle.proved_runs.specs.Padding.{copied, CopiesAnswered}
use Rattle.proved_runs.proofs.Pads.{padded}

pub written_out : CopiesAnswered
unfolding found_in
written_out cap shallow ls = rw (padded cap (start 0) ls) (rw (length-map ls copied) refl)
