use Prim.Native.Nat.{◌+◌}
use Rattle.text_lines.proofs.Lines as laws
use Rattle.text_lines.proofs.has_lf.Given as goal

abbrev pub invariant-loop-b : goal.invariant-loop-b
invariant-loop-b l = laws.Looked l.text l.i (l.i + l.b-index) l.found
