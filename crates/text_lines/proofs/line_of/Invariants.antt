use Prim.Native.Nat.{◌-◌}
use native.Mathlib.Omega.{arith}
use borrow.Author.Rules.{rules}
use lib.ListN.{length}
use Rattle.text_lines.specs.Lines.{line_of, line_paper}
use Rattle.base_refusals.proofs.Said.{said}
use Rattle.text_lines.proofs.Lines as laws
use Rattle.text_lines.proofs.Counted.{line_paper_lem}
use Rattle.text_lines.proofs.line_of.Given as goal

abbrev pub invariant-loop-at : goal.invariant-loop-at
invariant-loop-at l = laws.Counts l.text (line_of l.number l.text) l.left l.at

abbrev pub decreases-loop-at : goal.decreases-loop-at
decreases-loop-at l = length l.text - l.at
