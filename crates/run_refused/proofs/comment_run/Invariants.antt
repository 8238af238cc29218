use borrow.Author.Rules.{rules}
use mathlib.Core.Path.{refl, sym, ◌∙◌}
use mathlib.Core.Bool.{false}
use Prim.Native.Nat.{◌-◌}
use native.Mathlib.Omega.{arith}
use lib.ListN.{length, drop}
use Rattle.text_lines.specs.Lines.{lines}
use Rattle.run_refused.specs.Refused.{comment_from}
use Rattle.run_refused.proofs.Walking.{line_in}
use Rattle.run_refused.proofs.Comments as laws
use Rattle.run_refused.proofs.comment_run.Given as goal

abbrev pub invariant-lines : goal.invariant-lines
invariant-lines l = laws.Comments l.text (comment_from l.opener 0 false (lines (drop l.start l.text))) l.opener l.n l.at l.shallow

abbrev pub decreases-lines : goal.decreases-lines
decreases-lines l = length l.text - l.at
