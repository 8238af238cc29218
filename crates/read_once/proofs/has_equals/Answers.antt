use native.Mathlib.Omega.{arith}
use lib.Dec.{eqb}
use Rattle.base_lists.proofs.Scan as scan
use borrow.Author.Rules.{rules}
use Rattle.read_once.proofs.has_equals.Goals as goal

pub returns-then-s-i : goal.returns-then-s-i
returns-then-s-i c = scan.first_none _ _ _ c.if-s-i.true

pub returns : goal.returns
returns c = scan.first_some (λ b. eqb b 61) c.args.s.now c.args.i (omega arith)
