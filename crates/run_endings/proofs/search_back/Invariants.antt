use mathlib.Core.Path.{ap}
use mathlib.Core.Bool.{not}
use borrow.Author.Rules.{rules}
use mathlib.Core.Path.{sym, ◌∙◌}
use native.Mathlib.Omega.{arith}
use borrow.Author.Tests.{not-true, not-false}
use Rattle.run_endings.proofs.Upwards as laws
use Rattle.run_endings.proofs.search_back.Given as goal

abbrev pub invariant-lines : goal.invariant-lines
invariant-lines l = laws.Backs l.text l.again l.initial.join l.join l.at l.count l.tried l.lookahead

abbrev pub decreases-lines : goal.decreases-lines
decreases-lines l = l.at
