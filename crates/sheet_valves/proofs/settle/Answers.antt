use native.Mathlib.Omega.{arith}
use Rattle.sheet_valves.proofs.Settings as laws
use borrow.Author.Rules.{rules}
use Rattle.sheet_valves.proofs.settle.Goals as goal

pub returns-then-variant-eq0 : goal.returns-then-variant-eq0
returns-then-variant-eq0 c = laws.settled_out _ _ _ (λ p. omega (arith, p.first))

pub returns-then-wheel-ge-WHEELS : goal.returns-then-wheel-ge-WHEELS
returns-then-wheel-ge-WHEELS c = laws.settled_out _ _ _ (λ p. omega (arith, p.wheel))

pub returns : goal.returns
returns c = laws.settled_in _ _ _ (record { first = omega arith; last = omega (arith, c.requires.0); wheel = omega arith })
