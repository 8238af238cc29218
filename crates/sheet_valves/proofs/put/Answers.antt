use native.Mathlib.Omega.{arith}
use Rattle.sheet_valves.proofs.Cells as laws
use borrow.Author.Rules.{rules}
use Rattle.sheet_valves.proofs.put.Goals as goal

pub returns-then-variant-eq0 : goal.returns-then-variant-eq0
returns-then-variant-eq0 c = laws.put-nowhere _ _ (λ p. omega (arith, p.first))

pub returns-then-variant-gt-VARIANTS : goal.returns-then-variant-gt-VARIANTS
returns-then-variant-gt-VARIANTS c = laws.put-nowhere _ _ (λ p. omega (arith, p.last))

pub returns-then-wheel-ge-WHEELS : goal.returns-then-wheel-ge-WHEELS
returns-then-wheel-ge-WHEELS c = laws.put-nowhere _ _ (λ p. omega (arith, p.wheel))

pub returns : goal.returns
returns c = laws.put_there _ (c.args.setting) (record { first = omega arith; last = omega arith; wheel = omega arith })
