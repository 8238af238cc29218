use native.Mathlib.Omega.{arith}
use mathlib.Core.Path.{sym, ◌∙◌}
use Prim.Native.Nat.{◌-◌}
use lib.ListN.{length}
use borrow.Author.Rules.{rules}
use Rattle.set_fill.specs.Inner.{chain_rest, over_of}
use Rattle.set_fill.proofs.Walk as walk
use Rattle.set_fill.proofs.Chains as chains
use Rattle.set_fill.proofs.Limits as limits
use Rattle.set_fill.proofs.passed_limit.Given as goal

abbrev pub invariant-walk : goal.invariant-walk
invariant-walk l = limits.Counts l.mode l.w l.n (over_of l.n (chain_rest l.mode l.w l.close l.initial.cur)) l.count l.end l.cur

abbrev pub decreases-walk : goal.decreases-walk
decreases-walk l = length l.w - l.cur.at
