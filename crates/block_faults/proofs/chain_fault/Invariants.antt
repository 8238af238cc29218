use mathlib.Core.Path.{ap}
use Prim.Native.Nat.{◌-◌}
use native.Mathlib.Omega.{arith}
use borrow.Author.Rules.{rules}
use lib.ListN.{length, drop}
use Rattle.block_faults.specs.Faults.{fault_from, fault_paper}
use Rattle.block_faults.proofs.Chains as laws
use Rattle.block_faults.proofs.chain_fault.Given as goal

abbrev pub invariant-blocks-2 : goal.invariant-blocks-2
invariant-blocks-2 l = laws.Chains l.s (fault_from (drop l.from l.s) 0 l.from) l.i

abbrev pub decreases-blocks-2 : goal.decreases-blocks-2
decreases-blocks-2 l = length l.s - l.i
