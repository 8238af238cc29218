use Prim.Native.Nat.{◌-◌}
use native.Mathlib.Omega.{arith}
use borrow.Author.Rules.{rules}
use Rattle.sheet_mends.proofs.Tells as laws
use Rattle.sheet_mends.proofs.tell_kept.Given as goal

abbrev pub invariant-rows : goal.invariant-rows
invariant-rows l = laws.Keeps l.text l.index l.initial.table l.initial.out l.table l.out l.from l.to l.less l.more l.back l.forth l.initial.told l.told l.at

abbrev pub decreases-rows : goal.decreases-rows
decreases-rows l = l.to - l.at
