use Prim.Native.Nat.{◌≤◌}
use Rattle.set_table.specs.Types.{two}
use Rattle.set_writer.proofs.Walks as walks
use Rattle.set_writer.proofs.walk.Given as goal

-- what is measured or written has room so far
abbrev pub invariant-loop-p : goal.invariant-loop-p
invariant-loop-p l = (walks.Walks (two l.first l.second) l.set l.really l.initial.out l.cap l.out l.n l.p) × (l.n ≤ l.cap)
