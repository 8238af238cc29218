use mathlib.Core.Path.{refl}
use Rattle.base_refusals.proofs.Said.{said}
use Rattle.set_commas.specs.Commas.{cut_paper}
use Prim.Native.Nat.{◌-◌}
use lib.ListN.{length}
use native.Mathlib.Omega.{arith}
use borrow.Author.Rules.{rules}
use Rattle.set_commas.proofs.Loops as loops
use Rattle.set_commas.proofs.Steps.{turn_at, stop_at}
use Rattle.set_commas.proofs.cut_from.Goals as goal

pub bytes-init : goal.bytes-init
bytes-init c = loops.seeks_start _ _ _

pub bytes-smaller : goal.bytes-smaller
bytes-smaller c = omega (arith, turn_at _ c.value_piece.ensures.value c.in-Some.is)

pub bytes-preserved : goal.bytes-preserved
bytes-preserved c = loops.seeks_go c.bytes.invariant (turn_at _ c.value_piece.ensures.value c.in-Some.is) c.if-b-eq44.false

pub returns-in-None : goal.returns-in-None
returns-in-None c = said cut_paper refl (loops.seeks_end c.bytes.invariant (stop_at _ c.value_piece.ensures.value c.in-None.is))

pub returns-then-b-eq44 : goal.returns-then-b-eq44
returns-then-b-eq44 c = said cut_paper refl (loops.seeks_comma c.bytes.invariant (turn_at _ c.value_piece.ensures.value c.in-Some.is) c.if-b-eq44.true)
