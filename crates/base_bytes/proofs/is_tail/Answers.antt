use mathlib.Core.Path.{refl}
use mathlib.Core.Bool.{true, false}
use native.Mathlib.Omega.{arith}
use Rattle.base_lists.proofs.Steady.{steady}
use Rattle.base_bytes.specs.Bytes.{is_tail, within}
use Rattle.base_bytes.proofs.is_tail.Goals as goal

pub returns-in-128-to-191 : goal.returns-in-128-to-191
unfolding is_tail within
returns-in-128-to-191 c = steady is_tail true 128 64 c.args.b refl (omega arith) (omega arith)

pub returns-in_default : goal.returns-in_default
unfolding is_tail within
returns-in_default c = steady is_tail false 0 128 c.args.b refl (omega arith) (omega arith)

pub returns-in_default-2 : goal.returns-in_default-2
unfolding is_tail within
returns-in_default-2 c = steady is_tail false 192 64 c.args.b refl (omega arith) (omega arith)
