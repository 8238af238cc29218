use mathlib.Core.Path.{refl}
use mathlib.Core.Bool.{true, false}
use native.Mathlib.Omega.{arith}
use Rattle.base_lists.proofs.Steady.{steady}
use Rattle.base_bytes.specs.Bytes.{is_punct, within}
use Rattle.base_bytes.proofs.is_punct.Goals as goal

pub returns-in-33-to-47 : goal.returns-in-33-to-47
unfolding is_punct within
returns-in-33-to-47 c = steady is_punct true 33 15 c.args.b refl (omega arith) (omega arith)

pub returns-in-33-to-47-2 : goal.returns-in-33-to-47-2
unfolding is_punct within
returns-in-33-to-47-2 c = steady is_punct true 58 7 c.args.b refl (omega arith) (omega arith)

pub returns-in-33-to-47-3 : goal.returns-in-33-to-47-3
unfolding is_punct within
returns-in-33-to-47-3 c = steady is_punct true 91 6 c.args.b refl (omega arith) (omega arith)

pub returns-in-33-to-47-4 : goal.returns-in-33-to-47-4
unfolding is_punct within
returns-in-33-to-47-4 c = steady is_punct true 123 4 c.args.b refl (omega arith) (omega arith)

pub returns-in_default : goal.returns-in_default
unfolding is_punct within
returns-in_default c = steady is_punct false 0 33 c.args.b refl (omega arith) (omega arith)

pub returns-in_default-2 : goal.returns-in_default-2
unfolding is_punct within
returns-in_default-2 c = steady is_punct false 48 10 c.args.b refl (omega arith) (omega arith)

pub returns-in_default-3 : goal.returns-in_default-3
unfolding is_punct within
returns-in_default-3 c = steady is_punct false 65 26 c.args.b refl (omega arith) (omega arith)

pub returns-in_default-4 : goal.returns-in_default-4
unfolding is_punct within
returns-in_default-4 c = steady is_punct false 97 26 c.args.b refl (omega arith) (omega arith)

pub returns-in_default-5 : goal.returns-in_default-5
unfolding is_punct within
returns-in_default-5 c = steady is_punct false 127 129 c.args.b refl (omega arith) (omega arith)
