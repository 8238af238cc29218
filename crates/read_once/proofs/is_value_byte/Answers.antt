use mathlib.Core.Path.{refl}
use mathlib.Core.Bool.{true}
use native.Mathlib.Omega.{arith}
use Rattle.base_lists.specs.Lists.{is_in}
use Rattle.base_lists.proofs.Steady.{steady}
use Rattle.base_bytes.specs.Bytes.{is_plain}
use borrow.Author.Rules.{rules}
use Rattle.read_once.proofs.is_value_byte.Goals as goal

pub returns-in-40-to-91 : goal.returns-in-40-to-91
unfolding is_plain is_in
returns-in-40-to-91 c = steady is_plain true 40 52 c.args.b refl (omega arith) (omega arith)

pub returns-in-40-to-91-2 : goal.returns-in-40-to-91-2
unfolding is_plain is_in
returns-in-40-to-91-2 c = steady is_plain true 93 31 c.args.b refl (omega arith) (omega arith)
