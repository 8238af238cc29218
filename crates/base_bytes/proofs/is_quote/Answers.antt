use mathlib.Core.Path.{refl}
use mathlib.Core.Bool.{true, false}
use mathlib.Core.List.{[], ◌∷◌}
use native.Mathlib.Omega.{arith}
use Rattle.base_lists.specs.Lists.{is_in}
use Rattle.base_lists.proofs.Steady.{met, missed}
use Rattle.base_bytes.specs.Bytes.{is_quote}
use Rattle.base_bytes.proofs.is_quote.Goals as goal

pub returns-in-34 : goal.returns-in-34
unfolding is_quote is_in
returns-in-34 c = met is_quote true (34 ∷ 39 ∷ []) c.args.b c.in-34.is refl

pub returns-in_default : goal.returns-in_default
unfolding is_quote is_in
returns-in_default c = missed is_quote false (34 ∷ 39 ∷ []) 0 256 c.args.b c.in_default.in_default-own.rest.1 refl (omega arith) (omega arith)
