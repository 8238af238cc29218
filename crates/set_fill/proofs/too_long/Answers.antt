use mathlib.Core.Path.{refl}
use Rattle.set_fill.proofs.too_long.Goals as goal

pub returns : goal.returns
returns c = refl
