use mathlib.Core.Path.{refl}
use Rattle.sheet_numbers.specs.Computed.{names_row}
use Rattle.sheet_numbers.proofs.names.Goals as goal

pub returns : goal.returns
unfolding names_row mathlib.Core.List.flat_map
returns c = refl
