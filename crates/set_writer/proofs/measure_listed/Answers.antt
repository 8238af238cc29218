use mathlib.Core.Path.{refl, ◌∙◌}
use mathlib.Core.Bool.{false}
use native.Mathlib.Omega.{arith}
use borrow.Author.Rules.{rules}
use Rattle.base_lists.proofs.More.{contra}
use Rattle.set_writer.proofs.Room.{measured}
use Rattle.set_writer.proofs.measure_listed.Goals as goal

pub walk-requires : goal.walk-requires
walk-requires c = record { cap_le_max_text = omega arith; set_len_bound = λ e. contra false e refl }

pub returns : goal.returns
returns c = c.walk.ensures.value ∙ measured _
