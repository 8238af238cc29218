use mathlib.Core.List.{map}
use mathlib.Core.Path.{refl, ◌∙◌}
use Rattle.std.proofs.Common.{arith, rules, tests}
use Rattle.std.proofs.lemmas.Iterator.{YieldsList-from_range}
use Rattle.std.proofs.lemmas.Iterator.Search.{all_from_yields_List}
use lib.Dec.{eqb}
use lib.ListN.{take}
use Rattle.set_table.specs.Rows.{slot_in}
use Rattle.set_table.specs.Shape.{times}
use Rattle.set_table.specs.declared.Slot.TheVariants.{Key}
use Rattle.set_wellformed.proofs.Decide.{keys_list}
use Rattle.set_wellformed.proofs.keys_once.Goals as goal

pub returns : goal.returns
returns c =
    let o = map slot_in (take c.args.n c.args.order) in
    all_from_yields_List (λ k. eqb (times (Key k) o) 1) _ _ _ c.all.ensures.ran (YieldsList-from_range 0 c.args.keys c.args.keys refl (omega arith)) (λ x b q k. search (rules, tests)) ∙ keys_list o c.args.keys
