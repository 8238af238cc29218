use mathlib.Core.Path.{◌∙◌}
use Rattle.std.proofs.Common.{rules, tests}
use Rattle.std.proofs.lemmas.Iterator.{YieldsList-from_slice}
use Rattle.std.proofs.lemmas.Iterator.Consumers.{YieldsList-at, YieldsList-from_filter, count_from_yields_List}
use lib.Dec.{eqb}
use lib.ListN.{take}
use Rattle.set_table.specs.Shape.{slot_number}
use Rattle.set_wellformed.proofs.Decide.{times_filter}
use Rattle.set_wellformed.proofs.times_in.Goals as goal

pub returns : goal.returns
returns c =
    let places = take c.args.n c.args.order in
    count_from_yields_List _ _ c.count.ensures.ran
    (YieldsList-from_filter _ (λ p. eqb (slot_number c.args.x) (slot_number p.slot)) (YieldsList-at c.filter.ensures.source (YieldsList-from_slice places (cc))) c.filter.ensures.closure (λ x r q k. search (rules, tests)))
    ∙ times_filter c.args.x places
