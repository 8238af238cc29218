use mathlib.Core.Path.{◌∙◌}
use Rattle.std.proofs.Common.{rules, tests}
use Rattle.std.proofs.lemmas.Iterator.{YieldsList-from_slice}
use Rattle.std.proofs.lemmas.Iterator.Search.{all_from_yields_List}
use lib.ListN.{take}
use Rattle.set_table.specs.Types.{two}
use Rattle.set_values.specs.Values.{class_ok}
use Rattle.set_wellformed.proofs.Decide.{all_list}
use Rattle.set_wellformed.proofs.classes_ok.Goals as goal

pub returns : goal.returns
returns c =
    let t = two c.args.first.now c.args.second.now in
    all_from_yields_List (class_ok t) _ _ _ c.all.ensures.ran (YieldsList-from_slice (take c.args.n c.args.classes) (cc)) (λ x b q k. search (rules, tests))
    ∙ all_list (class_ok t) (take c.args.n c.args.classes)
