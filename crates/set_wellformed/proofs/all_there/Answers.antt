use mathlib.Core.Path.{sym, ◌∙◌}
use Rattle.std.proofs.Common.{rules, tests}
use Rattle.std.proofs.lemmas.Iterator.{YieldsList-from_slice}
use Rattle.std.proofs.lemmas.Iterator.Search.{all_from_yields_List}
use lib.ListN.{take}
use Rattle.base_lists.proofs.Each.{all_map}
use Rattle.set_table.specs.Rows.{slot_in}
use Rattle.set_wellformed.specs.Inner.{present_by}
use Rattle.set_wellformed.proofs.Decide.{all_list}
use Rattle.set_wellformed.proofs.all_there.Goals as goal

pub returns : goal.returns
returns c =
    let places = take c.args.n c.args.order in
    all_from_yields_List (λ p. present_by c.args.id c.args.class c.args.keys (slot_in p)) _ _ _ c.all.ensures.ran (YieldsList-from_slice places (cc)) (λ x b q k. search (rules, tests))
    ∙ all_list (λ p. present_by c.args.id c.args.class c.args.keys (slot_in p)) places
    ∙ sym (all_map (present_by c.args.id c.args.class c.args.keys) slot_in places)
