use Rattle.std.proofs.Common.{rules, tests}
use Rattle.std.proofs.lemmas.Iterator.{YieldsList-from_slice}
use Rattle.std.proofs.lemmas.Iterator.Search.{any_from_yields_List}
use lib.ListN.{take}
use Rattle.base_lists.specs.Lists.{same}
use Rattle.set_table.specs.Types.{two, value_bytes}
use Rattle.set_once.proofs.Kept as laws
use Rattle.set_once.proofs.is_listed.Goals as goal

pub returns : goal.returns
returns c =
    let t = two c.args.first.now c.args.second.now in
    laws.any_among _ (value_bytes t) _ _ (any_from_yields_List (λ x. same (value_bytes t c.args.value) (value_bytes t x)) _ _ _ c.any.ensures.ran (YieldsList-from_slice (take c.args.n c.args.classes) (cc)) (λ x b q k. search (rules, tests)))
