use mathlib.Core.Path.{◌∙◌}
use native.Mathlib.Omega.{arith}
use borrow.Author.Rules.{rules}
use borrow.Author.Tests.{tests}
use lib.ListN.{length, drop}
use Rattle.std.proofs.lemmas.Iterator.{YieldsList-from_range}
use Rattle.std.proofs.lemmas.Iterator.Search.{any_from_yields_List}
use Rattle.base_lists.specs.Lists.{begins_pair}
use Rattle.run_spots.proofs.Leaves as laws
use Rattle.run_spots.proofs.closes_comment.Goals as goal

pub returns : goal.returns
returns c =
    any_from_yields_List (λ i. begins_pair 37 125 (drop i c.args.s.now)) _ _ _ c.any.ensures.ran (YieldsList-from_range 0 (length c.args.s.now) (length c.args.s.now) (cc) (omega arith)) (λ x b q k. search (rules, tests))
    ∙ laws.closes_any c.args.s.now (length c.args.s.now) 0 (omega arith)
