use mathlib.Core.Path.{◌≡◌, ◌∙◌, ap}
use mathlib.Core.Bool.{not}
use Prim.Native.Nat.{◌+◌}
use Rattle.std.proofs.Common.{rules, tests}
use Rattle.std.proofs.lemmas.Iterator.{YieldsList-from_slice}
use Rattle.std.proofs.lemmas.Iterator.Consumers.{YieldsList-at, count_from_yields_List}
use Rattle.std.proofs.lemmas.Iterator.Search.{YieldsList-from_take_while}
use Rattle.std.proofs.lemmas.List.Folds.{length-prefix_len}
use lib.ListN.{drop}
use Rattle.base_lists.specs.Lists.{run}
use Rattle.base_bytes.specs.Bytes.{is_space}
use Rattle.set_fill.proofs.Fronts.{prefix_run, cut_at}
use Rattle.set_fill.proofs.piece_end.Goals as goal

pub returns : goal.returns
returns c =
    let at = c.args.at in
    let s = c.args.s.now in
    let behind = YieldsList-from_slice (drop at s) (c.iter.ensures.rest ∙ cut_at at _ s c.min.ensures) in
    let e : c.count.result ≡ run (λ b. not (is_space b)) (drop at s) =
    count_from_yields_List _ _ c.count.ensures.ran (YieldsList-from_take_while _ (λ b. not (is_space b)) (YieldsList-at c.take_while.ensures.source behind) c.take_while.ensures.closure c.take_while.ensures.done (λ x b q k. search (rules, tests)))
    ∙ length-prefix_len (λ b. not (is_space b)) (drop at s) ∙ prefix_run (λ b. not (is_space b)) (drop at s) in
    ap (λ n. at + n) e
