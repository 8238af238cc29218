use mathlib.Core.Path.{◌∙◌}
use native.Mathlib.Omega.{arith}
use Rattle.text_tabs.proofs.Laws.{capped_id}
use Rattle.run_spots.specs.Spots.{spot_after}
use Rattle.run_refused.proofs.Leaves.{behind_le}
use borrow.Author.Rules.{rules}
use Rattle.run_refused.proofs.spot_after.Goals as goal

pub returns : goal.returns
unfolding spot_after
returns c =
    rw (c.pass.ensures.value, c.column_behind.ensures ∙ capped_id _ (omega (arith, c.requires, behind_le c.args.p.scan.escaped c.args.p.column c.args.b)), c.inside_after.ensures, c.brace_after.ensures)
