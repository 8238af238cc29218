use mathlib.Core.Path.{◌≡◌}
use native.Mathlib.Omega.{arith}
use lib.ListN.{length}
use Rattle.sheet_totals.specs.Totals.{total_places}
use Rattle.door_totals.proofs.Says as laws
use Rattle.door_totals.proofs.lay_numbers.Goals as goal

pub returns : goal.returns
returns c =
    let long : length c.args.t.numbers ≡ total_places = c.well_formed.0.1.1.0.1.0.1 in
    rw c.copy_from_slice.ensures.after (laws.told_copied c.min-n.result c.args.totals.now c.args.t.numbers (omega (arith, c.min-n.ensures, long)))
