use Rattle.set_table.specs.Types.{two}
use Rattle.set_lent.proofs.Standing as standing
use Rattle.set_lent.proofs.merge_both.Goals as goal

pub returns : goal.returns
returns c = standing.both_said (two c.args.first.now c.args.second.now) c.args.target c.args.leading c.args.incoming c.merge_leading_into-led.ensures c.merge_into-merged.ensures
