use mathlib.Core.Path.{◌∙◌, ap}
use native.Mathlib.Omega.{arith}
use Rattle.base_lists.specs.Lists.{begins_pair}
use Rattle.base_lists.proofs.Scan.{run_le}
use Rattle.base_bytes.specs.Bytes.{is_space}
use Rattle.run_spots.proofs.Leaves as laws
use borrow.Author.Rules.{rules}
use Rattle.run_spots.proofs.opens_comment.Goals as goal

pub pair_at-requires : goal.pair_at-requires
pair_at-requires c = omega (arith, c.trim_ascii_start-from.ensures, run_le is_space c.args.line.now)

pub returns : goal.returns
returns c = (c.pair_at.ensures) ∙ ap (begins_pair 123 37) (laws.front c.args.line.now (c.trim_ascii_start-from.ensures))
