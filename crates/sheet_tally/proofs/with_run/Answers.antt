use mathlib.Core.Path.{◌∙◌, ap}
use native.Mathlib.Omega.{arith}
use Rattle.base_refusals.specs.Numbers.{max_text}
use Rattle.sheet_totals.specs.declared.Totals.{Totals}
use Rattle.sheet_tally.specs.Inner.{add_at, with_run}
use Rattle.sheet_tally.proofs.Lows.{low_room, low_added}
use Rattle.sheet_tally.proofs.with_run.Goals as goal

pub add_at-t-requires : goal.add_at-t-requires
add_at-t-requires c = low_room c.requires.low 10 c.args.joined (omega arith) (omega (arith, c.requires.joined_le_max_text))

pub add_at-requires : goal.add_at-requires
add_at-requires c = low_room (low_added c.requires.low 10 c.args.joined max_text c.requires.joined_le_max_text.0 c.add_at-t.ensures) 11 c.args.lookahead (omega arith) (omega (arith, c.requires.joined_le_max_text))

pub returns : goal.returns
unfolding with_run
returns c = c.add_at.ensures ∙ ap (λ (t : Totals). record { numbers = add_at 11 c.args.lookahead t.numbers }) c.add_at-t.ensures
