use Rattle.run_scanners.specs.Scanners.{holds_open}
use borrow.Author.Rules.{rules}
use Rattle.run_scanners.proofs.holds_open_attr_block.Goals as goal

pub returns : goal.returns
unfolding holds_open
returns c = rw (c.is_held.ensures, c.hold_on.ensures.value, c.hold_start.ensures.value)
