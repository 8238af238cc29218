use Prim.Native.Nat.{◌-◌}
use native.Mathlib.Omega.{arith}
use lib.ListN.{length, drop}
use Rattle.text_lines.specs.Lines.{lines}
use Rattle.sheet_tally.specs.Inner.{lines_within}
use Rattle.sheet_tally.proofs.Counting as laws
use borrow.Author.Rules.{rules}
use Rattle.sheet_tally.proofs.lines_within.Goals as goal

pub lines-init : goal.lines-init
lines-init c = laws.within-start _ _ _

pub returns-then-left-eq0 : goal.returns-then-left-eq0
returns-then-left-eq0 c = laws.within_stop c.lines.invariant c.if-left-eq0.true

pub returns-then-text-from : goal.returns-then-text-from
returns-then-text-from c = laws.within_end c.lines.invariant c.if-text-from.true

pub overflow_sub-size : goal.overflow_sub-size
overflow_sub-size c = laws.size_from c.lines.invariant c.if-left-eq0.false c.if-text-from.false c.line_from-l.ensures

pub overflow_add-n : goal.overflow_add-n
overflow_add-n c = omega (arith, laws.within_room c.lines.invariant c.if-left-eq0.false c.if-text-from.false c.line_from-l.ensures)

pub returns-then-left-size : goal.returns-then-left-size
returns-then-left-size c = laws.within_last c.lines.invariant c.if-left-eq0.false c.if-text-from.false c.line_from-l.ensures c.if-left-size.true

pub lines-smaller : goal.lines-smaller
lines-smaller c = laws.within_less c.lines.invariant c.if-left-eq0.false c.if-text-from.false c.line_from-l.ensures

pub lines-preserved : goal.lines-preserved
lines-preserved c = laws.within_go c.lines.invariant c.if-left-eq0.false c.if-text-from.false c.line_from-l.ensures
