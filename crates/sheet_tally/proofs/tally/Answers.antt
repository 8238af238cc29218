use Rattle.sheet_tally.proofs.Tallies as laws
use borrow.Author.Rules.{rules}
use lib.ListN.{length}
use mathlib.Core.Path.{sym, ◌∙◌, ap}
use native.Mathlib.Omega.{arith}
use Prim.Native.Nat.{◌-◌}
use Rattle.sheet_tally.proofs.tally.Goals as goal

pub lines-init : goal.lines-init
lines-init c = laws.tallies_start _ _ c.requires.0 c.requires.1 c.one_sheet-totals.ensures

pub shape_of-join-then-text-at : goal.shape_of-join-then-text-at
shape_of-join-then-text-at c = c.lines.invariant.same

pub returns-then-text-at : goal.returns-then-text-at
returns-then-text-at c = let z = laws.tallies_end c.lines.invariant c.if-text-at.true in record { value = ap (λ ns. record { numbers = ns }) z.0; join_after = z.1 }

pub counted-totals-requires : goal.counted-totals-requires
counted-totals-requires c = record { low = laws.low_here c.lines.invariant c.if-text-at.false; text_len_bound = (c.lines.invariant.fits, laws.read_short c.lines.invariant c.if-text-at.false (sym c.may_open.ensures ∙ c.if-may_open.true) c.read_at-block.ensures.value c.read_at-block.ensures.join_after) }

pub lines-smaller-then-block-ne0 : goal.lines-smaller-then-block-ne0
lines-smaller-then-block-ne0 c = laws.tallies_on c.lines.invariant c.if-text-at.false (sym c.may_open.ensures ∙ c.if-may_open.true) c.read_at-block.ensures.value c.read_at-block.ensures.join_after c.counted-totals.ensures.value c.counted-totals.ensures.lows (λ z. omega (arith, z, c.if-block-ne0.true))

pub lines-preserved-then-block-ne0 : goal.lines-preserved-then-block-ne0
lines-preserved-then-block-ne0 c = laws.tallies_block c.lines.invariant c.if-text-at.false (sym c.may_open.ensures ∙ c.if-may_open.true) c.read_at-block.ensures.value c.read_at-block.ensures.join_after c.counted-totals.ensures.value c.counted-totals.ensures.lows (λ z. omega (arith, z, c.if-block-ne0.true))

pub lines-smaller-then-may_open : goal.lines-smaller-then-may_open
lines-smaller-then-may_open c = laws.tallies_less c.lines.invariant c.if-text-at.false c.line_from-l.ensures

pub lines-preserved-then-may_open : goal.lines-preserved-then-may_open
lines-preserved-then-may_open c = laws.tallies_none c.lines.invariant c.if-text-at.false (sym c.may_open.ensures ∙ c.if-may_open.true) c.read_at-block.ensures.value c.read_at-block.ensures.join_after c.counted-totals.ensures.value c.counted-totals.ensures.lows c.line_from-l.ensures (omega (arith, c.if-block-ne0.false))

pub lines-smaller : goal.lines-smaller
lines-smaller c = laws.tallies_less c.lines.invariant c.if-text-at.false c.line_from-l-in-lines.ensures

pub lines-preserved : goal.lines-preserved
lines-preserved c = laws.tallies_prose c.lines.invariant c.if-text-at.false c.line_from-l-in-lines.ensures (sym c.may_open.ensures ∙ c.if-may_open.false)
