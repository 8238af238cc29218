use Prim.Native.Nat.{◌-◌}
use native.Mathlib.Omega.{arith}
use lib.ListN.{length}
use Rattle.base_refusals.specs.Numbers.{max_text}
use Rattle.sheet_blocks.specs.Sheets.{tries_at}
use Rattle.sheet_blocks.proofs.SheetWalk.{walk_same, walk_ends, walk_meets}
use Rattle.sheet_report.specs.Parts.{lay_from}
use Rattle.sheet_report.proofs.Lays as lays
use borrow.Author.Rules.{rules}
use Rattle.sheet_report.proofs.lay_from.Goals as goal

pub loop-at-init : goal.loop-at-init
loop-at-init c =
    lays.lays_start _ _ _ _ _ (omega (arith, c.requires)) (omega (arith, c.requires)) (omega (arith, c.requires)) (omega (arith, c.requires))

pub overflow_sub-out : goal.overflow_sub-out
overflow_sub-out c = omega (arith, lays.lays_long c.loop-at.invariant, c.loop-at.invariant.room)

pub shape_of-join-then-out-k-lt-LINE : goal.shape_of-join-then-out-k-lt-LINE
shape_of-join-then-out-k-lt-LINE c = c.loop-at.invariant.walk.same

pub shape_of-out-then-out-k-lt-LINE : goal.shape_of-out-then-out-k-lt-LINE
shape_of-out-then-out-k-lt-LINE c = lays.lays_long c.loop-at.invariant

pub returns-then-out-k-lt-LINE : goal.returns-then-out-k-lt-LINE
returns-then-out-k-lt-LINE c = let r = lays.lays_stop c.loop-at.invariant c.loop-at-test.true (omega (arith, c.if-out-k-lt-LINE.true)) c.more.ensures in record { value = r.0; join_after = r.1.0; out_after = r.1.1 }

pub shape_of-join-then-block-eq0 : goal.shape_of-join-then-block-eq0
shape_of-join-then-block-eq0 c =
    walk_same c.loop-at.invariant.walk c.next_block-next.ensures.value c.next_block-next.ensures.join_after

pub shape_of-out-then-block-eq0 : goal.shape_of-out-then-block-eq0
shape_of-out-then-block-eq0 c = lays.lays_long c.loop-at.invariant

pub returns-then-block-eq0 : goal.returns-then-block-eq0
returns-then-block-eq0 c =
    let w = c.loop-at.invariant in let r = lays.lays_none w (omega (arith, c.if-out-k-lt-LINE.false)) (walk_ends w.walk c.next_block-next.ensures.value c.next_block-next.ensures.join_after c.if-block-eq0.true) c.done.ensures in record { value = r.0; join_after = r.1.0; out_after = r.1.1 }

pub overflow_add-n : goal.overflow_add-n
overflow_add-n c =
    omega (arith, (walk_meets c.loop-at.invariant.walk c.next_block-next.ensures.value c.next_block-next.ensures.join_after c.if-block-eq0.false).few)

pub lay_block-k-requires : goal.lay_block-k-requires
lay_block-k-requires c = omega (arith, c.if-out-k-lt-LINE.false, c.loop-at.invariant.room, lays.lays_long c.loop-at.invariant)

pub overflow_add-line : goal.overflow_add-line
overflow_add-line c =
    omega (arith, (walk_meets c.loop-at.invariant.walk c.next_block-next.ensures.value c.next_block-next.ensures.join_after c.if-block-eq0.false).few)

pub loop-at-smaller : goal.loop-at-smaller
loop-at-smaller c =
    (walk_meets c.loop-at.invariant.walk c.next_block-next.ensures.value c.next_block-next.ensures.join_after c.if-block-eq0.false).less

pub loop-at-preserved : goal.loop-at-preserved
loop-at-preserved c =
    let w = c.loop-at.invariant in
    lays.lays_go w (omega (arith, c.if-out-k-lt-LINE.false)) (walk_meets w.walk c.next_block-next.ensures.value c.next_block-next.ensures.join_after c.if-block-eq0.false) c.lay_block-k.ensures

pub shape_of-join : goal.shape_of-join
shape_of-join c = c.loop-at.invariant.walk.same

pub shape_of-out : goal.shape_of-out
shape_of-out c = lays.lays_long c.loop-at.invariant

pub returns : goal.returns
returns c = let r = lays.lays_end c.loop-at.invariant c.loop-at-test.false c.done-2.ensures in record { value = r.0; join_after = r.1.0; out_after = r.1.1 }
