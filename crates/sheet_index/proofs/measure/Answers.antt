use Prim.Native.Nat.{◌-◌}
use native.Mathlib.Omega.{arith}
use lib.ListN.{length}
use Rattle.sheet_index.proofs.Rounds as round
use Rattle.sheet_index.proofs.Builds as laws
use borrow.Author.Rules.{rules}
use Rattle.sheet_index.proofs.measure.Goals as goal

pub sheet-init : goal.sheet-init
sheet-init c = laws.measures_start _ _ c.requires.0 c.requires.1

pub shape_of-join-then-block-eq0 : goal.shape_of-join-then-block-eq0
shape_of-join-then-block-eq0 c =
    round.join_same c.sheet.invariant.rounds c.next_block-next.ensures.value c.next_block-next.ensures.join_after

pub returns-then-block-eq0 : goal.returns-then-block-eq0
returns-then-block-eq0 c = let r = laws.measures_none c.sheet.invariant c.next_block-next.ensures.value c.next_block-next.ensures.join_after c.if-block-eq0.true in record { value = r.0; join_after = r.1 }

pub overflow_add-n : goal.overflow_add-n
overflow_add-n c =
    omega (arith, round.sum_le c.sheet.invariant.rounds c.next_block-next.ensures.value c.next_block-next.ensures.join_after c.if-block-eq0.false, round.next_within c.sheet.invariant.rounds c.next_block-next.ensures.value c.next_block-next.ensures.join_after c.if-block-eq0.false, c.sheet.invariant.rounds.fits)

pub overflow_add-records : goal.overflow_add-records
overflow_add-records c =
    omega (arith, laws.adds_few c.sheet.invariant c.next_block-next.ensures.value c.next_block-next.ensures.join_after c.if-block-eq0.false c.added-more.ensures, c.sheet.invariant.few, c.sheet.invariant.rounds.within, c.sheet.invariant.rounds.fits)

pub overflow_add-bytes : goal.overflow_add-bytes
overflow_add-bytes c =
    omega (arith, c.added-more.ensures.1, c.sheet.invariant.short, c.sheet.invariant.rounds.within, c.sheet.invariant.rounds.fits)

pub overflow_add-line : goal.overflow_add-line
overflow_add-line c =
    omega (arith, round.sum_le c.sheet.invariant.rounds c.next_block-next.ensures.value c.next_block-next.ensures.join_after c.if-block-eq0.false, round.next_within c.sheet.invariant.rounds c.next_block-next.ensures.value c.next_block-next.ensures.join_after c.if-block-eq0.false, c.sheet.invariant.rounds.fits)

pub sheet-smaller : goal.sheet-smaller
sheet-smaller c =
    round.rounds_less c.sheet.invariant.rounds c.next_block-next.ensures.value c.next_block-next.ensures.join_after c.if-block-eq0.false

pub sheet-preserved : goal.sheet-preserved
sheet-preserved c =
    laws.measures_go c.sheet.invariant c.next_block-next.ensures.value c.next_block-next.ensures.join_after c.if-block-eq0.false c.added-more.ensures
