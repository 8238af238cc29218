use Prim.Native.Nat.{◌-◌}
use native.Mathlib.Omega.{arith}
use lib.ListN.{length}
use borrow.Author.Rules.{rules}
use Rattle.sheet_index.proofs.Rounds as round
use Rattle.sheet_mends.proofs.Tells as laws
use Rattle.sheet_mends.proofs.tell_text.Goals as goal

pub sheet-init : goal.sheet-init
sheet-init c =
    laws.tells_start c.args.text.now c.args.index.now c.args.join.now c.args.table.now c.args.out.now c.args.line c.args.offset c.args.so c.requires.text_len_bound.0 c.requires.text_len_bound.1

pub shape_of-join-then-block-eq0 : goal.shape_of-join-then-block-eq0
shape_of-join-then-block-eq0 c =
    round.join_same c.sheet.invariant.rounds c.next_block-next.ensures.value c.next_block-next.ensures.join_after

pub shape_of-table-then-block-eq0 : goal.shape_of-table-then-block-eq0
shape_of-table-then-block-eq0 c = c.sheet.invariant.table_long

pub shape_of-out-then-block-eq0 : goal.shape_of-out-then-block-eq0
shape_of-out-then-block-eq0 c = c.sheet.invariant.out_long

pub returns-then-block-eq0 : goal.returns-then-block-eq0
returns-then-block-eq0 c = let r = laws.tells_none c.sheet.invariant c.next_block-next.ensures.value c.next_block-next.ensures.join_after c.if-block-eq0.true in record { out_after = r.0; join_after = r.1.0; at_most = r.1.1 }

pub overflow_add-n : goal.overflow_add-n
overflow_add-n c =
    omega (arith, round.sum_le c.sheet.invariant.rounds c.next_block-next.ensures.value c.next_block-next.ensures.join_after c.if-block-eq0.false, round.next_within c.sheet.invariant.rounds c.next_block-next.ensures.value c.next_block-next.ensures.join_after c.if-block-eq0.false, c.sheet.invariant.rounds.fits)

pub overflow_add-line : goal.overflow_add-line
overflow_add-line c =
    omega (arith, c.requires.line_le_max_text, round.sum_le c.sheet.invariant.rounds c.next_block-next.ensures.value c.next_block-next.ensures.join_after c.if-block-eq0.false, round.next_within c.sheet.invariant.rounds c.next_block-next.ensures.value c.next_block-next.ensures.join_after c.if-block-eq0.false, c.sheet.invariant.rounds.fits)

pub overflow_add-offset : goal.overflow_add-offset
overflow_add-offset c =
    omega (arith, c.requires.line_le_max_text, round.next_within c.sheet.invariant.rounds c.next_block-next.ensures.value c.next_block-next.ensures.join_after c.if-block-eq0.false, laws.at_before c.sheet.invariant c.next_block-next.ensures.value c.next_block-next.ensures.join_after c.if-block-eq0.false, c.sheet.invariant.rounds.fits)

pub tell_block-told-requires : goal.tell_block-told-requires
tell_block-told-requires c =
    (omega (arith, c.sheet.invariant.few, c.sheet.invariant.rounds.within, c.sheet.invariant.rounds.fits, c.requires.so_few), omega (arith, c.sheet.invariant.short, c.sheet.invariant.rounds.within, c.sheet.invariant.rounds.fits, c.requires.so_few))

pub overflow_add-own : goal.overflow_add-own
overflow_add-own c =
    omega (arith, round.sum_le c.sheet.invariant.rounds c.next_block-next.ensures.value c.next_block-next.ensures.join_after c.if-block-eq0.false, round.next_within c.sheet.invariant.rounds c.next_block-next.ensures.value c.next_block-next.ensures.join_after c.if-block-eq0.false, c.sheet.invariant.rounds.fits)

pub sheet-smaller : goal.sheet-smaller
sheet-smaller c =
    round.rounds_less c.sheet.invariant.rounds c.next_block-next.ensures.value c.next_block-next.ensures.join_after c.if-block-eq0.false

pub sheet-preserved : goal.sheet-preserved
sheet-preserved c =
    laws.tells_go c.sheet.invariant c.next_block-next.ensures.value c.next_block-next.ensures.join_after c.if-block-eq0.false c.tell_block-told.ensures.out_after c.tell_block-told.ensures.at_most
