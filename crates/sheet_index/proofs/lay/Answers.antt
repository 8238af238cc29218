use Prim.Native.Nat.{◌-◌}
use native.Mathlib.Omega.{arith}
use mathlib.Core.Path.{◌∙◌, ap}
use lib.ListN.{length}
use lib.Seq.{length-sets}
use Rattle.sheet_records.specs.Records.{index_header}
use Rattle.sheet_index.proofs.Rounds as round
use Rattle.sheet_index.proofs.Builds as laws
use borrow.Author.Rules.{rules}
use Rattle.sheet_index.proofs.lay.Goals as goal

pub sheet-init : goal.sheet-init
sheet-init c =
    laws.lays_start _ _ _ c.args.out.now c.requires.text_len_bound.0 c.requires.text_len_bound.1 c.requires.text_len_bound_2.0 c.requires.text_len_bound_2.1 c.put_header.ensures

pub shape_of-join-then-block-eq0 : goal.shape_of-join-then-block-eq0
shape_of-join-then-block-eq0 c =
    round.join_same c.sheet.invariant.rounds c.next_block-next.ensures.value c.next_block-next.ensures.join_after

pub shape_of-table-then-block-eq0 : goal.shape_of-table-then-block-eq0
shape_of-table-then-block-eq0 c = c.sheet.invariant.table_long

pub shape_of-out-then-block-eq0 : goal.shape_of-out-then-block-eq0
shape_of-out-then-block-eq0 c = c.sheet.invariant.out_long ∙ (ap length c.put_header.ensures ∙ length-sets c.args.out.now 0 index_header)

pub returns-then-block-eq0 : goal.returns-then-block-eq0
returns-then-block-eq0 c =
    let w = laws.lays_none c.sheet.invariant c.next_block-next.ensures.value c.next_block-next.ensures.join_after c.if-block-eq0.true in record { join_after = w.0; table_after = laws.table_whole _ c.args.table.now c.requires.text_len_bound_2.0 w.1.0; out_after = laws.text_whole _ c.args.out.now c.requires.text_len_bound_2.1 c.put_header.ensures w.1.1 }

pub overflow_add-n : goal.overflow_add-n
overflow_add-n c =
    omega (arith, round.sum_le c.sheet.invariant.rounds c.next_block-next.ensures.value c.next_block-next.ensures.join_after c.if-block-eq0.false, round.next_within c.sheet.invariant.rounds c.next_block-next.ensures.value c.next_block-next.ensures.join_after c.if-block-eq0.false, c.sheet.invariant.rounds.fits)

pub overflow_add-line : goal.overflow_add-line
overflow_add-line c =
    omega (arith, round.sum_le c.sheet.invariant.rounds c.next_block-next.ensures.value c.next_block-next.ensures.join_after c.if-block-eq0.false, round.next_within c.sheet.invariant.rounds c.next_block-next.ensures.value c.next_block-next.ensures.join_after c.if-block-eq0.false, c.sheet.invariant.rounds.fits)

pub sheet-smaller-in-None : goal.sheet-smaller-in-None
sheet-smaller-in-None c =
    round.rounds_less c.sheet.invariant.rounds c.next_block-next.ensures.value c.next_block-next.ensures.join_after c.if-block-eq0.false

pub sheet-preserved-in-None : goal.sheet-preserved-in-None
sheet-preserved-in-None c =
    laws.lays_pass c.sheet.invariant c.next_block-next.ensures.value c.next_block-next.ensures.join_after c.if-block-eq0.false c.put_block.ensures.value c.put_block.ensures.out_after c.in-None.is

pub overflow_add-i : goal.overflow_add-i
overflow_add-i c =
    omega (arith, c.sheet.invariant.few, c.sheet.invariant.rounds.within, c.sheet.invariant.rounds.fits)

pub overflow_add-line-in-Some : goal.overflow_add-line-in-Some
overflow_add-line-in-Some c =
    omega (arith, round.sum_le c.sheet.invariant.rounds c.next_block-next.ensures.value c.next_block-next.ensures.join_after c.if-block-eq0.false, round.next_within c.sheet.invariant.rounds c.next_block-next.ensures.value c.next_block-next.ensures.join_after c.if-block-eq0.false, c.sheet.invariant.rounds.fits)

pub sheet-smaller : goal.sheet-smaller
sheet-smaller c =
    round.rounds_less c.sheet.invariant.rounds c.next_block-next.ensures.value c.next_block-next.ensures.join_after c.if-block-eq0.false

pub sheet-preserved : goal.sheet-preserved
sheet-preserved c =
    laws.lays_go c.sheet.invariant c.next_block-next.ensures.value c.next_block-next.ensures.join_after c.if-block-eq0.false c.put_block.ensures.value c.put_block.ensures.out_after c.in-Some.is c.put_row.ensures
