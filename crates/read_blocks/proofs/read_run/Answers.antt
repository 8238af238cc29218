use mathlib.Core.Path.{sym}
use Rattle.read_blocks.proofs.Finds as laws
use borrow.Author.Rules.{rules}
use Rattle.read_blocks.proofs.read_run.Goals as goal

pub slice_bounds-fill_chain-end : goal.slice_bounds-fill_chain-end
slice_bounds-fill_chain-end c =
    laws.joined_in_lem c.args.text.now c.args.at c.args.base c.args.join.now c.join_run-j.ensures.value c.join_run-j.ensures.join_after

pub slice_bounds-fill_chain-end-in-Ok : goal.slice_bounds-fill_chain-end-in-Ok
slice_bounds-fill_chain-end-in-Ok c =
    sym (laws.joined_long c.args.text.now c.args.at c.args.base c.args.join.now c.join_run-j.ensures.value c.join_run-j.ensures.join_after)

pub returns-then-is_unread : goal.returns-then-is_unread
returns-then-is_unread c =
    let g = laws.good_by _ _ _ (laws.joined_short c.args.text.now c.args.at c.args.base c.args.join.now c.join_run-j.ensures.value c.join_run-j.ensures.join_after
    c.requires) c.fill_chain-filled.ensures.value c.is_unread.ensures c.if-is_unread.true in record {
      value = laws.bad_read c.args.text.now c.args.at c.args.base c.args.join.now c.join_run-j.ensures.value c.join_run-j.ensures.join_after c.in-Ok.is g
          c.no_block-then-is_unread.ensures.value;
      join_after = laws.bad_holds c.args.text.now c.args.at c.args.base c.args.join.now c.join_run-j.ensures.value c.join_run-j.ensures.join_after c.in-Ok.is g;
    }

pub returns-in-Err : goal.returns-in-Err
returns-in-Err c = record {
  value = laws.run-unread c.args.text.now c.args.at c.args.base c.args.join.now c.join_run-j.ensures.value c.join_run-j.ensures.join_after c.in-Err.is
      c.no_block.ensures.value;
  join_after = laws.run_holds c.args.text.now c.args.at c.args.base c.args.join.now c.join_run-j.ensures.value c.join_run-j.ensures.join_after c.in-Err.is;
}

pub returns-else-is_unread : goal.returns-else-is_unread
returns-else-is_unread c =
    let g = laws.good_by _ _ _ (laws.joined_short c.args.text.now c.args.at c.args.base c.args.join.now c.join_run-j.ensures.value c.join_run-j.ensures.join_after c.requires)
    c.fill_chain-filled.ensures.value c.is_unread.ensures c.if-is_unread.false in record {
      value = laws.good_read c.args.text.now c.args.at c.args.base c.args.join.now c.join_run-j.ensures.value c.join_run-j.ensures.join_after c.in-Ok.is g c.fill_chain-filled.ensures.value
          c.in_second.ensures c.block_of.ensures;
      join_after = laws.good_holds c.args.text.now c.args.at c.args.base c.args.join.now c.join_run-j.ensures.value c.join_run-j.ensures.join_after c.in-Ok.is g;
    }
