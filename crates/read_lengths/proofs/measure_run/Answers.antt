use mathlib.Core.Path.{sym, ◌∙◌}
use Rattle.read_blocks.proofs.Finds as finds
use Rattle.read_lengths.proofs.Measured as laws
use borrow.Author.Rules.{rules}
use Rattle.read_lengths.proofs.measure_run.Goals as goal

pub slice_bounds-good_line-end : goal.slice_bounds-good_line-end
slice_bounds-good_line-end c =
    finds.joined_in_lem c.args.text.now c.args.at c.args.base c.args.join.now c.join_run-j.ensures.value c.join_run-j.ensures.join_after

pub slice_bounds-good_line-end-in-Ok : goal.slice_bounds-good_line-end-in-Ok
slice_bounds-good_line-end-in-Ok c =
    sym (finds.joined_long c.args.text.now c.args.at c.args.base c.args.join.now c.join_run-j.ensures.value c.join_run-j.ensures.join_after)

pub returns-then-good_line : goal.returns-then-good_line
returns-then-good_line c = record {
  value = laws.good_measured c.args.text.now c.args.at c.args.base c.args.join.now c.join_run-j.ensures.value c.join_run-j.ensures.join_after c.in-Ok.is
      (sym c.good_line.ensures ∙ c.if-good_line.true);
  join_after = finds.good_holds c.args.text.now c.args.at c.args.base c.args.join.now c.join_run-j.ensures.value
      c.join_run-j.ensures.join_after c.in-Ok.is (sym c.good_line.ensures ∙ c.if-good_line.true);
}

pub returns-in-Err : goal.returns-in-Err
returns-in-Err c = record { value = laws.run-measured c.args.text.now c.args.at c.args.base c.args.join.now c.join_run-j.ensures.value c.join_run-j.ensures.join_after c.in-Err.is; join_after = finds.run_holds c.args.text.now c.args.at c.args.base c.args.join.now c.join_run-j.ensures.value c.join_run-j.ensures.join_after c.in-Err.is }

pub returns-else-good_line : goal.returns-else-good_line
returns-else-good_line c = record {
  value = laws.bad_measured c.args.text.now c.args.at c.args.base c.args.join.now c.join_run-j.ensures.value c.join_run-j.ensures.join_after c.in-Ok.is
      (sym c.good_line.ensures ∙ c.if-good_line.false);
  join_after = finds.bad_holds c.args.text.now c.args.at c.args.base c.args.join.now c.join_run-j.ensures.value c.join_run-j.ensures.join_after
      c.in-Ok.is (sym c.good_line.ensures ∙ c.if-good_line.false);
}
