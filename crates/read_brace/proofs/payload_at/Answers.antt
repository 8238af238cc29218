use mathlib.Core.Path.{refl, sym}
use Rattle.base_lists.proofs.Parts.{slice_part}
use Rattle.read_brace.specs.Brace.{payload_at}
use Rattle.read_brace.proofs.Laws as laws
use borrow.Author.Rules.{rules}
use Rattle.read_brace.proofs.payload_at.Goals as goal

pub slice_bounds-result-count : goal.slice_bounds-result-count
slice_bounds-result-count c = rw c.payload_range-r.ensures (laws.range_in c.args.text.now c.args.place).ordered

pub slice_bounds-result-start : goal.slice_bounds-result-start
slice_bounds-result-start c = rw c.payload_range-r.ensures (laws.range_in c.args.text.now c.args.place).ordered

pub slice_bounds-result-end : goal.slice_bounds-result-end
slice_bounds-result-end c = rw c.payload_range-r.ensures (laws.range_in c.args.text.now c.args.place).within

pub returns : goal.returns
returns c = record {
  result_value = rw c.payload_range-r.ensures (sym (slice_part (payload_at c.args.text.now c.args.place).from (payload_at c.args.text.now c.args.place).to c.args.text.now));
  ref_ptr_value = rw c.payload_range-r.ensures refl;
}
