use native.Mathlib.Omega.{arith}
use Rattle.sheet_mends.proofs.Assembling as laws
use borrow.Author.Rules.{rules}
use Rattle.sheet_mends.proofs.tell_rest.Goals as goal

pub tell_kept-requires : goal.tell_kept-requires
tell_kept-requires c = record { from_le_to = (c.requires.to_in_bounds.0, (omega arith, c.requires.to_in_bounds.1)); index_value = c.requires.index_value; all_in = c.requires.all_in; more_le_max_text = (omega (arith, c.line_count.ensures, c.requires.text_bound), omega (arith, c.requires.text_bound)); so_few = (omega (arith, c.tell_text-told.ensures.at_most, c.requires.so_far), omega (arith, c.tell_text-told.ensures.at_most, c.requires.so_far)) }

pub returns : goal.returns
returns c = record { out_after = laws.rest_told c.args.index.now c.args.text.now c.args.rest.now c.args.line c.args.offset (record { so = c.args.so; table = c.args.table.now; out = c.args.out.now }) c.line_count.ensures c.tell_text-told.ensures.out_after c.tell_kept.ensures.out_after; join_after = c.tell_text-told.ensures.join_after }
