use mathlib.Core.Path.{◌∙◌}
use native.Mathlib.Omega.{arith}
use Rattle.sheet_mends.proofs.Assembling as laws
use borrow.Author.Rules.{rules}
use Rattle.sheet_mends.proofs.compare_old.Goals as goal

pub tell_text-first-requires : goal.tell_text-first-requires
tell_text-first-requires c = record { text_len_bound = (omega (arith, laws.part-sizes c.args.old.now c.bytes_of-front.result.now c.bytes_of-again.result.now c.bytes_of-rest.result.now c.args.p c.args.e c.requires.len_bound.0 c.requires.old_parts c.bytes_of-front.ensures c.bytes_of-again.ensures c.bytes_of-rest.ensures, c.requires.len_bound.0), c.requires.len_bound.1); line_le_max_text = (omega arith, omega arith); so_few = (omega arith, omega arith) }

pub tell_text-second-requires : goal.tell_text-second-requires
tell_text-second-requires c = record { text_len_bound = (omega (arith, laws.part-sizes c.args.old.now c.bytes_of-front.result.now c.bytes_of-again.result.now c.bytes_of-rest.result.now c.args.p c.args.e c.requires.len_bound.0 c.requires.old_parts c.bytes_of-front.ensures c.bytes_of-again.ensures c.bytes_of-rest.ensures, c.requires.len_bound.0), omega (arith, c.tell_text-first.auto.join, c.requires.len_bound.1)); line_le_max_text = (omega (arith, laws.part-sizes c.args.old.now c.bytes_of-front.result.now c.bytes_of-again.result.now c.bytes_of-rest.result.now c.args.p c.args.e c.requires.len_bound.0 c.requires.old_parts c.bytes_of-front.ensures c.bytes_of-again.ensures c.bytes_of-rest.ensures, c.requires.len_bound.0, c.line_count-line.ensures, laws.lines_few c.bytes_of-front.result.now), omega (arith, laws.part-sizes c.args.old.now c.bytes_of-front.result.now c.bytes_of-again.result.now c.bytes_of-rest.result.now c.args.p c.args.e c.requires.len_bound.0 c.requires.old_parts c.bytes_of-front.ensures c.bytes_of-again.ensures c.bytes_of-rest.ensures, c.requires.len_bound.0)); so_few = (omega (arith, c.tell_text-first.ensures.at_most), omega (arith, c.tell_text-first.ensures.at_most)) }

pub overflow_add-less : goal.overflow_add-less
overflow_add-less c =
    omega (arith, laws.part-sizes c.args.old.now c.bytes_of-front.result.now c.bytes_of-again.result.now c.bytes_of-rest.result.now c.args.p c.args.e c.requires.len_bound.0 c.requires.old_parts c.bytes_of-front.ensures c.bytes_of-again.ensures c.bytes_of-rest.ensures, c.requires.len_bound.0, c.line_count-line.ensures, c.line_count.ensures, laws.lines_few c.bytes_of-front.result.now, laws.lines_few c.bytes_of-again.result.now)

pub tell_text-third-requires : goal.tell_text-third-requires
tell_text-third-requires c = record { text_len_bound = (omega (arith, laws.part-sizes c.args.old.now c.bytes_of-front.result.now c.bytes_of-again.result.now c.bytes_of-rest.result.now c.args.p c.args.e c.requires.len_bound.0 c.requires.old_parts c.bytes_of-front.ensures c.bytes_of-again.ensures c.bytes_of-rest.ensures, c.requires.len_bound.0), omega (arith, c.tell_text-second.auto.join, c.tell_text-first.auto.join, c.requires.len_bound.1)); line_le_max_text = (omega (arith, laws.part-sizes c.args.old.now c.bytes_of-front.result.now c.bytes_of-again.result.now c.bytes_of-rest.result.now c.args.p c.args.e c.requires.len_bound.0 c.requires.old_parts c.bytes_of-front.ensures c.bytes_of-again.ensures c.bytes_of-rest.ensures, c.requires.len_bound.0, c.line_count-line.ensures, c.line_count.ensures, laws.lines_few c.bytes_of-front.result.now, laws.lines_few c.bytes_of-again.result.now), omega (arith, laws.part-sizes c.args.old.now c.bytes_of-front.result.now c.bytes_of-again.result.now c.bytes_of-rest.result.now c.args.p c.args.e c.requires.len_bound.0 c.requires.old_parts c.bytes_of-front.ensures c.bytes_of-again.ensures c.bytes_of-rest.ensures, c.requires.len_bound.0)); so_few = (omega (arith, c.tell_text-first.ensures.at_most, c.tell_text-second.ensures.at_most), omega (arith, c.tell_text-first.ensures.at_most, c.tell_text-second.ensures.at_most)) }

pub shape_of-join : goal.shape_of-join
shape_of-join c = c.tell_text-third.auto.join ∙ (c.tell_text-second.auto.join ∙ c.tell_text-first.auto.join)

pub returns : goal.returns
returns c = record { value = laws.seen_is c.args.old.now c.bytes_of-front.result.now c.bytes_of-again.result.now c.bytes_of-rest.result.now c.args.p c.args.e c.requires.len_bound.0 c.requires.old_parts c.bytes_of-front.ensures c.bytes_of-again.ensures c.bytes_of-rest.ensures c.args.index.now _ _ c.is_headed.ensures c.line_count-line.ensures c.line_count.ensures c.tell_text-first.ensures.out_after c.tell_text-second.ensures.out_after c.tell_text-third.ensures.out_after c.both.ensures; join_after = laws.seen_join c.args.old.now c.bytes_of-front.result.now c.bytes_of-again.result.now c.bytes_of-rest.result.now c.args.p c.args.e c.requires.len_bound.0 c.requires.old_parts c.bytes_of-front.ensures c.bytes_of-again.ensures c.bytes_of-rest.ensures c.args.join.now c.tell_text-first.ensures.join_after c.tell_text-second.ensures.join_after c.tell_text-third.ensures.join_after; records_le_max_text = laws.seen_short c.args.old.now c.bytes_of-front.result.now c.bytes_of-again.result.now c.bytes_of-rest.result.now c.args.p c.args.e c.requires.len_bound.0 c.requires.old_parts c.bytes_of-front.ensures c.bytes_of-again.ensures c.bytes_of-rest.ensures c.args.index.now _ _ c.is_headed.ensures c.line_count-line.ensures c.line_count.ensures c.tell_text-first.ensures.out_after c.tell_text-second.ensures.out_after c.tell_text-third.ensures.out_after c.tell_text-first.ensures.at_most c.tell_text-second.ensures.at_most c.tell_text-third.ensures.at_most }
