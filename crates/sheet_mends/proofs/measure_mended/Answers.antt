use Rattle.sheet_mends.proofs.Assembling as laws
use borrow.Author.Rules.{rules}
use Rattle.sheet_mends.proofs.measure_mended.Goals as goal

pub tell_rest-requires : goal.tell_rest-requires
tell_rest-requires c =
    let a = c.args in
    let w = c.requires in
    let f = laws.rest_asks a.old.now a.new.now a.p a.e a.n a.index.now a.join.now a.seen w c.bytes_of-text.ensures c.bytes_of-rest.ensures in record { text_len_bound = f.0; text_bound = f.1.0; to_in_bounds = f.1.1.0; index_value = f.1.1.1.0; all_in = f.1.1.1.1; so_far = laws.so_far_lem a.old.now a.new.now a.p a.e a.n a.index.now a.join.now a.seen w }

pub returns : goal.returns
returns c =
    let a = c.args in
    let w = c.requires in record { records_value = laws.measured a.old.now a.new.now a.p a.e a.n a.index.now a.join.now a.seen w c.bytes_of-text.ensures c.bytes_of-rest.ensures _ _ c.tell_rest.ensures.out_after; join_after = laws.again_join a.old.now a.new.now a.p a.e a.n a.index.now a.join.now a.seen w c.bytes_of-text.ensures c.bytes_of-rest.ensures a.join.now c.tell_rest.ensures.join_after }
