use native.Mathlib.Omega.{arith}
use Rattle.sheet_mends.proofs.Assembling as laws
use borrow.Author.Rules.{rules}
use Rattle.sheet_mends.proofs.lay_mended.Goals as goal

pub tell_kept-so-requires : goal.tell_kept-so-requires
tell_kept-so-requires c =
    let a = c.args in
    let f = laws.front_asks a.old.now a.new.now a.p a.e a.n a.index.now a.join.now a.seen c.requires.may_mend c.bytes_of-front.ensures in record { from_le_to = f.0; index_value = f.1.0; all_in = f.1.1; more_le_max_text = (omega arith, omega arith); so_few = (omega arith, omega arith) }

pub tell_rest-requires : goal.tell_rest-requires
tell_rest-requires c =
    let a = c.args in
    let k = c.tell_kept-so.ensures.at_most in
    let f = laws.rest_asks a.old.now a.new.now a.p a.e a.n a.index.now a.join.now a.seen c.requires.may_mend c.bytes_of-text.ensures c.bytes_of-rest.ensures in record { text_len_bound = f.0; text_bound = f.1.0; to_in_bounds = f.1.1.0; index_value = f.1.1.1.0; all_in = f.1.1.1.1; so_far = (omega (arith, k.0), omega (arith, k.1)) }

pub shape_of-out : goal.shape_of-out
shape_of-out c =
    omega (arith, c.put_header.auto, c.tell_kept-so.auto, c.tell_rest.auto)

pub returns : goal.returns
returns c =
    let a = c.args in
    let w = c.requires.may_mend in
    let room = c.requires.len_bound in
    let front = c.bytes_of-front.ensures in
    let text = c.bytes_of-text.ensures in
    let rest = c.bytes_of-rest.ensures in
    let head = c.put_header.ensures in
    let kept = c.tell_kept-so.ensures.out_after in
    let told = c.tell_rest.ensures in record { join_after = laws.again_join a.old.now a.new.now a.p a.e a.n a.index.now a.join.now a.seen w text rest a.join.now told.join_after; table_after = laws.laid_table a.old.now a.new.now a.p a.e a.n a.index.now a.join.now a.seen w text rest a.table.now a.out.now front room.0 room.1 head kept told.out_after; out_after = laws.laid_text a.old.now a.new.now a.p a.e a.n a.index.now a.join.now a.seen w text rest a.table.now a.out.now front room.0 room.1 head kept told.out_after }
