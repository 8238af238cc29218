use native.Mathlib.Omega.{arith}
use borrow.Author.Tests.{not-true, not-false}
use lib.Seq.{length-sets}
use Rattle.sheet_records.specs.Writing.{raw_id}
use Rattle.sheet_records.proofs.Lines as laws
use borrow.Author.Rules.{rules}
use Rattle.sheet_records.proofs.put_record.Goals as goal

pub returns-then-not-has_room : goal.returns-then-not-has_room
returns-then-not-has_room c = let r = laws.put_no c.args.line c.args.count c.args.offset c.args.given c.args.quoted c.args.raw.now c.args.out.now
    c.args.at c.numbers_size-n.ensures.0 c.id_len.ensures c.has_room.ensures (c.if-not-has_room.true) in record { value = r.0; out_after = r.1.0; result_value = r.1.1 }

pub overflow_add-at : goal.overflow_add-at
overflow_add-at c =
    let k =
    laws.line_room c.args.line c.args.count c.args.offset c.args.given c.args.quoted c.args.raw.now c.args.out.now
    c.args.at c.numbers_size-n.ensures.0 c.id_len.ensures c.has_room.ensures
    (c.if-not-has_room.false) in
    omega (arith, k)

pub put_end-next-requires : goal.put_end-next-requires
put_end-next-requires c =
    let k = laws.line_room c.args.line c.args.count c.args.offset c.args.given c.args.quoted c.args.raw.now c.args.out.now
    c.args.at c.numbers_size-n.ensures.0
    c.id_len.ensures
    c.has_room.ensures
    (c.if-not-has_room.false) in
    rw (c.put_bytes.ensures, length-sets) k

pub row_of-requires : goal.row_of-requires
row_of-requires c =
    omega (arith, c.put_end-next.ensures.value, laws.end_long (raw_id c.args.given c.args.quoted c.args.raw.now))

pub returns : goal.returns
returns c =
    let size = c.numbers_size-n.ensures in
    let r = laws.put_yes c.args.line c.args.count c.args.offset c.args.given c.args.quoted c.args.raw.now c.args.out.now
    c.args.at size.0 c.id_len.ensures
    c.has_room.ensures
    (c.if-not-has_room.false)
    (laws.laid_numbers c.args.line c.args.count c.args.offset (size, c.lay_numbers.ensures.out_after) c.bytes_of.ensures)
    c.put_bytes.ensures c.put_end-next.ensures.value c.put_end-next.ensures.out_after
    c.row_of.ensures in record { value = r.0; out_after = r.1.0; result_value = r.1.1 }
