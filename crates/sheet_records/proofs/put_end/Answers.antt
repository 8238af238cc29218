use native.Mathlib.Omega.{arith}
use lib.ListN.{length-set}
use Rattle.base_bytes.specs.Bytes.{tab}
use Rattle.sheet_records.proofs.Lines as laws
use borrow.Author.Rules.{rules}
use Rattle.sheet_records.proofs.put_end.Goals as goal

pub bounds-out-at : goal.bounds-out-at
bounds-out-at c =
    laws.lf_room c.args.given c.args.quoted c.args.raw.now c.args.out.now c.args.at c.requires

pub put_id-to-requires : goal.put_id-to-requires
put_id-to-requires c =
    omega (arith, length-set c.args.out.now c.args.at tab, laws.tab_room c.args.given c.args.quoted c.args.raw.now c.args.out.now c.args.at c.requires c.if-given.true)

pub bounds-out-to : goal.bounds-out-to
bounds-out-to c =
    (laws.id_behind c.args.given c.args.quoted c.args.raw.now c.args.out.now c.args.at c.requires c.if-given.true c.put_id-to.ensures.value c.put_id-to.ensures.out_after).0

pub overflow_add-result : goal.overflow_add-result
overflow_add-result c =
    omega (arith, laws.id_behind c.args.given c.args.quoted c.args.raw.now c.args.out.now c.args.at c.requires c.if-given.true c.put_id-to.ensures.value c.put_id-to.ensures.out_after)

pub shape_of-out-then-given : goal.shape_of-out-then-given
shape_of-out-then-given c =
    let k = (laws.id_behind c.args.given c.args.quoted c.args.raw.now c.args.out.now c.args.at c.requires c.if-given.true c.put_id-to.ensures.value c.put_id-to.ensures.out_after).1 in simp length-set (omega (arith, k))

pub returns-then-given : goal.returns-then-given
returns-then-given c = let r = laws.end_given c.args.given c.args.quoted c.args.raw.now c.args.out.now c.args.at c.requires c.if-given.true c.put_id-to.ensures.value c.put_id-to.ensures.out_after in record { value = r.0; out_after = r.1 }

pub bounds-out-at-2 : goal.bounds-out-at-2
bounds-out-at-2 c =
    laws.lf_room c.args.given c.args.quoted c.args.raw.now c.args.out.now c.args.at c.requires

pub returns : goal.returns
returns c = let r = laws.end_none c.args.given c.args.quoted c.args.raw.now c.args.out.now c.args.at c.requires c.if-given.false in record { value = r.0; out_after = r.1 }
