use mathlib.Core.Path.{refl}
use native.Mathlib.Omega.{arith}
use Rattle.set_marks.specs.Marks.{bytes_in}
use lib.ListN.{length-set}
use Rattle.set_writer.proofs.Items as items
use borrow.Author.Rules.{rules}
use Rattle.set_writer.proofs.Fills as fills
use Rattle.set_writer.proofs.put_item.Goals as goal

pub overflow_add-k-2 : goal.overflow_add-k-2
overflow_add-k-2 c = omega (arith, c.requires, items.item_length c.args.at c.args.name.now (bytes_in c.args.quoted c.args.s.now))

pub bounds-out-k : goal.bounds-out-k
bounds-out-k c =
    let k = simp length-set at c.put_bytes.auto.out in omega (arith, c.requires, items.item_length c.args.at c.args.name.now (bytes_in c.args.quoted c.args.s.now), k)

pub overflow_add-out : goal.overflow_add-out
overflow_add-out c = omega (arith, c.requires, items.item_length c.args.at c.args.name.now (bytes_in c.args.quoted c.args.s.now))

pub bounds-out-k-2 : goal.bounds-out-k-2
bounds-out-k-2 c =
    let k = simp length-set at c.put_bytes.auto.out in simp length-set (omega (arith, c.requires, items.item_length c.args.at c.args.name.now (bytes_in c.args.quoted c.args.s.now), k))

pub overflow_add-k-3 : goal.overflow_add-k-3
overflow_add-k-3 c = omega (arith, c.requires, items.item_length c.args.at c.args.name.now (bytes_in c.args.quoted c.args.s.now))

pub put_escaped-e-requires : goal.put_escaped-e-requires
put_escaped-e-requires c =
    let k = simp length-set at c.put_bytes.auto.out in simp length-set (omega (arith, c.requires, items.item_length c.args.at c.args.name.now (bytes_in c.args.quoted c.args.s.now), k))

pub bounds-out-e : goal.bounds-out-e
bounds-out-e c =
    let k = simp length-set at c.put_bytes.auto.out in let l = simp length-set at c.put_escaped-e.auto.out in omega (arith, c.requires, items.item_length c.args.at c.args.name.now (bytes_in c.args.quoted c.args.s.now), k, l, c.put_escaped-e.ensures.value)

pub overflow_add-result : goal.overflow_add-result
overflow_add-result c =
    omega (arith, c.requires, items.item_length c.args.at c.args.name.now (bytes_in c.args.quoted c.args.s.now), c.put_escaped-e.ensures.value)

pub shape_of-out : goal.shape_of-out
shape_of-out c = let k = simp length-set at c.put_bytes.auto.out in let l = simp length-set at c.put_escaped-e.auto.out in simp length-set (omega (arith, k, l))

pub returns : goal.returns
returns c =
    fills.both (items.item_put c.args.at c.args.name.now (bytes_in c.args.quoted c.args.s.now) c.args.out.now c.lead.ensures refl c.put_bytes.ensures c.put_escaped-e.ensures.value c.put_escaped-e.ensures.out_after)
