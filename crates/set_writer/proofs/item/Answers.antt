use Rattle.set_table.specs.Types.{two, value_bytes}
use native.Mathlib.Omega.{arith}
use Rattle.set_writer.proofs.Items as items
use borrow.Author.Rules.{rules}
use Rattle.set_writer.proofs.Fills as fills
use Rattle.set_writer.proofs.item.Goals as goal

pub put_item-requires : goal.put_item-requires
put_item-requires c =
    let t = two c.args.first.now c.args.second.now in let v = c.args.value in
    items.item_room c.args.at c.args.name.now (value_bytes t v) (items.value_of t v c.raw_bytes-s.ensures c.is_quoted-quoted.ensures) (c.requires.value_in_bounds c.if-really.true)

pub returns-then-really : goal.returns-then-really
returns-then-really c =
    let t = two c.args.first.now c.args.second.now in let v = c.args.value in
    fills.both (items.item_written c.args.at c.args.name.now (value_bytes t v) (items.value_of t v c.raw_bytes-s.ensures c.is_quoted-quoted.ensures) c.args.out.now
    (items.value_short t c.args.at c.args.name.now v c.requires.at_le_max_items.1 c.raw_bytes-s.ensures c.is_quoted-quoted.ensures) c.if-really.true c.put_item.ensures.value
    c.put_item.ensures.out_after)

pub overflow_add-result-2 : goal.overflow_add-result-2
overflow_add-result-2 c =
    let t = two c.args.first.now c.args.second.now in let v = c.args.value in
    omega (
      arith,
      c.requires.at_le_max_items,
      (items.item_measured c.args.at c.args.name.now (value_bytes t v)
          (items.value_of t v c.raw_bytes-s.ensures c.is_quoted-quoted.ensures) c.args.out.now
          (items.value_short t c.args.at c.args.name.now v c.requires.at_le_max_items.1 c.raw_bytes-s.ensures c.is_quoted-quoted.ensures) c.if-really.false
          c.escaped_len.ensures).0.1,
    )

pub overflow_add-result-3 : goal.overflow_add-result-3
overflow_add-result-3 c =
    let t = two c.args.first.now c.args.second.now in let v = c.args.value in
    omega (
      arith,
      c.requires.at_le_max_items,
      (items.item_measured c.args.at c.args.name.now (value_bytes t v)
          (items.value_of t v c.raw_bytes-s.ensures c.is_quoted-quoted.ensures) c.args.out.now
          (items.value_short t c.args.at c.args.name.now v c.requires.at_le_max_items.1 c.raw_bytes-s.ensures c.is_quoted-quoted.ensures) c.if-really.false
          c.escaped_len.ensures).0.1,
    )

pub returns : goal.returns
returns c =
    let t = two c.args.first.now c.args.second.now in let v = c.args.value in
    fills.both (items.item_measured c.args.at c.args.name.now (value_bytes t v) (items.value_of t v c.raw_bytes-s.ensures c.is_quoted-quoted.ensures)
    c.args.out.now (items.value_short t c.args.at c.args.name.now v c.requires.at_le_max_items.1 c.raw_bytes-s.ensures c.is_quoted-quoted.ensures)
    c.if-really.false c.escaped_len.ensures)
