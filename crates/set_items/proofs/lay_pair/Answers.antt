use Rattle.set_items.proofs.Laying as laws
use mathlib.Core.Path.{refl, ◌∙◌, ap}
use lib.ListN.{length}
use Rattle.set_table.specs.Types.{two, value_bytes}
use borrow.Author.Rules.{rules}
use Rattle.set_items.proofs.lay_pair.Goals as goal

pub put_value-requires : goal.put_value-requires
put_value-requires c =
    laws.value_room c.args.c (length c.args.name.now) c.room_of.ensures c.in-Ok.is c.value_len-v.ensures c.put_bytes.auto.out

pub returns-in-Err : goal.returns-in-Err
returns-in-Err c =
    let a = c.args in let r = laws.not_laid a.c a.name.now (value_bytes (two a.first.now a.second.now) a.value) a.out.now refl (c.value_len-v.ensures ∙ ap length (laws.value_of (two a.first.now a.second.now) a.value c.raw_bytes-s.ensures.0 c.is_quoted-quoted.ensures))
    c.room_of.ensures c.in-Err.is in record { value = r.0; out_after = r.1 }

pub returns-in-Ok : goal.returns-in-Ok
returns-in-Ok c =
    let a = c.args in
    let e = (laws.value_of (two a.first.now a.second.now) a.value c.raw_bytes-s.ensures.0 c.is_quoted-quoted.ensures) in let r = laws.was_laid a.c a.name.now (value_bytes (two a.first.now a.second.now) a.value) a.out.now refl (c.value_len-v.ensures ∙ ap length e)
    c.room_of.ensures c.in-Ok.is c.put_bytes.ensures (rw e at c.put_value.ensures) in record { value = r.0; out_after = r.1 }
