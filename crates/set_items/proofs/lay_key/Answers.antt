use Rattle.set_items.proofs.Laying as laws
use Rattle.set_table.specs.Types.{two, value_bytes}
use borrow.Author.Rules.{rules}
use Rattle.set_items.proofs.lay_key.Goals as goal

pub returns-in-Range : goal.returns-in-Range
returns-in-Range c =
    let a = c.args in
    let t = two a.first.now a.second.now in let r = laws.by_name_lem a.c a.out.now (value_bytes t a.row.value) (laws.range_name t c.in-Range.is c.range_of.ensures) (laws.pair c.lay_pair.ensures) in record { value = r.0; out_after = r.1 }

pub returns-in-Lang : goal.returns-in-Lang
returns-in-Lang c =
    let a = c.args in
    let t = two a.first.now a.second.now in let r = laws.by_name_lem a.c a.out.now (value_bytes t a.row.value) (laws.lang_name_lem t c.in-Lang.is) (laws.pair c.lay_pair-in-Lang.ensures) in record { value = r.0; out_after = r.1 }
