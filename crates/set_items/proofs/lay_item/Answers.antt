use mathlib.Core.List.{[]}
use Rattle.set_items.proofs.Laying as laws
use Rattle.set_table.specs.Types.{two}
use Rattle.set_items.specs.Items.{item_as, named}
use borrow.Author.Rules.{rules}
use Rattle.set_items.proofs.lay_item.Goals as goal

pub returns-in-Missing : goal.returns-in-Missing
unfolding item_as
returns-in-Missing c = rw c.in-Missing.is (laws.said c.args.c c.args.out.now [] (laws.none_laid c.args.c c.args.out.now))

pub returns-in-Id : goal.returns-in-Id
unfolding item_as
returns-in-Id c =
    let a = c.args in
    laws.said a.c a.out.now (item_as named (two a.first.now a.second.now) a.item) (rw c.in-Id.is (laws.pair c.lay_pair.ensures))

pub returns-in-Class : goal.returns-in-Class
unfolding item_as
returns-in-Class c =
    let a = c.args in
    laws.said a.c a.out.now (item_as named (two a.first.now a.second.now) a.item) (rw c.in-Class.is (laws.pair c.lay_pair-in-Class.ensures))

pub returns-in-Key : goal.returns-in-Key
unfolding item_as
returns-in-Key c =
    let a = c.args in
    laws.said a.c a.out.now (item_as named (two a.first.now a.second.now) a.item) (rw c.in-Key.is (laws.pair c.lay_key.ensures))
