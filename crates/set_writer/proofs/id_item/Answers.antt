use native.Mathlib.Omega.{arith}
use mathlib.Core.Path.{ap}
use Rattle.set_canon.specs.Canon.{pairs_of}
use Rattle.block_grammar.specs.Meaning.{id_name}
use Rattle.set_table.specs.Types.{two, value_bytes}
use Rattle.set_writer.specs.Inner.{id_pairs}
use Rattle.set_writer.proofs.Walks as walks
use borrow.Author.Rules.{rules}
use Rattle.set_writer.proofs.Fills as fills
use Rattle.set_writer.proofs.id_item.Goals as goal

pub item-requires : goal.item-requires
unfolding pairs_of
item-requires c =
    let a = c.args in
    let t = two a.first.now a.second.now in record { at_le_max_items = (omega (arith, c.requires.at_le_max_text), omega arith); value_in_bounds = walks.one_room a.really a.out.now a.at id_name (value_bytes t a.value) (ap (λ g. id_pairs t g a.value) c.if-given.true) c.requires.value_in_bounds }

pub returns-then-given : goal.returns-then-given
unfolding pairs_of
returns-then-given c =
    let a = c.args in
    let t = two a.first.now a.second.now in
    fills.both (walks.one_item a.really a.out.now a.at id_name (value_bytes t a.value) (ap (λ g. id_pairs t g a.value) c.if-given.true) c.item.ensures.value.0 c.item.ensures.out_after)

pub returns : goal.returns
unfolding pairs_of
returns c =
    let a = c.args in let t = two a.first.now a.second.now in
    fills.both (walks.no_item a.really a.out.now a.at (ap (λ g. id_pairs t g a.value) c.if-given.false))
