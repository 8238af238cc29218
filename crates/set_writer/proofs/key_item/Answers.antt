use mathlib.Core.List.{[], ◌∷◌}
use native.Mathlib.Omega.{arith}
use Rattle.block_grammar.specs.Meaning.{lang_name}
use Rattle.set_table.specs.Types.{two, value_bytes}
use Rattle.set_marks.proofs.Values as values
use Rattle.set_writer.proofs.Walks as walks
use borrow.Author.Rules.{rules}
use Rattle.set_writer.proofs.Fills as fills
use Rattle.set_writer.proofs.key_item.Goals as goal

pub item-requires : goal.item-requires
item-requires c =
    let t = two c.args.first.now c.args.second.now in let v = value_bytes t c.args.row.value in record { at_le_max_items = (omega (arith, c.requires.at_le_max_text), values.range_fits t _ _ _ c.range_of.ensures (omega (arith, c.in-Range.known_told-1-own.given))); value_in_bounds = walks.one_room c.args.really c.args.out.now c.args.at _ v (walks.range_pairs t (v ∷ []) _ _ _ c.in-Range.is c.range_of.ensures) c.requires.row_in_bounds }

pub item-requires-in-Lang : goal.item-requires-in-Lang
item-requires-in-Lang c =
    let t = two c.args.first.now c.args.second.now in let v = value_bytes t c.args.row.value in record { at_le_max_items = (omega (arith, c.requires.at_le_max_text), omega arith); value_in_bounds = walks.one_room c.args.really c.args.out.now c.args.at lang_name v (walks.lang_pairs t (v ∷ []) c.in-Lang.is) c.requires.row_in_bounds }

pub returns-in-Range : goal.returns-in-Range
returns-in-Range c =
    let t = two c.args.first.now c.args.second.now in let v = value_bytes t c.args.row.value in
    fills.both (walks.one_item c.args.really c.args.out.now c.args.at _ v (walks.range_pairs t (v ∷ []) _ _ _ c.in-Range.is c.range_of.ensures) c.item.ensures.value.0 c.item.ensures.out_after)

pub returns-in-Lang : goal.returns-in-Lang
returns-in-Lang c =
    let t = two c.args.first.now c.args.second.now in let v = value_bytes t c.args.row.value in
    fills.both (walks.one_item c.args.really c.args.out.now c.args.at lang_name v (walks.lang_pairs t (v ∷ []) c.in-Lang.is) c.item-in-Lang.ensures.value.0 c.item-in-Lang.ensures.out_after)
