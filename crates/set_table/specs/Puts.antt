-- What the items of a payload put into a set, as ranges of the first text: each item's parts stand at its place.
use Rattle.std.specs.Prelude.{ℕ, ◌+◌, cond, length}
use mathlib.Core.List.{List, [], ◌∷◌, map, flat_map}
use Rattle.base_lists.specs.Lists.{same}
use Rattle.block_grammar.specs.Grammar.{Item, Placed}
use Rattle.block_grammar.specs.Meaning.{PieceAt, piece_ranges, or_whole, id_name, class_name}
use Rattle.set_table.specs.Rows.{Put}
use Rattle.set_table.specs.declared.Origin.TheVariants.{First}
use Rattle.set_table.specs.declared.Text.{Text}
use Rattle.set_table.specs.declared.Text.TheVariants as text
use Rattle.set_table.specs.declared.Value.{Value}
use Rattle.set_table.specs.declared.Name.TheVariants as name

abbrev pub value_of : Text → Value
value_of x = record { text = x }

-- "a class piece is as its value": plain of a plain one, quoted of a quoted one
abbrev pub piece_of : (ℕ → ℕ → Text) → PieceAt → Put
piece_of kind r = Put.class (value_of (kind r.from r.to))

-- "Keys `id` and `class`, bare or valued, go to the id and the classes."
unfoldable pub by_name : ℕ → List ℕ → Text → List Put → List Put
by_name at k x classes =
    cond (same k id_name) (Put.ident (value_of x) ∷ [])
    (cond (same k class_name) classes
    (Put.key (name.Range First at (at + length k)) (value_of x) ∷ []))

-- the value v of the key k, whose first byte stands at `from`
unfoldable pub valued : ℕ → List ℕ → (ℕ → ℕ → Text) → ℕ → List ℕ → List Put
valued at k kind from v = by_name at k (kind from (from + length v)) (or_whole (Put.class (value_of (kind from (from + length v)))) (map (piece_of kind) (piece_ranges from from v)))

unfoldable pub puts_of : ℕ → Item → List Put
puts_of at (Item.tag t) = Put.key name.Lang (value_of (text.Plain First (at + 1) (at + 1 + length t))) ∷ []
puts_of at (Item.id n) = Put.ident (value_of (text.Plain First (at + 1) (at + 1 + length n))) ∷ []
puts_of at (Item.class n) = Put.class (value_of (text.Plain First (at + 1) (at + 1 + length n))) ∷ []
puts_of at (Item.plain k v) = valued at k (λ f e. text.Plain First f e) (at + length k + 1) v
puts_of at (Item.quoted k q v) = valued at k (λ f e. text.Quoted First f e) (at + length k + 2) v
puts_of at (Item.bare n) = by_name at n text.Empty (Put.class (value_of text.Empty) ∷ [])

unfoldable pub puts_in : List Placed → List Put
puts_in is = flat_map (λ p. puts_of p.at p.item) is
