-- A set that is read is of the first text: each item puts parts of the text that it stands in.
-- Assumes nothing.
use mathlib.Core.Path.{◌≡◌, refl, ◌∙◌}
use mathlib.Core.Bool.{Bool, true, false, cond}
use mathlib.Core.List.{List, [], ◌∷◌, map, flat_map}
use Prim.Native.Nat.{ℕ, ◌+◌}
use lib.Dec.{ltb}
use lib.ListN.{length}
use lib.Seq.{slice}
use Rattle.base_lists.specs.Lists.{same}
use Rattle.base_refusals.specs.Numbers.{max_text}
use Rattle.base_refusals.specs.declared.Refusal.TheVariants.{TextTooLong}
use Rattle.block_grammar.specs.Grammar.{Item, Placed, Reading}
use Rattle.block_grammar.specs.Meaning.{PieceAt, piece_ranges, or_whole, id_name, class_name}
use Rattle.block_grammar.specs.Computed.{read_payload}
use Rattle.block_chain.specs.Computed.{read_blocks}
use Rattle.set_table.specs.Types.{Texts, one, two, empty_set}
use Rattle.set_table.specs.Rows.{Put, no_rows}
use Rattle.set_table.specs.Puts.{value_of, piece_of, by_name, valued, puts_of, puts_in}
use Rattle.set_table.specs.Filled.{refusing}
use Rattle.set_table.specs.declared.Origin.TheVariants.{First}
use Rattle.set_table.specs.declared.Text.{Text}
use Rattle.set_table.specs.declared.Text.TheVariants as text
use Rattle.set_table.specs.declared.Name.TheVariants as name
use Rattle.set_exchange.specs.Exchange.{firsts_by, exchanged}
use Rattle.set_fill.specs.Fill.{filled_by, filled_of, fill_at, chain_at}
use Rattle.proved_origins.specs.OneText.{text_is, is_all_of}
use Rattle.proved_origins.specs.Read.{ReadFirst, ReadJoined}
use Rattle.proved_origins.proofs.Pairs.{Pairs, pairs-append}
use Rattle.proved_origins.proofs.Alike.{IdentLike, RowsLike, PutLike, with_puts_lem}
use Rattle.proved_origins.proofs.Sets.{limited_alike}
use Rattle.proved_origins.proofs.Exchanged.{exchange_keeps}
use Rattle.proved_origins.proofs.OneText.{Of, NameOf, of_keeps, empty_of, follows_of, exchanged_of, behaves_as_before}

-- ---- what items put
abbrev Own : List Put → Type 0
Own ps = Pairs (PutLike (Of First) (NameOf First)) ps ps

value : (x : Text) → text_is First x ≡ true → Of First (value_of x) (value_of x)
value x e = record { is = refl; of = e }

by_name_lem : (at : ℕ) (k : List ℕ) (x : Text) (classes : List Put) → text_is First x ≡ true → Own classes → Own (by_name at k x classes)
unfolding by_name
by_name_lem at k x classes e h = go (same k id_name) (same k class_name)
  where
    go : (a b : Bool) → Own (cond a (Put.ident (value_of x) ∷ []) (cond b classes (Put.key (name.Range First at (at + length k)) (value_of x) ∷ [])))
    go true b = Pairs.more (PutLike.ident (value x e)) Pairs.none
    go false true = h
    go false false = Pairs.more (PutLike.key (record { is = refl; of = refl }) (value x e)) Pairs.none

module _ (kind : ℕ → ℕ → Text) (first : (from to : ℕ) → text_is First (kind from to) ≡ true) where
  pieces : (rs : List PieceAt) → Own (map (piece_of kind) rs)
  pieces [] = Pairs.none
  pieces (r ∷ rs) = Pairs.more (PutLike.class (value (kind r.from r.to) (first r.from r.to))) (pieces rs)

  or_whole_lem : {p : Put} (ps : List Put) → Own (p ∷ []) → Own ps → Own (or_whole p ps)
  or_whole_lem [] w h = w
  or_whole_lem (q ∷ ps) w h = h

  value_own : (at : ℕ) (k : List ℕ) (from : ℕ) (v : List ℕ) → Own (valued at k kind from v)
  unfolding valued
  value_own at k from v =
      by_name_lem at k (kind from (from + length v)) _ (first from (from + length v))
      (or_whole_lem (map (piece_of kind) (piece_ranges from from v)) (Pairs.more (PutLike.class (value (kind from (from + length v)) (first from (from + length v)))) Pairs.none)
      (pieces (piece_ranges from from v)))

item_own : (at : ℕ) (i : Item) → Own (puts_of at i)
unfolding puts_of
item_own at (Item.tag t) = Pairs.more (PutLike.key (record { is = refl; of = refl }) (value _ refl)) Pairs.none
item_own at (Item.id n) = Pairs.more (PutLike.ident (value _ refl)) Pairs.none
item_own at (Item.class n) = Pairs.more (PutLike.class (value _ refl)) Pairs.none
item_own at (Item.plain k v) = value_own (λ f e. text.Plain First f e) (λ f e. refl) at k (at + length k + 1) v
item_own at (Item.quoted k q v) = value_own (λ f e. text.Quoted First f e) (λ f e. refl) at k (at + length k + 2) v
item_own at (Item.bare n) = by_name_lem at n text.Empty _ refl (Pairs.more (PutLike.class (value text.Empty refl)) Pairs.none)

items_own : (is : List Placed) → Own (puts_in is)
unfolding puts_in flat_map
items_own [] = Pairs.none
items_own (p ∷ is) = pairs-append (item_own p.at p.item) (items_own is)

-- ---- what is read
none_own : RowsLike (Of First) (NameOf First) no_rows no_rows
none_own = record { ident = IdentLike.missing; classes = Pairs.none; keys = Pairs.none; order = refl }

reading_own : (t : Texts) (r : Reading) → is_all_of First (filled_by t r).set ≡ true
reading_own t Reading.refused = empty_of First
reading_own t (Reading.items is) = limited_alike (follows_of First) (with_puts_lem (of_keeps First t) none_own (items_own is))

sized_own : (t : Texts) (r : Reading) (b : Bool) → is_all_of First (cond b (refusing TextTooLong) (filled_by t r)).set ≡ true
sized_own t r true = empty_of First
sized_own t r false = reading_own t r

pub read_first : ReadFirst
unfolding fill_at filled_of chain_at
read_first =
    record {
      fill = λ m t at end. sized_own (one t) (read_payload m at (slice at end t)) (ltb max_text (length t));
      chain = λ m t from to. sized_own (one t) (read_blocks m from (slice from to t)) (ltb max_text (length t));
    }

-- ---- what was joined, as the second text
pub read_joined : ReadJoined
read_joined m t x from to =
    let a = (chain_at m x from to).set in
    let k = exchange_keeps (two x t) a in
    let b = (behaves_as_before First x t).one a (read_first.chain m x from to) in
    record { of = exchanged_of First a ∙ read_first.chain m x from to; means = k.means ∙ b.means; formed = λ h. k.formed ∙ b.formed h }

pub exchanged_empty : exchanged empty_set ≡ empty_set
unfolding exchanged firsts_by
exchanged_empty = refl
