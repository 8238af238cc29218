-- What private functions promise: the canonical text part by part. Nothing that a reader of the public promises has to believe.
use Rattle.std.specs.Prelude.{ℕ, ◌*◌, ◌+◌, Bool, cond, List, [], ◌∷◌, map, eqb, leb, take, Err, Ok, Result}
use Rattle.std.proofs.lemmas.List.Edits.{sets}
use Rattle.base_refusals.specs.declared.Refusal.TheVariants.{CanonTooLong}
use Rattle.base_refusals.specs.Numbers.{max_text}
use Rattle.block_grammar.specs.Meaning.{id_name, class_name}
use Rattle.set_canon.specs.Canon.{Pair, pair_text, pairs_text, pairs_of}
use Rattle.set_table.specs.Types.{Texts, name_bytes, value_bytes, max_classes}
use Rattle.set_table.specs.Rows.{Ident, id_values}
use Rattle.set_table.specs.declared.Value.{Value}
use Rattle.set_table.specs.declared.Row.{Row}
use Rattle.base_bytes.specs.Bytes.{close_brace, open_brace, space}
use Rattle.base_refusals.specs.declared.Refusal.{Refusal}

-- ---- an item

-- the brace before the first item, where n bytes stand before it, and the space before each other one
unfoldable pub lead_byte : ℕ → ℕ
lead_byte n = cond (eqb n 0) open_brace space

-- an item behind n bytes
abbrev pub item_text : ℕ → List ℕ → List ℕ → List ℕ
item_text n name value = lead_byte n ∷ pair_text (record { name = name; value = value })

-- items behind n bytes
abbrev pub items_text : ℕ → List Pair → List ℕ
items_text n [] = []
items_text n (p ∷ ps) = lead_byte n ∷ pairs_text (p ∷ ps)

-- the items of the id, of a key and of the classes
abbrev pub id_pairs : Texts → Bool → Value → List Pair
id_pairs t given v = pairs_of id_name (id_values t (cond given (Ident.given v) Ident.missing))

abbrev pub key_pairs : Texts → Row → List Pair
key_pairs t r = pairs_of (name_bytes t r.name) (value_bytes t r.value ∷ [])

abbrev pub class_pairs : Texts → ℕ → List Value → List Pair
class_pairs t n classes = pairs_of class_name (map (value_bytes t) (take n classes))

-- what closes n bytes: the opening brace too where there is no item
unfoldable pub closing_bytes : ℕ → List ℕ
closing_bytes n = cond (eqb n 0) (open_brace ∷ (close_brace ∷ [])) (close_brace ∷ [])

-- an item has no more bytes: a name, and a value in which each byte may take a backslash; nor have the items of all classes behind a text
-- within the limit
abbrev pub max_item : ℕ
max_item = 3 * max_text + 4

abbrev pub max_items : ℕ
max_items = max_text + max_item * max_classes

-- ---- measuring and writing: xs at `at`, or nothing

unfoldable pub put_if : Bool → List ℕ → ℕ → List ℕ → List ℕ
put_if really buf at xs = cond really (sets buf at xs) buf

-- n bytes, if they are no more than `cap`
unfoldable pub wrote_to : ℕ → ℕ → Result ℕ Refusal
wrote_to cap n = cond (leb n cap) (Ok n) (Err CanonTooLong)
