-- What a payload's items list, put together one after the other, and what that means; and, by the names of the slots and the values under each, how an entry
-- that is put changes both.
use Rattle.std.specs.Prelude.{◌≡◌, Bool, true, false, cond, not, ◌&&◌, ℕ}
use mathlib.Core.List.{List, [], ◌∷◌, ◌++◌, map, foldl}
use Rattle.base_lists.specs.Lists.{all, same}
use Rattle.base_bytes.specs.Bytes.{is_space}
use Rattle.text_escapes.specs.Unescape.{unescape}
use Rattle.block_grammar.specs.Grammar.{Item, Placed}
use Rattle.block_grammar.specs.Meaning.{Entry, id_name, class_name, lang_name, is_class, lookup, classes_once, or_whole}

-- ---- "A class value, unescaped first if quoted, is split at the five ASCII whitespace bytes .."

abbrev pub flush : List ℕ → List (List ℕ) → List (List ℕ)
flush [] ps = ps
flush (a ∷ c) ps = (a ∷ c) ∷ ps

-- the pieces, where c is the piece that was begun
unfoldable pub pieces_from : List ℕ → List ℕ → List (List ℕ)
pieces_from c [] = flush c []
pieces_from c (b ∷ s) = cond (is_space b) (flush c (pieces_from [] s)) (pieces_from (c ++ (b ∷ [])) s)

unfoldable pub classes_of : List ℕ → List (List ℕ)
classes_of v = or_whole v (pieces_from [] v)

-- ---- what an item says

unfoldable pub values_of : List ℕ → List ℕ → List (List ℕ)
values_of n v = cond (is_class n) (classes_of v) (v ∷ [])

-- "`:` .. sets key `lang`." "Keys `id` and `class`, bare or valued, go to the id and the classes." "a bare name ..: value empty."
unfoldable pub said : Item → Entry
said (Item.tag t) = record { name = lang_name; values = t ∷ [] }
said (Item.id n) = record { name = id_name; values = n ∷ [] }
said (Item.class n) = record { name = class_name; values = n ∷ [] }
said (Item.plain k v) = record { name = k; values = values_of k v }
said (Item.quoted k q v) = record { name = k; values = values_of k (unescape v) }
said (Item.bare n) = record { name = n; values = values_of n [] }

-- ---- items and sets put together

-- "The last id and the last value of a key win.": classes are joined, any other value is replaced
abbrev pub with_values : Entry → List (List ℕ) → Entry
with_values e vs = record { name = e.name; values = cond (is_class e.name) (e.values ++ vs) vs }

-- "Slots: Id, Class and each key stand once, where first met."
unfoldable pub put : List Entry → Entry → List Entry
put [] new = new ∷ []
put (e ∷ m) new = cond (same e.name new.name) (with_values e new.values ∷ m) (e ∷ put m new)

-- "Merging: a later id wins, classes are joined, later key values win, new slots go behind."
unfoldable pub puts : List Entry → List Entry → List Entry
puts m es = foldl put m es

unfoldable pub entries_of : List Placed → List Entry
entries_of is = map (λ p. said p.item) is

-- "Reading and merging still list every class, as the Rust does"
unfoldable pub listed : List Placed → List Entry
listed is = puts [] (entries_of is)

-- what they mean: "a class equal byte for byte to an earlier one doesn't count, the first place stays."
unfoldable pub meaning : List Placed → List Entry
meaning is = classes_once (listed is)

-- no slot has the name
unfoldable pub absent : List ℕ → List Entry → Bool
absent n m = all (λ e. not (same e.name n)) m

-- ---- the parts of a meaning, and of what is listed

-- the slots by name
unfoldable pub slot_names : List Entry → List (List ℕ)
slot_names m = map (λ e. e.name) m

-- "once each"
unfoldable pub distinct : List Entry → Bool
distinct [] = true
distinct (e ∷ m) = absent e.name m && distinct m

-- "The last id and the last value of a key win."; of what is listed, so classes are joined
abbrev pub LastValueStays : Type 0
LastValueStays = (m : List Entry) (new : Entry) → lookup new.name (put m new) ≡ cond (is_class new.name) (lookup new.name m ++ new.values) new.values

-- the values under any other name stay
abbrev pub OthersStay : Type 0
OthersStay = (m : List Entry) (new : Entry) (n : List ℕ) → same new.name n ≡ false → lookup n (put m new) ≡ lookup n m

-- "Slots: Id, Class and each key stand once, where first met.": a new one goes behind, ..
abbrev pub WhereFirstMet : Type 0
WhereFirstMet = (m : List Entry) (new : Entry) → slot_names (put m new) ≡ slot_names m ++ cond (absent new.name m) (new.name ∷ []) []

-- .. and no name has two
abbrev pub SlotsOnce : Type 0
SlotsOnce = (is : List Placed) → distinct (meaning is) ≡ true

-- "keys and slots go by name, not by row": the slots' names in order and the values under each name are the whole meaning
abbrev pub MeaningByNames : Type 0
MeaningByNames = (m m' : List Entry) → distinct m ≡ true → distinct m' ≡ true → slot_names m ≡ slot_names m' → ((n : List ℕ) → lookup n m ≡ lookup n m') → m ≡ m'
