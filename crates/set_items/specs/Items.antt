-- The items of a canonical text one by one, and what is laid of one: its name, and behind it its value, unescaped.
use Rattle.std.specs.Prelude.{ℕ, List, [], ◌∷◌, ◌++◌, map, leb, length, take, drop, Result}
use Rattle.base_lists.specs.Lists.{over}
use Rattle.base_refusals.specs.Numbers.{outcome_no, Paper}
use Rattle.base_refusals.specs.Orders.{Ground, order_no, met}
use Rattle.base_refusals.specs.declared.Refusal.TheVariants.{CanonTooLong}
use Rattle.text_checks.specs.Outcomes.{or_left, unless, or_else}
use Rattle.block_grammar.specs.Meaning.{Entry, id_name, class_name, lookup}
use Rattle.set_canon.specs.Canon.{Pair}
use Rattle.set_table.specs.Types.{Texts, name_bytes, value_bytes}
use Rattle.set_items.specs.declared.Item as items
use Rattle.set_items.specs.declared.Item.TheVariants.{Missing, Id, Class, Key}
use Rattle.set_items.specs.declared.Laid.{Laid}
use Rattle.base_refusals.specs.declared.Refusal.{Refusal}

-- the n-th of a list, counted from 0: one, or none where it isn't there
abbrev pub nth : {A : Type 0} → ℕ → List A → List A
nth n xs = take 1 (drop n xs)

-- what is made of an item's name and value: one thing, or none where there is no item
unfoldable pub item_as : {A : Type 0} → (List ℕ → List ℕ → A) → Texts → items.Item → List A
item_as f t Missing = []
item_as f t (Id v) = f id_name (value_bytes t v) ∷ []
item_as f t (Class v) = f class_name (value_bytes t v) ∷ []
item_as f t (Key r) = f (name_bytes t r.name) (value_bytes t r.value) ∷ []

-- "Each item is name, `=`, value in double quotes": its name and its value
abbrev pub named : List ℕ → List ℕ → Pair
named n v = record { name = n; value = v }

-- the value by itself
abbrev pub unnamed : List ℕ → List ℕ → Pair
unnamed n v = named [] v

-- the values under a name, each as an item without one: of `class` each class once, of any other name one or none
abbrev pub values_under : List ℕ → List Entry → List Pair
values_under name m = map (unnamed name) (lookup name m)

-- ---- what is laid of one item or none

abbrev pub name_of : List Pair → List ℕ
name_of [] = []
name_of (p ∷ ps) = p.name

abbrev pub value_of : List Pair → List ℕ
value_of [] = []
value_of (p ∷ ps) = p.value

abbrev pub laid_bytes : List Pair → List ℕ
laid_bytes ps = name_of ps ++ value_of ps

-- what was refused before, else 10 where `size` bytes are no room for it; the lengths are told in either case
abbrev pub laid_of : Result (Unit {0}) Refusal → ℕ → List Pair → Laid
laid_of c size ps =
    record { outcome = or_else c (unless CanonTooLong (leb (length (laid_bytes ps)) size)); name = length (name_of ps); value = length (value_of ps) }

-- "A refusal touches no other lent memory": else the bytes stand at its front, the rest of it untouched
abbrev pub laid_in : Result (Unit {0}) Refusal → List ℕ → List Pair → List ℕ
laid_in c buf ps = or_left (laid_of c (length buf) ps).outcome buf (over (laid_bytes ps) buf)

-- ---- on paper: the number of an answer, and the lengths of the name and of the value, which a refusal has too

abbrev pub laid_paper : Laid → Paper
laid_paper l = record { number = outcome_no l.outcome; values = l.name ∷ l.value ∷ [] }

-- "10" behind what was refused before
abbrev pub lay_order : Result (Unit {0}) Refusal → ℕ → List Pair → List Ground
lay_order c size ps = met c ++ (Ground.lacking CanonTooLong (leb (length (laid_bytes ps)) size) ∷ [])

abbrev pub numbered_laid : Result (Unit {0}) Refusal → ℕ → List Pair → Paper
numbered_laid c size ps = record { number = order_no (lay_order c size ps); values = length (name_of ps) ∷ length (value_of ps) ∷ [] }
