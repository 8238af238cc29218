-- What a meaning is made of, its slots in order, each with its name and its values: a key has one value, the id too, Class has one for each class. What items
-- mean is proved_grammar/specs/Meaning; here stand the three names, each class once, and the pieces of a class value by places.
-- "which of the three it was and which text it is of doesn't count, and keys and slots go by name, not by row."
use Rattle.std.specs.Prelude.{Bool, false, cond, ◌||◌, List, [], ◌∷◌, ◌++◌, map, ℕ, suc, ltb}
use Rattle.base_lists.specs.Lists.{same}
use Rattle.base_bytes.specs.Bytes.{is_space}

pub record Entry : Type 0 where
  pub name : List ℕ
  pub values : List (List ℕ)

-- `id`, `class`, `lang`
abbrev pub id_name : List ℕ
id_name = 105 ∷ 100 ∷ []

abbrev pub class_name : List ℕ
class_name = 99 ∷ 108 ∷ 97 ∷ 115 ∷ 115 ∷ []

abbrev pub lang_name : List ℕ
lang_name = 108 ∷ 97 ∷ 110 ∷ 103 ∷ []

-- "Keys `id` and `class` .. go to the id and the classes"
unfoldable pub is_class : List ℕ → Bool
is_class n = same n class_name

-- the values under a name, none where it isn't there
unfoldable pub lookup : List ℕ → List Entry → List (List ℕ)
lookup n [] = []
lookup n (e ∷ m) = cond (same e.name n) e.values (lookup n m)

-- ---- "a class equal byte for byte to an earlier one doesn't count, the first place stays." By rules: `EachOnce` of proved_grammar/specs/Once.

-- "equal byte for byte": v is one of the list
unfoldable pub is_among : List ℕ → List (List ℕ) → Bool
is_among v [] = false
is_among v (w ∷ ws) = same v w || is_among v ws

-- v in front, unless it is there already
abbrev pub unless_there : Bool → List ℕ → List (List ℕ) → List (List ℕ)
unless_there there v vs = cond there vs (v ∷ vs)

-- those of a list that equal none before them, where `earlier` stands before the list
unfoldable pub fresh_after : List (List ℕ) → List (List ℕ) → List (List ℕ)
fresh_after earlier [] = []
fresh_after earlier (v ∷ vs) = unless_there (is_among v earlier) v (fresh_after (earlier ++ (v ∷ [])) vs)

-- the values of the Class entry each once, those of any other as they are
unfoldable pub once_in : Entry → Entry
once_in e = record { name = e.name; values = cond (is_class e.name) (fresh_after [] e.values) e.values }

unfoldable pub classes_once : List Entry → List Entry
classes_once m = map once_in m

-- ".. with no piece left the whole value is one class."
abbrev pub or_whole : {A : Type 0} → A → List A → List A
or_whole v [] = v ∷ []
or_whole v (p ∷ ps) = p ∷ ps

-- ---- the pieces of a class value by places: the piece that was begun starts at `from`, the next byte stands at `at`
pub record PieceAt : Type 0 where
  pub from : ℕ
  pub to : ℕ

abbrev pub mark : ℕ → ℕ → List PieceAt → List PieceAt
mark from at rs = cond (ltb from at) (record { from = from; to = at } ∷ rs) rs

unfoldable pub piece_ranges : ℕ → ℕ → List ℕ → List PieceAt
piece_ranges from at [] = mark from at []
piece_ranges from at (b ∷ s) = cond (is_space b) (mark from at (piece_ranges (suc at) (suc at) s)) (piece_ranges from (suc at) s)
