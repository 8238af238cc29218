-- The canonical text of a meaning, and what a class may be.
use Rattle.std.specs.Prelude.{Bool, cond, not, ◌||◌, ℕ}
use mathlib.Core.List.{List, [], ◌∷◌, ◌++◌, map, flat_map}
use Rattle.base_lists.specs.Lists.{all}
use Rattle.base_bytes.specs.Bytes.{is_space, is_marked, backslash, close_brace, equals, open_brace, quote, space}
use Rattle.block_grammar.specs.Meaning.{Entry}

-- ---- canonical text

-- "with a backslash before `"` and `\` only"
unfoldable pub marked : ℕ → List ℕ
marked b = cond (is_marked b) (backslash ∷ (b ∷ [])) (b ∷ [])

unfoldable pub escape : List ℕ → List ℕ
escape s = flat_map marked s

pub record Pair : Type 0 where
  pub name : List ℕ
  pub value : List ℕ

-- "Each item is name, `=`, value in double quotes"
abbrev pub pair_text : Pair → List ℕ
pair_text p = p.name ++ (equals ∷ (quote ∷ (escape p.value ++ (quote ∷ []))))

-- "items .. parted by one space"
unfoldable pub more_text : List Pair → List ℕ
more_text ps = flat_map (λ p. space ∷ pair_text p) ps

unfoldable pub pairs_text : List Pair → List ℕ
pairs_text [] = []
pairs_text (p ∷ ps) = pair_text p ++ more_text ps

-- "All classes stand at the Class slot, one `class=` item each."
unfoldable pub pairs_of : List ℕ → List (List ℕ) → List Pair
pairs_of n vs = map (λ v. record { name = n; value = v }) vs

-- "in slot order"
unfoldable pub pairs : List Entry → List Pair
pairs m = flat_map (λ e. pairs_of e.name e.values) m

-- "Canonical text: `{`, items in slot order parted by one space, `}`."
unfoldable pub canon : List Entry → List ℕ
canon m = open_brace ∷ (pairs_text (pairs m) ++ (close_brace ∷ []))

-- "a class is free of whitespace or nothing but whitespace"
unfoldable pub is_class_value : List ℕ → Bool
is_class_value v = all (λ b. not (is_space b)) v || all is_space v
