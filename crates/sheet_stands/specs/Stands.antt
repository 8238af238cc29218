-- "when mending, not that of the old text": whether bytes stand at a place of a text.
use Rattle.std.specs.Prelude.{ℕ, Bool, true, false, ◌&&◌, List, [], ◌∷◌, eqb, drop}

-- a text begins with these bytes
unfoldable pub is_front : List ℕ → List ℕ → Bool
is_front [] t = true
is_front (x ∷ xs) [] = false
is_front (x ∷ xs) (b ∷ t) = eqb b x && is_front xs t

abbrev pub stands_at : List ℕ → ℕ → List ℕ → Bool
stands_at t at xs = is_front xs (drop at t)
