-- Values by hand.
-- Assumes nothing.
use mathlib.Core.Path.{◌≡◌, refl}
use mathlib.Core.Bool.{true, false}
use mathlib.Core.List.{List, [], ◌∷◌}
use Rattle.set_commas.specs.Commas.{cut_range, comma_pieces, cuts_from, cuts_of}

-- `1\,2` quoted: the backslash belongs to neither; plain it is the first's
escaped : cuts_of true (49 ∷ 92 ∷ 44 ∷ 50 ∷ []) ≡ cut_range 0 1 ∷ cut_range 3 4 ∷ []
unfolding cuts_of cuts_from
escaped = refl

plain : cuts_of false (49 ∷ 92 ∷ 44 ∷ 50 ∷ []) ≡ cut_range 0 2 ∷ cut_range 3 4 ∷ []
unfolding cuts_of cuts_from
plain = refl

-- `1\\,2`: the pair is the first's
pair : cuts_of true (49 ∷ 92 ∷ 92 ∷ 44 ∷ 50 ∷ []) ≡ cut_range 0 3 ∷ cut_range 4 5 ∷ []
unfolding cuts_of cuts_from
pair = refl

-- `1\%`: other backslashes stay
other : cuts_of true (49 ∷ 92 ∷ 37 ∷ []) ≡ cut_range 0 3 ∷ []
unfolding cuts_of cuts_from
other = refl

-- `1,`, `\,` and nothing
trailing : cuts_of true (49 ∷ 44 ∷ []) ≡ cut_range 0 1 ∷ cut_range 2 2 ∷ []
unfolding cuts_of cuts_from
trailing = refl

alone : cuts_of true (92 ∷ 44 ∷ []) ≡ cut_range 0 0 ∷ cut_range 2 2 ∷ []
unfolding cuts_of cuts_from
alone = refl

none : cuts_of true [] ≡ cut_range 0 0 ∷ []
unfolding cuts_of cuts_from
none = refl

-- `a, b` isn't trimmed
spaced : comma_pieces (97 ∷ 44 ∷ 32 ∷ 98 ∷ []) ≡ (97 ∷ []) ∷ (32 ∷ 98 ∷ []) ∷ []
unfolding comma_pieces
spaced = refl
