-- Language tags by computing, a byte at a time. The rules are Grammar; the two are proved to agree (proved_grammar/specs/Tags).
-- What passes as a letter or a digit is asked by a test, since a caller may lend a table that tells it.
use Rattle.std.specs.Prelude.{ℕ, suc, Bool, true, cond, ◌&&◌, List, [], ◌∷◌, eqb, ltb, leb}
use Rattle.base_bytes.specs.Bytes.{within, is_alnum, hyphen}

-- "A subtag is 1 to 8 ASCII letters or digits."
unfoldable pub is_size : ℕ → Bool
is_size k = within 1 8 k

-- the rest of a tag, where k bytes of its present subtag are read
unfoldable pub tag_from : (ℕ → Bool) → List ℕ → ℕ → Bool
tag_from f [] k = is_size k
tag_from f (a ∷ s) k = cond (f a) (tag_from f s (suc k)) (is_size k && (eqb a hyphen && tag_from f s 0))

-- "A tag is one subtag, or a subtag, a hyphen and a tag."
unfoldable pub is_tag : List ℕ → Bool
is_tag s = tag_from is_alnum s 0

-- "`:`, then nothing or a tag."
unfoldable pub language_by : (ℕ → Bool) → List ℕ → Bool
language_by f [] = true
language_by f (a ∷ s) = tag_from f (a ∷ s) 0

unfoldable pub is_language : List ℕ → Bool
is_language s = language_by is_alnum s

-- ---- "that can still be continued", by computing: how many bytes of the rest of a tag are passed, where k bytes of its present subtag are read.
-- By the rule: `Longest` of Longest; the two are proved to agree (proved_places/specs/Places).
unfoldable pub tag_passes : (ℕ → Bool) → List ℕ → ℕ → ℕ
tag_passes f [] k = 0
tag_passes f (a ∷ s) k = cond (f a) (cond (ltb k 8) (suc (tag_passes f s (suc k))) 0) (cond (leb 1 k && eqb a hyphen) (suc (tag_passes f s 0)) 0)

-- the place of a tag, and of what stands behind `:`, since nothing can be continued to a tag
unfoldable pub tag_place : List ℕ → ℕ
tag_place s = tag_passes is_alnum s 0
