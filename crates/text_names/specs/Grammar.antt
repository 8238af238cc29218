-- The grammar of language tags, as document 01 writes it.
use Rattle.std.specs.Prelude.{◌≡◌, true, List, [], ◌∷◌, ◌++◌, ℕ, ◌≤◌, length}
use Rattle.base_lists.specs.Lists.{all}
use Rattle.base_bytes.specs.Bytes.{is_alnum, hyphen}

-- "A subtag is 1 to 8 ASCII letters or digits."
pub record Subtag (s : List ℕ) : Type 0 where
  pub chars : all is_alnum s ≡ true
  pub some : 1 ≤ length s
  pub few : length s ≤ 8

-- "A tag is one subtag, or a subtag, a hyphen and a tag."
pub data Tag : List ℕ → Type 0 where
  one : {s : List ℕ} → Subtag s → Tag s
  more : {s t : List ℕ} → Subtag s → Tag t → Tag (s ++ (hyphen ∷ t))

-- "`:`, then nothing or a tag."
pub data Language : List ℕ → Type 0 where
  nothing : Language []
  tag : {s : List ℕ} → Tag s → Language s
