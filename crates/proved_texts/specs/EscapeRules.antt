-- CommonMark 2.4 as rules: which text a raw text stands for.
use Rattle.std.specs.Prelude.{◌≡◌, true, false, List, [], ◌∷◌, ℕ}
use Rattle.base_bytes.specs.Bytes.{is_punct, backslash}

-- nothing, or a byte that isn't ASCII punctuation, begins the text
pub data Other : List ℕ → Type 0 where
  end : Other []
  byte : {b : ℕ} {s : List ℕ} → is_punct b ≡ false → Other (b ∷ s)

pub data StandsFor : List ℕ → List ℕ → Type 0 where
  end : StandsFor [] []
  -- "Any ASCII punctuation character may be backslash-escaped"
  escaped : {b : ℕ} {s t : List ℕ} → is_punct b ≡ true → StandsFor s t → StandsFor (backslash ∷ (b ∷ s)) (b ∷ t)
  -- "Backslashes before other characters are treated as literal backslashes"
  other : {s t : List ℕ} → Other s → StandsFor s t → StandsFor (backslash ∷ s) (backslash ∷ t)
  byte : {b : ℕ} {s t : List ℕ} → (b ≡ backslash → ⊥) → StandsFor s t → StandsFor (b ∷ s) (b ∷ t)
