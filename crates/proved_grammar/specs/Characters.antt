-- "text in one kind of quote, where a backslash takes the next character with it". The rule `Inside` takes the next byte; here the character is b and
-- the bytes `tail` that go on it, and s is what stands behind.
use Rattle.std.specs.Prelude.{◌≡◌, true, List, ◌∷◌, ◌++◌, ℕ}
use Rattle.base_lists.specs.Lists.{all}
use Rattle.base_bytes.specs.Bytes.{is_tail, is_quote, backslash}
use Rattle.block_grammar.specs.Grammar.{Inside}

-- the text goes on behind the character, ..
abbrev pub TakesCharacter : ℕ → List ℕ → Type 0
TakesCharacter q s = is_quote q ≡ true → (b : ℕ) (tail : List ℕ) → all is_tail tail ≡ true → Inside q s → Inside q (backslash ∷ (b ∷ (tail ++ s)))

-- .. and only so
abbrev pub TookCharacter : ℕ → List ℕ → Type 0
TookCharacter q s = is_quote q ≡ true → (b : ℕ) (tail : List ℕ) → all is_tail tail ≡ true → Inside q (backslash ∷ (b ∷ (tail ++ s))) → Inside q s
