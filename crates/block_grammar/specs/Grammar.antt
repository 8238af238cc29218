-- The payload grammar, each rule under the sentence of document 01 that it renders. Names, keys, bare names and tags are those of the crate text_names,
-- the classes of bytes those of base_bytes.
use Rattle.std.specs.Prelude.{◌≡◌, Bool, true, List, [], ◌∷◌, ◌++◌, ℕ, ◌+◌, length}
use Rattle.base_lists.specs.Lists.{all, headed}
use Rattle.base_bytes.specs.declared.Mode.{Mode}
use Rattle.base_bytes.specs.Bytes.{is_blank, is_quote, is_plain, backslash, colon, dot, equals, hash}
use Rattle.text_names.specs.Names.{is_name, is_key, is_bare_name}
use Rattle.text_names.specs.Grammar.{Language}

-- What a token says, by its bytes: a tag, an id, a class, a key with its value, a key with its quote and the text in it as it stands, a bare name.
pub data Item : Type 0 where
  tag : List ℕ → Item
  id : List ℕ → Item
  class : List ℕ → Item
  plain : List ℕ → List ℕ → Item
  quoted : List ℕ → ℕ → List ℕ → Item
  bare : List ℕ → Item

-- an item and the place of its token's first byte
pub record Placed : Type 0 where
  pub at : ℕ
  pub item : Item

-- "A value is one or more characters, none of `}` `|` `"` `'` `\` space, tab, CR, LF; .."
unfoldable pub is_value : List ℕ → Bool
is_value v = headed is_plain is_plain v

-- ".. or text in one kind of quote, where a backslash takes the next character with it."
pub data Inside (q : ℕ) : List ℕ → Type 0 where
  end : Inside q []
  byte : {b : ℕ} {s : List ℕ} → (b ≡ q → ⊥) → (b ≡ backslash → ⊥) → Inside q s → Inside q (b ∷ s)
  pair : {b : ℕ} {s : List ℕ} → Inside q s → Inside q (backslash ∷ (b ∷ s))

-- "Tokens:"
pub data IsToken : List ℕ → Item → Type 0 where
  -- "`:`, then nothing or a tag."
  tag : {t : List ℕ} → Language t → IsToken (colon ∷ t) (Item.tag t)
  -- "`#` or `.` and a name"
  id : {n : List ℕ} → is_name n ≡ true → IsToken (hash ∷ n) (Item.id n)
  class : {n : List ℕ} → is_name n ≡ true → IsToken (dot ∷ n) (Item.class n)
  -- "key, `=`, value."
  plain : {k v : List ℕ} → is_key k ≡ true → is_value v ≡ true → IsToken (k ++ (equals ∷ v)) (Item.plain k v)
  quoted : {k : List ℕ} {q : ℕ} {v : List ℕ} → is_key k ≡ true → is_quote q ≡ true → Inside q v → IsToken (k ++ (equals ∷ (q ∷ (v ++ (q ∷ []))))) (Item.quoted k q v)
  -- "a bare name"
  bare : {n : List ℕ} → is_bare_name n ≡ true → IsToken n (Item.bare n)

-- "Blanks are spaces; in loose mode also CR and LF. A tab outside quotes is never allowed.": neither here nor in a name or a plain value.
-- None or more blanks, and one or more.
pub record Blanks (m : Mode) (s : List ℕ) : Type 0 where
  pub each : all (is_blank m) s ≡ true

pub record Gap (m : Mode) (s : List ℕ) : Type 0 where
  pub each : headed (is_blank m) (is_blank m) s ≡ true

-- "one or more tokens parted by blanks", the first byte at `at`. So "After the closing quote comes a blank or the end."
pub data Tokens (m : Mode) : ℕ → List ℕ → List Placed → Type 0 where
  one : {at : ℕ} {t : List ℕ} {i : Item} → IsToken t i → Tokens m at t (record { at = at; item = i } ∷ [])
  more : {at : ℕ} {t b s : List ℕ} {i : Item} {is : List Placed} → IsToken t i → Gap m b → Tokens m (at + length t + length b) s is → Tokens m at (t ++ (b ++ s)) (record { at = at; item = i } ∷ is)

-- "A payload is one or more tokens parted by blanks, which may stand at both ends." Its first byte stands at `at`.
pub data Payload (m : Mode) : ℕ → List ℕ → List Placed → Type 0 where
  payload : {at : ℕ} {b t e : List ℕ} {is : List Placed} → Blanks m b → Tokens m (at + length b) t is → Blanks m e → Payload m at (b ++ (t ++ e)) is

-- what reading comes to: items, or that there is no reading
pub data Reading : Type 0 where
  refused : Reading
  items : List Placed → Reading
