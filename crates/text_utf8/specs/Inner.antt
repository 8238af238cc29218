-- What private helpers ask and promise: nothing that a reader of the public promises has to believe.
use Rattle.std.specs.Prelude.{◌≡◌, Bool, false, cond, ◌&&◌, ◌||◌, ℕ, suc, ◌<◌, ◌≤◌, List, ◌∷◌, leb, eqb, length, get_or, drop}
use Rattle.std.specs.Bool.{xor}
use Rattle.base_bytes.specs.Bytes.{is_tail}
use Rattle.text_utf8.specs.Computed.{is_utf8, octets_from, lead_of, want, owes_none}

-- the bytes from i on are characters where those from j on are
pub record Same (s : List ℕ) (i j : ℕ) : Type 0 where
  pub onward : i ≤ j
  pub inside : j ≤ length s
  pub same : octets_from (drop i s) owes_none ≡ octets_from (drop j s) owes_none

-- characters were passed from i to j; where j is 0, the bytes from i on are no characters
pub record PassedTo (s : List ℕ) (i j : ℕ) : Type 0 where
  pub on : 0 < j → (i < j) × Same s i j
  pub off : j ≡ 0 → octets_from (drop i s) owes_none ≡ false

-- at i stands a byte that asks for n more, the next of them from lo to hi
pub record Begins (s : List ℕ) (i n lo hi : ℕ) : Type 0 where
  pub inside : i < length s
  pub asks : lead_of (get_or s i 0) ≡ want n lo hi

-- ---- each byte beside the three before it

-- m is 1 where b is true, else 0
pub record Tells (m : ℕ) (b : Bool) : Type 0 where
  pub is : m ≡ cond b 1 0

-- no character has the byte d
unfoldable pub is_never : ℕ → Bool
is_never d = leb 0xF5 d || eqb 0xC0 d || eqb 0xC1 d

-- a character that begins with one of the bytes a, b, c goes on behind c
unfoldable pub goes_on : ℕ → ℕ → ℕ → Bool
goes_on a b c = leb 0xC0 c || leb 0xE0 b || leb 0xF0 a

-- d can't follow c, with which a character begins: it would be longer than need be
unfoldable pub is_low : ℕ → ℕ → Bool
is_low c d = (eqb 0xE0 c && leb d 0x9F) || (eqb 0xF0 c && leb d 0x8F)

-- it would be a surrogate, or beyond the last character
unfoldable pub is_high : ℕ → ℕ → Bool
is_high c d = (eqb 0xED c && leb 0xA0 d) || (eqb 0xF4 c && leb 0x90 d)

-- d can't stand behind a, b, c
unfoldable pub is_wrong : ℕ → ℕ → ℕ → ℕ → Bool
is_wrong a b c d = is_never d || xor (goes_on a b c) (is_tail d) || is_low c d || is_high c d

-- the same of the byte at k of s, with zeros before the text, and of the place k
abbrev pub padded : List ℕ → List ℕ
padded s = 0 ∷ (0 ∷ (0 ∷ s))

unfoldable pub wrong_at : List ℕ → ℕ → Bool
wrong_at s k = is_wrong (get_or (padded s) k 0) (get_or (padded s) (suc k) 0) (get_or (padded s) (suc (suc k)) 0) (get_or s k 0)

unfoldable pub goes_on_at : List ℕ → ℕ → Bool
goes_on_at s k = goes_on (get_or (padded s) k 0) (get_or (padded s) (suc k) 0) (get_or (padded s) (suc (suc k)) 0)

-- ---- pieces of a text

-- where m is 0, the bytes from i to before e are ASCII
pub record Lows (s : List ℕ) (i e m : ℕ) : Type 0 where
  pub low : m ≡ 0 → (k : ℕ) → i ≤ k → k < e → get_or s k 0 ≤ 0x7F

-- the bytes from i to before e are ASCII
pub record Ascii (s : List ℕ) (i e : ℕ) : Type 0 where
  pub onward : i ≤ e
  pub inside : e ≤ length s
  pub low : (k : ℕ) → i ≤ k → k < e → get_or s k 0 ≤ 0x7F

-- where m is 0, no byte from i to before e is wrong; else s is not well-formed
pub record Judged (s : List ℕ) (i e m : ℕ) : Type 0 where
  pub right : m ≡ 0 → (k : ℕ) → i ≤ k → k < e → wrong_at s k ≡ false
  pub wrong : 0 < m → is_utf8 s ≡ false

-- no byte before k is wrong
pub record Fits (s : List ℕ) (k : ℕ) : Type 0 where
  pub inside : k ≤ length s
  pub right : (j : ℕ) → j < k → wrong_at s j ≡ false
