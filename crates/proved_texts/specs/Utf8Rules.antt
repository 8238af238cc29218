-- RFC 3629, section 4, rule by rule.
use Rattle.std.specs.Prelude.{List, [], ◌∷◌, ◌++◌, ℕ, ◌≤◌}

-- %xLO-HI
pub record Byte (lo hi b : ℕ) : Type 0 where
  pub low : lo ≤ b
  pub high : b ≤ hi

-- UTF8-tail = %x80-BF
abbrev pub Tail : ℕ → Type 0
Tail b = Byte 0x80 0xBF b

-- UTF8-char = UTF8-1 / UTF8-2 / UTF8-3 / UTF8-4
pub data Char : List ℕ → Type 0 where
  -- UTF8-1 = %x00-7F
  one : {a : ℕ} → Byte 0x00 0x7F a → Char (a ∷ [])
  -- UTF8-2 = %xC2-DF UTF8-tail
  two : {a b : ℕ} → Byte 0xC2 0xDF a → Tail b → Char (a ∷ b ∷ [])
  -- UTF8-3 = %xE0 %xA0-BF UTF8-tail / %xE1-EC 2( UTF8-tail ) / %xED %x80-9F UTF8-tail / %xEE-EF 2( UTF8-tail )
  three_E0 : {a b c : ℕ} → Byte 0xE0 0xE0 a → Byte 0xA0 0xBF b → Tail c → Char (a ∷ b ∷ c ∷ [])
  three_E1 : {a b c : ℕ} → Byte 0xE1 0xEC a → Tail b → Tail c → Char (a ∷ b ∷ c ∷ [])
  three_ED : {a b c : ℕ} → Byte 0xED 0xED a → Byte 0x80 0x9F b → Tail c → Char (a ∷ b ∷ c ∷ [])
  three_EE : {a b c : ℕ} → Byte 0xEE 0xEF a → Tail b → Tail c → Char (a ∷ b ∷ c ∷ [])
  -- UTF8-4 = %xF0 %x90-BF 2( UTF8-tail ) / %xF1-F3 3( UTF8-tail ) / %xF4 %x80-8F 2( UTF8-tail )
  four_F0 : {a b c d : ℕ} → Byte 0xF0 0xF0 a → Byte 0x90 0xBF b → Tail c → Tail d → Char (a ∷ b ∷ c ∷ d ∷ [])
  four_F1 : {a b c d : ℕ} → Byte 0xF1 0xF3 a → Tail b → Tail c → Tail d → Char (a ∷ b ∷ c ∷ d ∷ [])
  four_F4 : {a b c d : ℕ} → Byte 0xF4 0xF4 a → Byte 0x80 0x8F b → Tail c → Tail d → Char (a ∷ b ∷ c ∷ d ∷ [])

-- UTF8-octets = *( UTF8-char ), with the list of the characters
pub data Octets : List (List ℕ) → List ℕ → Type 0 where
  none : Octets [] []
  more : {k s : List ℕ} {ks : List (List ℕ)} → Char k → Octets ks s → Octets (k ∷ ks) (k ++ s)

-- s is well-formed UTF-8: it is characters one after another
pub record WellFormed (s : List ℕ) : Type 0 where
  pub chars : List (List ℕ)
  pub octets : Octets chars s
