-- Well-formed UTF-8 by computing, a byte at a time. RFC 3629's rules are proved_texts/specs/Utf8Rules; the two are proved to agree.
use Rattle.std.specs.Prelude.{ℕ, ◌-◌, Bool, false, cond, List, [], ◌∷◌, leb, eqb}
use Rattle.base_bytes.specs.Bytes.{within}

-- `owed` more bytes belong to the character, and the next of them is from lo to hi
pub record Want : Type 0 where
  pub owed : ℕ
  pub lo : ℕ
  pub hi : ℕ

-- what comes of a byte: none such may stand there, or more is wanted
pub data Follows : Type 0 where
  bad : Follows
  go : Want → Follows

abbrev pub want : ℕ → ℕ → ℕ → Follows
want owed lo hi = Follows.go (record { owed = owed; lo = lo; hi = hi })

-- what the first byte of a character asks of those after it: how many, and the next one's range
unfoldable pub lead_of : ℕ → Follows
lead_of a =
    cond (leb a 0x7F) (want 0 0x80 0xBF)
    (cond (leb a 0xC1) Follows.bad
    (cond (leb a 0xDF) (want 1 0x80 0xBF)
    (cond (leb a 0xE0) (want 2 0xA0 0xBF)
    (cond (leb a 0xEC) (want 2 0x80 0xBF)
    (cond (leb a 0xED) (want 2 0x80 0x9F)
    (cond (leb a 0xEF) (want 2 0x80 0xBF)
    (cond (leb a 0xF0) (want 3 0x90 0xBF)
    (cond (leb a 0xF3) (want 3 0x80 0xBF)
    (cond (leb a 0xF4) (want 3 0x80 0x8F)
    Follows.bad)))))))))

-- what is wanted after the byte a, where w was wanted before it
unfoldable pub after_of : Want → ℕ → Follows
after_of w a = cond (eqb w.owed 0) (lead_of a) (cond (within w.lo w.hi a) (want (w.owed - 1) 0x80 0xBF) Follows.bad)

abbrev pub go_on_char : Follows → (Want → Bool) → Bool
go_on_char Follows.bad rest = false
go_on_char (Follows.go v) rest = rest v

-- the list is what w wants, and then characters
unfoldable pub octets_from : List ℕ → Want → Bool
octets_from [] w = eqb w.owed 0
octets_from (a ∷ s) w = go_on_char (after_of w a) (octets_from s)

-- nothing is owed: a character may begin
abbrev pub owes_none : Want
owes_none = record { owed = 0; lo = 0x80; hi = 0xBF }

-- the list is well-formed UTF-8
unfoldable pub is_utf8 : List ℕ → Bool
is_utf8 s = octets_from s owes_none
