-- The class of a byte, and tests by a table of classes.
use Rattle.std.specs.Prelude.{ℕ, suc, ◌*◌, ◌/◌, ◌%◌, ◌^◌, ◌<◌, ◌≡◌, Bool, cond, not, List, [], ◌∷◌, eqb, get_or}
use Rattle.std.specs.Int.Bits.{bit_and}
use Rattle.base_lists.specs.Lists.{run}
use Rattle.base_bytes.specs.Bytes.{is_letter, is_digit, is_alnum, is_name_start, is_name_part, is_key_start, underscore, hyphen}

-- Document 02: "letter, digit and name classes [..]. Hold them in a table of 256 entries, one per byte value":
-- a letter 1, a digit 2, `_` 4, `-` 8, any other byte 0
unfoldable pub class_of : ℕ → ℕ
class_of b = cond (is_letter b) 1 (cond (is_digit b) 2 (cond (eqb b underscore) 4 (cond (eqb b hyphen) 8 0)))

-- the word of the byte b, shifted so that its lowest four bits are the byte's entry: sixteen entries make a word, from its lowest bits up
abbrev pub class_in : List ℕ → ℕ → ℕ
class_in table b = get_or table (b / 16) 0 / 2 ^ (b % 16 * 4)

-- "with its rule shown once over all entries": the entry of each byte is its class
abbrev pub TableRule : List ℕ → Type 0
TableRule table = (b : ℕ) → b < 256 → class_in table b % 16 ≡ class_of b

-- the table gives the byte b a class of the mask, which has four bits
abbrev pub is_of : List ℕ → ℕ → ℕ → Bool
is_of table mask b = not (eqb (bit_and (class_in table b) mask) 0)

-- "let the base's name and tag tests read it instead of their chains of comparisons": what a test may rely on where a table is lent to it,
-- that under each mask it passes the bytes that document 01 names, as the table of classes does
pub record TellsBytes (table : List ℕ) : Type 0 where
  pub letter : is_of table 1 ≡ is_letter
  pub alnum : is_of table 3 ≡ is_alnum
  pub key : is_of table 5 ≡ is_key_start
  pub name : is_of table 7 ≡ is_name_start
  pub part : is_of table 15 ≡ is_name_part

-- how many bytes at the front are a first byte that passes the first test and later ones that pass the second; none without the first
abbrev pub front_run : (ℕ → Bool) → (ℕ → Bool) → List ℕ → ℕ
front_run f g [] = 0
front_run f g (a ∷ s) = cond (f a) (suc (run g s)) 0
