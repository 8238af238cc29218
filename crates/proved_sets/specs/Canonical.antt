-- Canonical text: equal for equal meanings alone, and read back by the payload grammar. Sizes, limits and UTF-8 are left to the theorems on the entries.
use Rattle.std.specs.Prelude.{◌≡◌, true, List, [], ◌∷◌, ◌++◌, ℕ, suc, ◌+◌, length, get_or, drop}
use Rattle.base_bytes.specs.Bytes.{open_brace, close_brace}
use Rattle.base_bytes.specs.declared.Mode.{Mode}
use Rattle.base_bytes.specs.declared.Mode.TheVariants.{Strict}
use Rattle.block_grammar.specs.Grammar.{Placed, Payload}
use Rattle.block_grammar.specs.Meaning.{Entry, class_name, is_among, classes_once}
use Rattle.proved_grammar.specs.Meaning.{listed}
use Rattle.block_grammar.specs.Close.{Covered, no_lf}
use Rattle.set_canon.specs.Canon.{canon}
use Rattle.set_table.specs.Types.{Texts}
use Rattle.set_table.specs.Rows.{listed_of, meaning_of}
use Rattle.set_table.specs.declared.Attrs.{Attrs}
use Rattle.proved_sets.specs.Formed.{wf}

-- "Reading at a brace: the payload ends before the first `}` that no quote or backslash covers; .. An LF before it means no close."
-- The block whose brace stands at i of the text s lists a, and `next` is the place behind its close.
pub record ReadAs (m : Mode) (s : List ℕ) (i : ℕ) (a : List Entry) (next : ℕ) : Type 0 where
  pub brace : get_or s i 0 ≡ open_brace
  pub inside : List ℕ
  pub rest : List ℕ
  pub whole : drop (suc i) s ≡ inside ++ (close_brace ∷ rest)
  pub covered : Covered inside
  pub flat : no_lf inside ≡ true
  pub items : List Placed
  pub reading : Payload m (suc i) inside items
  pub lists : listed items ≡ a
  pub after : next ≡ suc (suc i + length inside)

-- It is read in one way.
abbrev pub ReadOnce : Type 0
ReadOnce = (m : Mode) (s : List ℕ) (i : ℕ) (a b : List Entry) (j k : ℕ) → ReadAs m s i a j → ReadAs m s i b k → (a ≡ b) × (j ≡ k)

-- "Reading back is `read_attrs_at` at byte 0.", which "is strict": a canonical text reads back, to its last byte, and lists what it was written from.
abbrev pub CanonReads : Type 0
CanonReads = (m : List Entry) → wf m ≡ true → (m ≡ [] → ⊥) → ReadAs Strict (canon m) 0 m (length (canon m))

-- What was read anywhere, in either mode, is well-formed and isn't empty.
abbrev pub ReadFormed : Type 0
ReadFormed = (m : Mode) (s : List ℕ) (i : ℕ) (a : List Entry) (next : ℕ) → ReadAs m s i a next → (wf a ≡ true) × (a ≡ [] → ⊥)

-- So it is read again where it was written, to the last byte: "reading back gives each class once."
abbrev pub ReadAgain : Type 0
ReadAgain = (m : Mode) (s : List ℕ) (i : ℕ) (a : List Entry) (next : ℕ) → ReadAs m s i a next
    → ReadAs Strict (canon (classes_once a)) 0 (classes_once a) (length (canon (classes_once a)))

-- Two sets "have equal canonical texts exactly when they mean the same" (demand 3).
abbrev pub SameText : Type 0
SameText = (m m' : List Entry) → wf m ≡ true → wf m' ≡ true → canon m ≡ canon m' → m ≡ m'

abbrev pub SameMeaning : Type 0
SameMeaning = (m m' : List Entry) → m ≡ m' → canon m ≡ canon m'

-- "a class equal byte for byte to an earlier one doesn't count": a set and the set without a repeated class v have one canonical text, each over its own texts
abbrev pub RepeatedUnwritten : Type 0
RepeatedUnwritten = (t t' : Texts) (a a' : Attrs) (m : List Entry) (us : List (List ℕ)) (v : List ℕ) (ws : List (List ℕ)) (n : List Entry) → is_among v us ≡ true
    → listed_of t a ≡ m ++ (record { name = class_name; values = us ++ (v ∷ ws) } ∷ n) → listed_of t' a' ≡ m ++ (record { name = class_name; values = us ++ ws } ∷ n)
    → canon (meaning_of t a) ≡ canon (meaning_of t' a')
