-- Demand 3 of the bytes that calls of `write_attrs` write, and the writers that it shuts out.
use Rattle.std.specs.Prelude.{◌≡◌, List, ℕ, ◌≤◌, length, take, drop, Ok}
use Rattle.set_table.specs.Types.{Texts}
use Rattle.set_table.specs.Rows.{meaning_of}
use Rattle.set_table.specs.declared.Attrs.{Attrs}
use Rattle.set_writer.specs.Write.{attrs_wrote, attrs_content}
use Rattle.proved_demands.specs.Demands.{Iff, canon_of, CanonFits, ReadsBack}

-- ---- what a call leaves in its buffer

-- "The writer changes only the bytes it counts.": they are the canonical text of a set that fits
pub record CanonWritten (t : Texts) (a : Attrs) (buf : List ℕ) (n : ℕ) : Type 0 where
  pub fits : CanonFits t a
  pub count : n ≡ length (canon_of t a)
  pub front : take n (attrs_content t a buf) ≡ canon_of t a
  pub rest : drop n (attrs_content t a buf) ≡ drop n buf

-- so it is wherever bytes are counted,
abbrev pub WritesCanon : Type 0
WritesCanon = (t : Texts) (a : Attrs) (buf : List ℕ) (n : ℕ) → attrs_wrote t a (length buf) ≡ Ok n → CanonWritten t a buf n

-- and they are wherever a set fits and its text has room
abbrev pub FitsIsWritten : Type 0
FitsIsWritten = (t : Texts) (a : Attrs) (buf : List ℕ) → CanonFits t a → length (canon_of t a) ≤ length buf → attrs_wrote t a (length buf) ≡ Ok (length (canon_of t a))

-- ---- "equal canonical texts exactly when they mean the same", of the bytes that two calls count

abbrev pub BytesEqual : Type 0
BytesEqual = (t t' : Texts) (a a' : Attrs) (buf buf' : List ℕ) (n n' : ℕ) → attrs_wrote t a (length buf) ≡ Ok n → attrs_wrote t' a' (length buf') ≡ Ok n'
    → Iff (take n (attrs_content t a buf) ≡ take n' (attrs_content t' a' buf')) (meaning_of t a ≡ meaning_of t' a')

-- so two sets that don't mean the same leave different bytes
abbrev pub BytesDiffer : Type 0
BytesDiffer = (t t' : Texts) (a a' : Attrs) (buf buf' : List ℕ) (n n' : ℕ) → attrs_wrote t a (length buf) ≡ Ok n → attrs_wrote t' a' (length buf') ≡ Ok n'
    → (meaning_of t a ≡ meaning_of t' a' → ⊥) → take n (attrs_content t a buf) ≡ take n' (attrs_content t' a' buf') → ⊥

-- ---- "a canonical text reads back, to its last byte, with that meaning", of the bytes that a call counts

abbrev pub BytesBack : Type 0
BytesBack = (t : Texts) (a : Attrs) (buf : List ℕ) (n : ℕ) → attrs_wrote t a (length buf) ≡ Ok n → ReadsBack (take n (attrs_content t a buf)) (meaning_of t a)

-- ---- "Shut out: .. a writer that stores nothing or a constant (demand 3's reading back, by demand 2)": no bytes read back with the meaning of every set

abbrev pub NoConstant : Type 0
NoConstant = (c : List ℕ) → ((t : Texts) (a : Attrs) → CanonFits t a → ReadsBack c (meaning_of t a)) → ⊥
