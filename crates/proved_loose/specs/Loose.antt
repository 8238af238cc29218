-- "it acts only if the key's unescaped value is empty, removes the key and its slot, and answers whether it did. Other rows keep order and content. The
-- result is well-formed, may be empty, and the writer then answers 12."
use Rattle.std.specs.Prelude.{◌≡◌, true, cond, List, [], ◌∷◌, ℕ, suc, ◌<◌, ◌≤◌, length, get_or, Err, Ok, false}
use Rattle.base_lists.specs.Lists.{same}
use Rattle.base_refusals.specs.declared.Refusal.{Refusal}
use Rattle.base_refusals.specs.declared.Refusal.TheVariants.{EmptySet}
use Rattle.text_escapes.specs.Unescape.{unescape}
use Rattle.block_grammar.specs.Meaning.{Entry, lookup}
use Rattle.set_table.specs.Types.{Texts, zero_row, empty_set}
use Rattle.set_table.specs.Rows.{rows_in, listed_of, meaning_of}
use Rattle.set_table.specs.declared.Attrs.{Attrs}
use Rattle.set_wellformed.specs.WellFormed.{well_formed}
use Rattle.set_writer.specs.Write.{attrs_wrote}
use Rattle.set_lent.specs.Lent.{loose_end}
use Rattle.set_loose.specs.declared.Consumed.{Consumed}
use Rattle.set_loose.specs.Loose.{loose_name, row_named, loose_of}
use Rattle.proved_sets.specs.HandedOut.{Zeroed}

-- a meaning without the entry of a name
unfoldable pub without_name : List ℕ → List Entry → List Entry
without_name n [] = []
without_name n (e ∷ m) = cond (same e.name n) (without_name n m) (e ∷ without_name n m)

-- the key `loose` is there, and its value has no bytes
abbrev pub SaysLoose : List Entry → Type 0
SaysLoose m = lookup loose_name m ≡ [] ∷ []

-- ---- what the answer means
pub record ActsRight (t : Texts) (a : Attrs) : Type 0 where
  -- "it acts only if the key's unescaped value is empty, removes the key and its slot"
  pub acts : (loose_of t a).did ≡ Ok true → SaysLoose (meaning_of t a) × (meaning_of t (loose_of t a).set ≡ without_name loose_name (meaning_of t a))
  -- and then it does: no other no is given, and the set still means what it meant
  pub stays : (loose_of t a).did ≡ Ok false → (SaysLoose (meaning_of t a) → ⊥) × (meaning_of t (loose_of t a).set ≡ meaning_of t a)
  -- a well-formed set isn't refused
  pub taken : (r : Refusal) → (loose_of t a).did ≡ Err r → ⊥
  -- "The result is well-formed"
  pub formed : well_formed t (loose_of t a).set ≡ true

abbrev pub LooseMeans : Type 0
LooseMeans = (t : Texts) (a : Attrs) → well_formed t a ≡ true → ActsRight t a

-- so yes and no depend on the meaning alone
abbrev pub ActsByMeaning : Type 0
ActsByMeaning = (t u : Texts) (a b : Attrs) → well_formed t a ≡ true → well_formed u b ≡ true → meaning_of t a ≡ meaning_of u b → (loose_of t a).did ≡ (loose_of u b).did

-- ---- "removes the key and its slot, .. Other rows keep order and content."
pub record RowsStay (t : Texts) (a : Attrs) : Type 0 where
  -- the row that goes is there
  pub there : row_named t loose_name (rows_in a).keys < length (rows_in a).keys
  pub fewer : suc (length (rows_in (loose_of t a).set).keys) ≡ length (rows_in a).keys
  pub before : (j : ℕ) → j < row_named t loose_name (rows_in a).keys → get_or (rows_in (loose_of t a).set).keys j zero_row ≡ get_or (rows_in a).keys j zero_row
  pub behind : (j : ℕ) → row_named t loose_name (rows_in a).keys ≤ j → get_or (rows_in (loose_of t a).set).keys j zero_row ≡ get_or (rows_in a).keys (suc j) zero_row
  pub ident : (rows_in (loose_of t a).set).ident ≡ (rows_in a).ident
  pub classes : (rows_in (loose_of t a).set).classes ≡ (rows_in a).classes
  -- the slots but that one in their order, each with what it lists
  pub slots : suc (length (rows_in (loose_of t a).set).order) ≡ length (rows_in a).order
  pub lists : listed_of t (loose_of t a).set ≡ without_name loose_name (listed_of t a)

abbrev pub OthersKept : Type 0
OthersKept = (t : Texts) (a : Attrs) → well_formed t a ≡ true → (loose_of t a).did ≡ Ok true → RowsStay t a

-- and where it doesn't act all of them are kept
abbrev pub AllKept : Type 0
AllKept = (t : Texts) (a : Attrs) → (loose_of t a).did ≡ Ok false → rows_in (loose_of t a).set ≡ rows_in a

-- ---- what is handed out, of any table over any texts

-- "Rows past the counts are zero in every set handed out"
abbrev pub LooseZeroed : Type 0
LooseZeroed = (t : Texts) (a : Attrs) → Zeroed (loose_of t a).set

-- a refusal hands out no set
abbrev pub RefusedEmpty : Type 0
RefusedEmpty = (t : Texts) (a : Attrs) (r : Refusal) → (loose_of t a).did ≡ Err r → (loose_of t a).set ≡ empty_set

-- ---- "may be empty, and the writer then answers 12"
pub record EmptyLeft (t : Texts) (a : Attrs) : Type 0 where
  pub all_there_was : (loose_of t a).set ≡ empty_set → meaning_of t a ≡ record { name = loose_name; values = [] ∷ [] } ∷ []
  pub empties : meaning_of t a ≡ record { name = loose_name; values = [] ∷ [] } ∷ [] → (loose_of t a).set ≡ empty_set
  pub unwritten : (loose_of t a).set ≡ empty_set → (size : ℕ) → attrs_wrote t (loose_of t a).set size ≡ Err EmptySet

abbrev pub LooseEmpty : Type 0
LooseEmpty = (t : Texts) (a : Attrs) → well_formed t a ≡ true → (loose_of t a).did ≡ Ok true → EmptyLeft t a

-- "A loose list must say so once": a second call answers no
abbrev pub LooseOnce : Type 0
LooseOnce = (t : Texts) (a : Attrs) → well_formed t a ≡ true → (loose_of t (loose_of t a).set).did ≡ Ok false

-- ---- of a lent set: unless the answer is yes, it is as it was, to its last row
abbrev pub LentStays : Type 0
LentStays = (was : Attrs) (c : Consumed) → (c.did ≡ Ok true → ⊥) → loose_end was c ≡ was

abbrev pub LentGoes : Type 0
LentGoes = (was : Attrs) (c : Consumed) → c.did ≡ Ok true → loose_end was c ≡ c.set

-- ---- "the key's unescaped value is empty" exactly where it has no raw bytes either
abbrev pub NoBytesRaw : Type 0
NoBytesRaw = (s : List ℕ) → (unescape s ≡ [] → s ≡ []) × (s ≡ [] → unescape s ≡ [])
