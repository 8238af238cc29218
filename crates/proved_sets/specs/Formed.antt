-- Which tables are well-formed, and what that says of their meaning.
use Rattle.std.specs.Prelude.{◌≡◌, Bool, true, false, cond, not, ◌&&◌, List, [], ◌∷◌, ℕ, ◌≤◌, ◌<◌, length, get_or, Ok}
use Rattle.base_lists.specs.Lists.{all, is_some}
use Rattle.text_utf8.specs.Computed.{is_utf8}
use Rattle.text_checks.specs.Check.{check_of}
use Rattle.text_names.specs.Names.{is_key}
use Rattle.block_grammar.specs.Meaning.{Entry, is_class}
use Rattle.proved_grammar.specs.Meaning.{distinct}
use Rattle.proved_grammar.specs.Once.{classes_differ}
use Rattle.block_grammar.specs.Close.{no_lf}
use Rattle.set_canon.specs.Canon.{canon, is_class_value}
use Rattle.set_table.specs.Types.{Texts, max_classes, max_keys, max_slots, zero_value, zero_row}
use Rattle.set_table.specs.Rows.{Rows, Put, no_rows, with_puts, table_of, rows_in, listed_of, meaning_of}
use Rattle.set_table.specs.Shape.{Shaped}
use Rattle.set_table.specs.declared.Attrs.{Attrs}
use Rattle.set_values.specs.Values.{value_ok, ident_ok, class_ok, key_ok}
use Rattle.set_wellformed.specs.WellFormed.{rows_ok, table_ok, well_formed}

-- ---- what `well_formed` decides
pub record Formed (t : Texts) (a : Attrs) : Type 0 where
  -- "Well-formed: the texts give neither 1 nor 2;" of either text: "merging, well-formedness and writing take both texts"
  pub first : check_of t.first ≡ Ok tt
  pub second : check_of t.second ≡ Ok tt
  -- "counts within the limits;"
  pub classes : a.nclass ≤ max_classes
  pub keys : a.nkey ≤ max_keys
  pub slots : a.norder ≤ max_slots
  -- Each id, class and key alone, over the text that its range says: "ranges inside their text on character boundaries; keys by the grammar, .., not `id` or
  -- `class`; no LF in an unescaped id, class or key value; a class is free of whitespace or nothing but whitespace;"
  pub ident : ident_ok t (rows_in a).ident ≡ true
  pub class : (k : ℕ) → k < length (rows_in a).classes → class_ok t (get_or (rows_in a).classes k zero_value) ≡ true
  pub key : (k : ℕ) → k < length (rows_in a).keys → key_ok t (get_or (rows_in a).keys k zero_row) ≡ true
  -- Together: "distinct, ..; slots name exactly the Id, Class and keys present, once each."
  pub shape : Shaped t (rows_in a)

abbrev pub Decides : Type 0
Decides = (t : Texts) (a : Attrs) → (well_formed t a ≡ true → Formed t a) × (Formed t a → well_formed t a ≡ true)

-- ---- what it says of the meaning

abbrev pub is_one : List (List ℕ) → Bool
is_one [] = false
is_one (v ∷ vs) = not (is_some vs)

-- one or more classes, or one id or one value of a key
unfoldable pub values_ok : List ℕ → List (List ℕ) → Bool
values_ok n vs = cond (is_class n) (is_some vs && all is_class_value vs) (is_one vs)

-- "keys by the grammar, ..; no LF in an unescaped id, class or key value"
unfoldable pub entry_ok : Entry → Bool
entry_ok e = is_key e.name && (all no_lf e.values && values_ok e.name e.values)

-- ".. distinct, ..; slots name exactly the Id, Class and keys present, once each"
unfoldable pub wf : List Entry → Bool
wf m = all entry_ok m && distinct m

-- and whose classes differ
unfoldable pub wf_once : List Entry → Bool
wf_once m = wf m && all classes_differ m

-- What a well-formed table lists is well-formed, and what it means is too, with classes that differ: canonical text of it is read back (Canonical).
abbrev pub MeansFormed : Type 0
MeansFormed = (t : Texts) (a : Attrs) → table_ok t a ≡ true → (wf (listed_of t a) ≡ true) × (wf_once (meaning_of t a) ≡ true)

abbrev pub entry_utf8 : Entry → Bool
entry_utf8 e = is_utf8 e.name && all is_utf8 e.values

-- "ranges inside their text on character boundaries": names and values are UTF-8, and so is the canonical text
abbrev pub NamesUtf8 : Texts → Attrs → Type 0
NamesUtf8 t a = all entry_utf8 (meaning_of t a) ≡ true

abbrev pub WrittenUtf8 : Texts → Attrs → Type 0
WrittenUtf8 t a = is_utf8 (canon (meaning_of t a)) ≡ true

abbrev pub MeansUtf8 : Type 0
MeansUtf8 = (t : Texts) (a : Attrs) → well_formed t a ≡ true → NamesUtf8 t a × WrittenUtf8 t a

-- ---- the set with nothing in it, whatever lies past its counts
pub record HasNothing (a : Attrs) : Type 0 where
  pub id : a.given ≡ false
  pub classes : a.nclass ≡ 0
  pub keys : a.nkey ≡ 0
  pub slots : a.norder ≡ 0

-- It is every well-formed table whose counts are zero: an id would need a slot.
abbrev pub CountsZero : Type 0
CountsZero = (t : Texts) (a : Attrs) → table_ok t a ≡ true → a.nclass ≡ 0 → a.nkey ≡ 0 → a.norder ≡ 0 → HasNothing a

-- "An empty set is well-formed .."
abbrev pub EmptyFormed : Type 0
EmptyFormed = (t : Texts) (e : Attrs) → HasNothing e → table_ok t e ≡ true

-- "empty set given to the writer": a well-formed set means nothing just where it has no rows
abbrev pub MeansNothing : Type 0
MeansNothing = (t : Texts) (a : Attrs) → table_ok t a ≡ true → (meaning_of t a ≡ [] → rows_in a ≡ no_rows) × (rows_in a ≡ no_rows → meaning_of t a ≡ [])

-- ---- a set that is put together
-- what may be put into a well-formed set
unfoldable pub put_ok : Texts → Put → Bool
put_ok t (Put.ident v) = value_ok t v
put_ok t (Put.class v) = class_ok t v
put_ok t (Put.key n v) = key_ok t (record { name = n; value = v })

-- ".. every set handed out, and it is well-formed if its texts give neither 1 nor 2.": good rows stay good as good things are put into them ..
abbrev pub PutsKeep : Texts → Type 0
PutsKeep t = (s : Rows) (ps : List Put) → rows_ok t s ≡ true → all (put_ok t) ps ≡ true → rows_ok t (with_puts t s ps) ≡ true

-- .. and within the limits make a well-formed table
abbrev pub TableKeeps : Texts → Type 0
TableKeeps t = (s : Rows) → rows_ok t s ≡ true → length s.classes ≤ max_classes → length s.keys ≤ max_keys → table_ok t (table_of s) ≡ true
