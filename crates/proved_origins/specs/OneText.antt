-- "A set with one text only, the other being lent empty, behaves as before."
use Rattle.std.specs.Prelude.{◌≡◌, Bool, true, false, ◌&&◌, List, [], ℕ}
use Rattle.base_lists.specs.Lists.{all}
use Rattle.text_checks.specs.Check.{check_of, both_of, is_text}
use Rattle.set_table.specs.Types.{Texts, two, one, text_at}
use Rattle.set_table.specs.Rows.{Ident, rows_in, meaning_of}
use Rattle.set_table.specs.declared.Origin.{Origin}
use Rattle.set_table.specs.declared.Origin.TheVariants.{First, Second}
use Rattle.set_table.specs.declared.Text.{Text}
use Rattle.set_table.specs.declared.Text.TheVariants.{Plain, Quoted, Empty}
use Rattle.set_table.specs.declared.Value.{Value}
use Rattle.set_table.specs.declared.Name.{Name}
use Rattle.set_table.specs.declared.Name.TheVariants.{Range, Lang}
use Rattle.set_table.specs.declared.Row.{Row}
use Rattle.set_table.specs.declared.Attrs.{Attrs}
use Rattle.set_exchange.specs.Exchange.{other_origin, exchanged}
use Rattle.set_values.specs.Values.{range_ok}
use Rattle.set_wellformed.specs.WellFormed.{table_ok, well_formed}
use Rattle.set_writer.specs.Write.{attrs_wrote, attrs_content}
use Rattle.set_merge.specs.Merge.{merge_of}

-- ---- a set that is of the text o alone: its id, if one is given, and the classes and rows that count
abbrev pub is_origin : Origin → Origin → Bool
is_origin First First = true
is_origin First Second = false
is_origin Second First = false
is_origin Second Second = true

-- an empty value is of no text
abbrev pub text_is : Origin → Text → Bool
text_is o (Plain p from to) = is_origin o p
text_is o (Quoted p from to) = is_origin o p
text_is o Empty = true

abbrev pub value_is : Origin → Value → Bool
value_is o v = text_is o v.text

-- "the fixed name `lang`" is of no text
abbrev pub name_is : Origin → Name → Bool
name_is o (Range p from to) = is_origin o p
name_is o Lang = true

abbrev pub ident_is : Origin → Ident → Bool
ident_is o Ident.missing = true
ident_is o (Ident.given v) = value_is o v

abbrev pub row_is : Origin → Row → Bool
row_is o r = name_is o r.name && value_is o r.value

unfoldable pub is_all_of : Origin → Attrs → Bool
is_all_of o a = ident_is o (rows_in a).ident && (all (value_is o) (rows_in a).classes && all (row_is o) (rows_in a).keys)

-- the exchanged set is of the other text
abbrev pub ExchangedOf : Type 0
ExchangedOf = (o : Origin) (a : Attrs) → is_all_of (other_origin o) (exchanged a) ≡ is_all_of o a

-- ---- what it is to behave as before
-- the text t at o, and u as the other: `lent First t []` is `one t`
abbrev pub lent : Origin → List ℕ → List ℕ → Texts
lent First t u = two t u
lent Second t u = two u t

-- with u as the other text, if that "gives neither 1 nor 2", all is as with "the other being lent empty"
pub record AsBefore (o : Origin) (t u : List ℕ) (a : Attrs) : Type 0 where
  pub means : meaning_of (lent o t u) a ≡ meaning_of (lent o t []) a
  pub table : table_ok (lent o t u) a ≡ table_ok (lent o t []) a
  pub formed : is_text u ≡ true → well_formed (lent o t u) a ≡ well_formed (lent o t []) a
  pub wrote : is_text u ≡ true → (size : ℕ) → attrs_wrote (lent o t u) a size ≡ attrs_wrote (lent o t []) a size
  pub content : is_text u ≡ true → (buf : List ℕ) → attrs_content (lent o t u) a buf ≡ attrs_content (lent o t []) a buf

-- outcome and set alike
abbrev pub MergesAsBefore : Origin → List ℕ → List ℕ → Attrs → Attrs → Type 0
MergesAsBefore o t u a b = is_text u ≡ true → merge_of (lent o t u) a b ≡ merge_of (lent o t []) a b

-- ---- a set of one text behaves as before, also one that isn't well-formed, and merges to a set of that text
pub record OneText (o : Origin) (t u : List ℕ) : Type 0 where
  pub one : (a : Attrs) → is_all_of o a ≡ true → AsBefore o t u a
  pub merge : (a b : Attrs) → is_all_of o a ≡ true → is_all_of o b ≡ true → MergesAsBefore o t u a b
  pub merged : (a b : Attrs) → is_all_of o a ≡ true → is_all_of o b ≡ true → is_all_of o (merge_of (lent o t u) a b).set ≡ true

abbrev pub BehavesAsBefore : Type 0
BehavesAsBefore = (o : Origin) (t u : List ℕ) → OneText o t u

-- ---- the mirror image: a set of the first text alone, exchanged and lent that text as the second
pub record Mirrored (t u : List ℕ) (a : Attrs) : Type 0 where
  pub means : meaning_of (two u t) (exchanged a) ≡ meaning_of (one t) a
  pub table : table_ok (two u t) (exchanged a) ≡ table_ok (one t) a
  pub formed : is_text u ≡ true → well_formed (two u t) (exchanged a) ≡ well_formed (one t) a
  pub wrote : is_text u ≡ true → (size : ℕ) → attrs_wrote (two u t) (exchanged a) size ≡ attrs_wrote (one t) a size
  pub content : is_text u ≡ true → (buf : List ℕ) → attrs_content (two u t) (exchanged a) buf ≡ attrs_content (one t) a buf

abbrev pub MergesMirrored : List ℕ → List ℕ → Attrs → Attrs → Type 0
MergesMirrored t u a b =
    is_text u ≡ true → merge_of (two u t) (exchanged a) (exchanged b) ≡ record { outcome = (merge_of (one t) a b).outcome; set = exchanged (merge_of (one t) a b).set }

pub record MirrorImage (t u : List ℕ) : Type 0 where
  pub of : (a : Attrs) → is_all_of First a ≡ true → is_all_of Second (exchanged a) ≡ true
  pub one : (a : Attrs) → is_all_of First a ≡ true → Mirrored t u a
  pub merge : (a b : Attrs) → is_all_of First a ≡ true → is_all_of First b ≡ true → MergesMirrored t u a b

abbrev pub MirrorsAsBefore : Type 0
MirrorsAsBefore = (t u : List ℕ) → MirrorImage t u

-- ---- a set that is well-formed with "the other being lent empty" behaves as before too: of the empty text it has but ranges from 0 to 0
abbrev pub EmptyText : Type 0
EmptyText = (t : Texts) (o : Origin) → text_at t o ≡ [] → (from to : ℕ) → range_ok t o from to ≡ true → (from ≡ 0) × (to ≡ 0)

abbrev pub ZeroRange : Type 0
ZeroRange = (t : Texts) (o : Origin) → is_text (text_at t o) ≡ true → range_ok t o 0 0 ≡ true

-- which any text has, so it stays well-formed, with its meaning, whatever text is then lent, if that "gives neither 1 nor 2"
pub record FormedStays (o : Origin) (t u : List ℕ) : Type 0 where
  pub one : (a : Attrs) → is_text u ≡ true → table_ok (lent o t []) a ≡ true → AsBefore o t u a
  pub formed : (a : Attrs) → is_text u ≡ true → well_formed (lent o t []) a ≡ true → well_formed (lent o t u) a ≡ true
  pub merge : (a b : Attrs) → table_ok (lent o t []) a ≡ true → table_ok (lent o t []) b ≡ true → MergesAsBefore o t u a b

abbrev pub FormedOverMore : Type 0
FormedOverMore = (o : Origin) (t u : List ℕ) → FormedStays o t u

-- ---- with the other lent empty no more is asked than of the one text
pub record EmptyAsks (t : List ℕ) : Type 0 where
  pub first : both_of t [] ≡ check_of t
  pub second : both_of [] t ≡ check_of t
  pub formed : (a : Attrs) → well_formed (two t []) a ≡ (is_text t && table_ok (two t []) a)

abbrev pub EmptyAsksNothing : Type 0
EmptyAsksNothing = (t : List ℕ) → EmptyAsks t
