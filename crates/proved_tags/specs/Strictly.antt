-- Strictly read sets: which they are, and what holds of them.
use Rattle.std.specs.Prelude.{◌≡◌, true, List, ℕ, ◌<◌, ◌≤◌, length, Ok, Err}
use Rattle.base_bytes.specs.declared.Mode.{Mode}
use Rattle.base_bytes.specs.declared.Mode.TheVariants.{Strict}
use Rattle.base_refusals.specs.Numbers.{max_text}
use Rattle.base_refusals.specs.declared.Refusal.TheVariants.{NoReading}
use Rattle.text_checks.specs.Check.{is_text}
use Rattle.block_grammar.specs.Meaning.{Entry}
use Rattle.set_table.specs.Types.{Texts, one, empty_set}
use Rattle.set_table.specs.Rows.{meaning_of}
use Rattle.set_table.specs.declared.Attrs.{Attrs}
use Rattle.set_merge.specs.Merge.{merge_of}
use Rattle.read_brace.specs.Brace.{brace_paper, read_attrs_at}
use Rattle.read_brace.specs.declared.NotRead.TheVariants.{Refused, Unread}
use Rattle.proved_sets.specs.Merged.{merge_meaning}
use Rattle.proved_demands.specs.Demands.{Iff, canon_of, CanonFits, ReadsBack}
use Rattle.read_tags.specs.Tagged.{read_tagged}
use Rattle.read_tags.specs.declared.Tags.{Tags}
use Rattle.read_tags.specs.declared.Tags.TheVariants.{Any, WellFormed}
use Rattle.proved_tags.specs.Rules.{LangAllowed}

-- the set that is read strictly at a place
abbrev pub strict_set : Mode → List ℕ → ℕ → Attrs
strict_set m t i = (read_tagged WellFormed m t i).set

-- a set is read strictly at a place, and n is behind its block
abbrev pub ReadStrictly : Mode → List ℕ → ℕ → ℕ → Type 0
ReadStrictly m t i n = (read_tagged WellFormed m t i).answer ≡ Ok n

-- "Ordinary reading doesn't change, so demand 2 holds as it is."
abbrev pub AnyIsOrdinary : Type 0
AnyIsOrdinary = (m : Mode) (t : List ℕ) (i : ℕ) → read_tagged Any m t i ≡ read_attrs_at m t i

-- a set handed out strictly is the very set of the ordinary reading, and its `lang`, if it has one, is empty or well-formed
pub record Ordinary (m : Mode) (t : List ℕ) (i : ℕ) : Type 0 where
  pub same : read_tagged WellFormed m t i ≡ read_attrs_at m t i
  pub lang : LangAllowed (meaning_of (one t) (strict_set m t i))

abbrev pub StrictIsOrdinary : Type 0
StrictIsOrdinary = (m : Mode) (t : List ℕ) (i n : ℕ) → ReadStrictly m t i n → Ordinary m t i

-- "a refusal .. hands out no set" (demand 1)
abbrev pub StrictRefused : Type 0
StrictRefused = (g : Tags) (m : Mode) (t : List ℕ) (i : ℕ) → 0 < (brace_paper (read_tagged g m t i).answer).number → (read_tagged g m t i).set ≡ empty_set

-- "Refusal 5 at a brace shall carry a place": none is given strictly without one, and 13 comes "after 5", so it is given exactly where the ordinary reading gives it
pub record StrictPlaces (m : Mode) (t : List ℕ) (i : ℕ) : Type 0 where
  pub always : (read_tagged WellFormed m t i).answer ≡ Err (Refused NoReading) → ⊥
  pub place : (n : ℕ) → Iff ((read_tagged WellFormed m t i).answer ≡ Err (Unread n)) ((read_attrs_at m t i).answer ≡ Err (Unread n))

-- "Demand 3 covers strictly read sets too, if the whole text gives neither 1 nor 2, being over well-formed ones.": such a set is of those that demand 3
-- speaks of, if its canonical text fits
abbrev pub StrictFits : Type 0
StrictFits = (m : Mode) (t : List ℕ) (i n : ℕ) → is_text t ≡ true → ReadStrictly m t i n → length (canon_of (one t) (strict_set m t i)) ≤ max_text → CanonFits (one t) (strict_set m t i)

-- so two of them "have equal canonical texts exactly when they mean the same", and each "canonical text reads back, to its last byte, with that meaning"
abbrev pub StrictTextsEqual : Type 0
StrictTextsEqual = (m k : Mode) (t u : List ℕ) (i j : ℕ) → CanonFits (one t) (strict_set m t i) → CanonFits (one u) (strict_set k u j)
    → Iff (canon_of (one t) (strict_set m t i) ≡ canon_of (one u) (strict_set k u j)) (meaning_of (one t) (strict_set m t i) ≡ meaning_of (one u) (strict_set k u j))

abbrev pub StrictReadsBack : Type 0
StrictReadsBack = (m : Mode) (t : List ℕ) (i : ℕ) → CanonFits (one t) (strict_set m t i) → ReadsBack (canon_of (one t) (strict_set m t i)) (meaning_of (one t) (strict_set m t i))

-- a canonical text that is read strictly at byte 0, to its last byte, with the meaning s
pub record BackStrictly (c : List ℕ) (s : List Entry) : Type 0 where
  pub answer : ReadStrictly Strict c 0 (length c)
  pub means : meaning_of (one c) (strict_set Strict c 0) ≡ s

-- of any set of demand 3 whose `lang` would pass,
abbrev pub CanonBackStrictly : Type 0
CanonBackStrictly = (t : Texts) (a : Attrs) → CanonFits t a → LangAllowed (meaning_of t a) → BackStrictly (canon_of t a) (meaning_of t a)

-- so of a set that was read strictly
abbrev pub StrictBackStrictly : Type 0
StrictBackStrictly = (m : Mode) (t : List ℕ) (i n : ℕ) → is_text t ≡ true → ReadStrictly m t i n → length (canon_of (one t) (strict_set m t i)) ≤ max_text
    → BackStrictly (canon_of (one t) (strict_set m t i)) (meaning_of (one t) (strict_set m t i))

-- two sets whose `lang` would pass merge to one whose `lang` would pass,
abbrev pub MergePasses : Type 0
MergePasses = (t : Texts) (a b : Attrs) → (merge_of t a b).outcome ≡ Ok tt → LangAllowed (meaning_of t a) → LangAllowed (meaning_of t b) → LangAllowed (merge_meaning t a b)

-- so two that were read strictly
abbrev pub StrictMergePasses : Type 0
StrictMergePasses = (m k : Mode) (t : List ℕ) (i j n p : ℕ) → ReadStrictly m t i n → ReadStrictly k t j p
    → (merge_of (one t) (strict_set m t i) (strict_set k t j)).outcome ≡ Ok tt → LangAllowed (merge_meaning (one t) (strict_set m t i) (strict_set k t j))
