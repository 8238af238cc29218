-- "well-formedness in RFC 5646 section 2.1: language, extlang, script, region, variants, extensions, private use, and the registered irregular tags listed there.
-- The empty tag stays allowed, since it means unknown. Accepted exactly the ABNF's language, letter case ignored." The ABNF is the types of text_langtags/specs/Grammar.
use Rattle.std.specs.Prelude.{◌≡◌, true, List, [], ℕ}
use Rattle.text_names.specs.Grammar.{Tag}
use Rattle.text_langtags.specs.Letters.{smalls, is_listed, irregulars, regulars}
use Rattle.text_langtags.specs.Grammar.{Langtag, Privateuse, LanguageTag, Allowed}
use Rattle.text_langtags.specs.Computed.{is_well_formed, is_allowed}

-- "Accepted exactly the ABNF's language": what is accepted has a derivation, and what has one is accepted. Whether it has several doesn't matter:
-- `zh-min` is a langtag and listed.
abbrev pub TagsExactly : Type 0
TagsExactly = (s : List ℕ) → (is_well_formed s ≡ true → LanguageTag s) × (LanguageTag s → is_well_formed s ≡ true)

-- "The empty tag stays allowed"
abbrev pub AllowedExactly : Type 0
AllowedExactly = (s : List ℕ) → (is_allowed s ≡ true → Allowed s) × (Allowed s → is_allowed s ≡ true)

-- "letter case ignored": the answers for a text and for it in small letters are the same
abbrev pub CaseIgnored : Type 0
CaseIgnored = (s : List ℕ) → (is_well_formed (smalls s) ≡ is_well_formed s) × (is_allowed (smalls s) ≡ is_allowed s)

-- the nine regular tags are langtags already, so that their list changes nothing
abbrev pub RegularAreLangtags : Type 0
RegularAreLangtags = (s : List ℕ) → is_listed regulars (smalls s) ≡ true → Langtag s

-- "the registered irregular tags listed there": none of the 17 is a langtag or private use, so that their list is needed
abbrev pub IrregularAreNeither : Type 0
IrregularAreNeither = (s : List ℕ) → is_listed irregulars (smalls s) ≡ true → (Langtag s → ⊥) × (Privateuse s → ⊥)

-- each well-formed tag is a tag of document 01's grammar, and none is empty
abbrev pub AllAreTags : Type 0
AllAreTags = (s : List ℕ) → LanguageTag s → Tag s

abbrev pub NoneIsEmpty : Type 0
NoneIsEmpty = LanguageTag [] → ⊥
