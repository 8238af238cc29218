-- "`:`, then nothing or a tag. A subtag is 1 to 8 ASCII letters or digits. A tag is one subtag, or a subtag, a hyphen and a tag."
-- These rules are in text_names/specs/Grammar; the tests answer yes to what they derive, and to nothing else.
use Rattle.std.specs.Prelude.{◌≡◌, true, List, ℕ}
use Rattle.text_names.specs.Computed.{is_tag, is_language}
use Rattle.text_names.specs.Grammar.{Tag, Language}

-- "A tag is one subtag, or a subtag, a hyphen and a tag.": what passes is a tag, ..
abbrev pub PassedIsTag : Type 0
PassedIsTag = (s : List ℕ) → is_tag s ≡ true → Tag s

-- .. and a tag passes
abbrev pub TagPasses : List ℕ → Type 0
TagPasses s = Tag s → is_tag s ≡ true

-- "nothing or a tag", in the same way
abbrev pub PassedIsLanguage : Type 0
PassedIsLanguage = (s : List ℕ) → is_language s ≡ true → Language s

abbrev pub LanguagePasses : List ℕ → Type 0
LanguagePasses s = Language s → is_language s ≡ true
