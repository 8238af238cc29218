-- The tests of a tag, and of what stands behind `:`, are the grammar's rules.
-- Assumes nothing.
use mathlib.Core.List.{List}
use Prim.Native.Nat.{ℕ}
use Rattle.text_names.proofs.Grammar as laws
use Rattle.proved_grammar.specs.Tags.{PassedIsTag, TagPasses, PassedIsLanguage, LanguagePasses}

pub sound : PassedIsTag
sound = laws.sound

pub complete : {s : List ℕ} → TagPasses s
complete t = laws.complete t

pub language_sound : PassedIsLanguage
language_sound = laws.language_sound

pub language_complete : {s : List ℕ} → LanguagePasses s
language_complete l = laws.language_complete l
