-- "Prove it equal to the first reader for every text, place and mode, refusal numbers and order included, also the places of CR 2."
use Rattle.std.specs.Prelude.{◌≡◌, List, ℕ}
use Rattle.base_bytes.specs.declared.Mode.{Mode}
use Rattle.read_brace.specs.declared.Read.{Read}
use Rattle.read_brace.specs.Brace.{read_attrs_at, brace_paper, place_said}
use Rattle.read_tags.specs.declared.Tags.{Tags}
use Rattle.read_tags.specs.declared.Tags.TheVariants.{Any}
use Rattle.read_tags.specs.Tagged.{read_tagged}

-- what `read_brace::read_attrs_at_with` may answer, ..
abbrev pub FirstReads : Mode → List ℕ → ℕ → Read → Type 0
FirstReads m t i r = r ≡ read_attrs_at m t i

-- .. `read_tags::read_attrs_at_tags`, and `read_once::read_attrs_once_with`
abbrev pub TagsReads : Tags → Mode → List ℕ → ℕ → Read → Type 0
TagsReads g m t i r = r ≡ read_tagged g m t i

-- two answers are the same, row by row; so are their numbers with the place behind the block, and the places of a 5
pub record Alike (a b : Read) : Type 0 where
  pub answers : a ≡ b
  pub numbers : brace_paper a.answer ≡ brace_paper b.answer
  pub places : place_said a.answer ≡ place_said b.answer

-- "equal to the first reader": any answer of the one and any of the other, where any tag is taken ..
abbrev pub ReadersEqual : Type 0
ReadersEqual = (m : Mode) (t : List ℕ) (i : ℕ) (a b : Read) → FirstReads m t i a → TagsReads Any m t i b → Alike a b

-- .. and where the tag is looked at or not
abbrev pub TagReadersEqual : Type 0
TagReadersEqual = (g : Tags) (m : Mode) (t : List ℕ) (i : ℕ) (a b : Read) → TagsReads g m t i a → TagsReads g m t i b → Alike a b
