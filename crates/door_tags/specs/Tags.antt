-- What a caller from C or Rust is answered of a block whose language tag is looked at.
use Rattle.std.specs.Prelude.{ℕ, zero, suc, List, [], ◌∷◌}
use Rattle.base_bytes.specs.declared.Mode.{Mode}
use Rattle.base_refusals.specs.Numbers.{Paper, passed_paper}
use Rattle.read_tags.specs.Tagged.{read_tagged}
use Rattle.read_tags.specs.declared.Tags as tags
use Rattle.read_tags.specs.declared.Tags.TheVariants.{Any, WellFormed}
use Rattle.door_shared.specs.Tells.{Said}
use Rattle.door_sets.specs.Sets.{brace_by}

-- "chosen by the caller beside the blank mode": 0 is any tag, any other number a well-formed one
abbrev pub tags_of : ℕ → tags.Tags
tags_of zero = Any
tags_of (suc n) = WellFormed

-- on paper: that number, 1 for any other
abbrev pub tags_paper : tags.Tags → Paper
tags_paper Any = passed_paper (0 ∷ [])
tags_paper WellFormed = passed_paper (1 ∷ [])

-- at a brace 1, 3, 4, 2, 5, 13, 6, 7, and then the writer's 2, of the whole text, and 10
unfoldable pub tagged_said : tags.Tags → Mode → List ℕ → ℕ → List ℕ → Said
tagged_said g m t i buf = brace_by t buf (read_tagged g m t i)
