-- What a caller from C or Rust is told of the dealers' table.
use Rattle.std.specs.Prelude.{ℕ, List, [], ◌∷◌}
use Rattle.text_checks.specs.Outcomes.{or_left}
use Rattle.sheet_variants.specs.Variants.{cell_nos}
use Rattle.sheet_variants.specs.declared.Variants.{Variants}
use Rattle.door_shared.specs.Tells.{told_in}

-- the memory lent for the table: as many of its cells as there is room for; "A refusal hands out no table."
abbrev pub cells_in : List ℕ → Variants → List ℕ
cells_in buf r = or_left r.outcome buf (told_in buf (cell_nos r.table))

-- the first line and the line count of the block that is refused, 0 and 0 where no block is, and the variant of a 21, else 0
abbrev pub variants_told : Variants → List ℕ
variants_told r = r.line ∷ r.lines ∷ r.variant ∷ []
