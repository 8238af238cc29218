-- What a caller from C or Rust is told of a report.
use Rattle.std.specs.Prelude.{ℕ, List, [], ◌∷◌}
use Rattle.sheet_report.specs.declared.Part.{Part}

-- a part of a report: its length, and the place and line at which it goes on, both 0 where it is whole or refused
abbrev pub part_told : Part → List ℕ
part_told p = p.len ∷ p.at ∷ p.line ∷ []
