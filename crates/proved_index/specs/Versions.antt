-- "The index header becomes 2. A version 1 index is refused and rebuilt, and a display of last season must refuse version 2 by its header and show nothing from it."
use Rattle.std.specs.Prelude.{◌≡◌, true, ℕ, ◌≤◌, length}
use mathlib.Core.List.{List, ◌++◌, flat_map}
use Rattle.base_refusals.specs.declared.Refusal.{Refusal}
use Rattle.base_refusals.specs.declared.Refusal.TheVariants.{NotAnIndex, AnotherVersion}
use Rattle.sheet_records.specs.Records.{Record, AllIn, record_line, most_number, index_version, header_of, rows_at, IsIndex}
use Rattle.sheet_records.specs.Computed.{not_index, rows, is_other, read_index_of, read_index}

-- "16 first line right but for another number": the first line, with its LF, is that of another version than v; what follows doesn't matter
pub record OtherHeader (v : ℕ) (t : List ℕ) : Type 0 where
  pub number : ℕ
  pub within : number ≤ most_number
  pub other : number ≡ v → ⊥
  pub behind : List ℕ
  pub text : t ≡ header_of number ++ behind

-- the test that reading, looking up and mending order 16 by says so exactly there
abbrev pub OtherByRule : Type 0
OtherByRule = (t : List ℕ) → (is_other index_version t ≡ true → OtherHeader index_version t) × (OtherHeader index_version t → is_other index_version t ≡ true)

-- 16 exactly there
abbrev pub SixteenExactly : Type 0
SixteenExactly = (t : List ℕ) → (read_index t ≡ not_index AnotherVersion → OtherHeader index_version t) × (OtherHeader index_version t → read_index t ≡ not_index AnotherVersion)

-- neither the first line of another version nor "an index of this form"
pub record NoForm (t : List ℕ) : Type 0 where
  pub head : OtherHeader index_version t → ⊥
  pub form : (rs : List Record) → IsIndex t rs → ⊥

-- 14 exactly there, "16 .., before 14"
abbrev pub FourteenExactly : Type 0
FourteenExactly = (t : List ℕ) → (read_index t ≡ not_index NotAnIndex → NoForm t) × (NoForm t → read_index t ≡ not_index NotAnIndex)

-- an index as version v has it, whatever its records are
abbrev pub version_text : ℕ → List Record → List ℕ
version_text v rs = header_of v ++ flat_map record_line rs

-- "first line `carve-attr-index`, tab, `1`; then one record a line": such an index a display of last season reads, as the rows of its records
abbrev pub LastSeasonReads : Type 0
LastSeasonReads = (rs : List Record) → AllIn rs → read_index_of 1 (version_text 1 rs) ≡ rows (rows_at (length (header_of 1)) rs)

-- "a display of last season must refuse version 2 by its header and show nothing from it": 14, whatever follows the first line
abbrev pub LastSeason : Type 0
LastSeason = (rest : List ℕ) → read_index_of 1 (header_of 2 ++ rest) ≡ not_index NotAnIndex

-- it knows no other refusal
abbrev pub OnlyFourteen : Type 0
OnlyFourteen = (t : List ℕ) (r : Refusal) → read_index_of 1 t ≡ not_index r → r ≡ NotAnIndex

-- "A version 1 index is refused"
abbrev pub VersionOne : Type 0
VersionOne = (rs : List Record) → read_index_of 2 (version_text 1 rs) ≡ not_index AnotherVersion
