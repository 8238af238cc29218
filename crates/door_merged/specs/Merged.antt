-- What a caller from C or Rust is answered of two blocks that are merged.
use Rattle.std.specs.Prelude.{ℕ, List, [], ◌∷◌, length, Result}
use Rattle.text_checks.specs.Outcomes.{or_else}
use Rattle.text_line_start.specs.Starts.{place_of}
use Rattle.set_table.specs.Types.{Texts, two}
use Rattle.set_table.specs.Rows.{meaning_of}
use Rattle.set_table.specs.declared.Filled.{Filled}
use Rattle.set_canon.specs.Canon.{canon}
use Rattle.set_writer.specs.Write.{or_refused, wrote_of}
use Rattle.set_merge.specs.Merge.{merge_of}
use Rattle.read_blocks.specs.Blocks.{Found, text_found, block_of, as_first, as_second}
use Rattle.read_blocks.specs.ByLine.{block_found}
use Rattle.read_blocks.specs.declared.Block.{Block}
use Rattle.door_shared.specs.Tells.{Said, outcome_of, refused_step, set_said}
use Rattle.base_refusals.specs.declared.Refusal.{Refusal}

-- the first that refuses: reading the common block, reading the variant's, merging them
abbrev pub first_refusal : Block → Block → Filled → Result (Unit {0}) Refusal
first_refusal x y m = or_else x.outcome (or_else y.outcome m.outcome)

-- and then 10
abbrev pub merged_wrote : Texts → Block → Block → Filled → ℕ → Result ℕ Refusal
merged_wrote t x y m size = or_refused (first_refusal x y m) (wrote_of (canon (meaning_of t m.set)) size)

-- told: which step refuses, where the third is merging and writing; the length of the canonical text; the lines of both blocks
abbrev pub filled_said : Texts → Block → Block → Filled → List ℕ → Said
filled_said t x y m buf =
    set_said (first_refusal x y m) t m.set buf (λ n. refused_step x.outcome y.outcome (outcome_of (merged_wrote t x y m (length buf))) ∷ n ∷ x.lines ∷ y.lines ∷ [])

-- "merging, well-formedness and writing take both texts": the common block is of the first, the variant's of the second
abbrev pub merged_said_by : Texts → Block → Block → List ℕ → Said
merged_said_by t x y buf = filled_said t x y (merge_of t (as_first x) (as_second y)) buf

abbrev pub found_said : List ℕ → ℕ → Found → ℕ → Found → List ℕ → Said
found_said t i f k g buf = merged_said_by (two (text_found t f) (text_found t g)) (block_of t i f) (block_of t k g) buf

-- "A common block is one line in the sheet; the variant's block is wrapped and lives in the join buffer. Today they can't be merged.": the blocks at the
-- lines m and n, with cap and size bytes to join their lines in
unfoldable pub merged_said : List ℕ → ℕ → ℕ → ℕ → ℕ → List ℕ → Said
merged_said t m n cap size buf = found_said t (place_of t m) (block_found t m 0 cap) (place_of t n) (block_found t n 0 size) buf
