-- "look up the first record of an id", "Looking up says not found exactly when no record, so in a built index no block, has that id."
use Rattle.std.specs.Prelude.{◌≡◌, Bool, true, not, List, ◌∷◌, ◌++◌, ℕ, length, Ok, None, Some, Result, Option}
use Rattle.base_refusals.specs.declared.Refusal.{Refusal}
use Rattle.base_lists.specs.Lists.{all, over}
use Rattle.read_blocks.specs.Blocks.{texts_in, filled_found}
use Rattle.sheet_blocks.specs.Sheets.{Try, blocks_of}
use Rattle.sheet_verdicts.specs.Verdicts.{verdict_at}
use Rattle.sheet_records.specs.Records.{an_id, Record, IsIndex}
use Rattle.sheet_records.specs.Listed.{id_of}
use Rattle.sheet_index.specs.Building.{built_of, built_text, counted_of, counted_table}
use Rattle.sheet_index.specs.Finding.{has_id, find_record, find_row}

-- no record of the list has the id
abbrev pub lacks_id : List ℕ → List Record → Bool
lacks_id id rs = all (λ r. not (has_id id r)) rs

-- the first that has it: none before it does
pub record FirstWith (id : List ℕ) (rs : List Record) (r : Record) : Type 0 where
  pub front : List Record
  pub behind : List Record
  pub stands : rs ≡ front ++ (r ∷ behind)
  pub has : has_id id r ≡ true
  pub none_before : lacks_id id front ≡ true

-- the first record with the id is found, and what is found is its
abbrev pub FindsFirst : Type 0
FindsFirst =
    (t id : List ℕ) (rs : List Record) → IsIndex t rs
    → ((r : Record) → FirstWith id rs r → find_record t id ≡ Ok (Some (r.line, r.count, r.offset)))
    × ((l c o : ℕ) → find_record t id ≡ Ok (Some (l, c, o)) → (r : Record) × ((◌≡◌ {A = Result (Option (ℕ × ℕ × ℕ)) Refusal} (Ok (Some (r.line, r.count, r.offset))) (Ok (Some (l, c, o)))) × FirstWith id rs r))

-- "not found exactly when no record .. has that id"
abbrev pub MissesExactly : Type 0
MissesExactly = (t id : List ℕ) (rs : List Record) → IsIndex t rs → (find_record t id ≡ Ok None → lacks_id id rs ≡ true) × (lacks_id id rs ≡ true → find_record t id ≡ Ok None)

-- one of these blocks of the text t is printed and has the id
pub record PrintedWith (t id : List ℕ) (xs : List Try) : Type 0 where
  pub block : Try
  pub front : List Try
  pub behind : List Try
  pub stands : xs ≡ front ++ (block ∷ behind)
  pub printed : verdict_at t block ≡ Ok tt
  pub has : id_of (texts_in t block.found) (filled_found t block.at block.found).set ≡ an_id id

-- ".., so in a built index no block, has that id": no printed block of the sheet
abbrev pub MissesNoBlock : Type 0
MissesNoBlock = (t id : List ℕ) (cap n size k m : ℕ) → built_of t cap n size ≡ Ok (k, m)
    → (find_record (built_text t cap n size) id ≡ Ok None → PrintedWith t id (blocks_of t) → ⊥) × ((PrintedWith t id (blocks_of t) → ⊥) → find_record (built_text t cap n size) id ≡ Ok None)

-- over the rows that were read of an index, in any table that has room for them, the same is found as in its text
abbrev pub RowsAnswer : Type 0
RowsAnswer = (t id table : List ℕ) (k : ℕ) → counted_of t (length table) ≡ Ok k → find_row t (over (counted_table t (length table)) table) k id ≡ find_record t id
