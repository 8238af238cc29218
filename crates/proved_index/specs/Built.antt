-- "Wanted: build, read, ..": what is built is an index of this form, and is read as it was built.
use Rattle.std.specs.Prelude.{◌≡◌, true, List, ℕ, ◌≤◌, Ok}
use Rattle.base_refusals.specs.Orders.{order_no}
use Rattle.text_checks.specs.Check.{is_text}
use Rattle.sheet_records.specs.Records.{AllIn, IsIndex}
use Rattle.sheet_records.specs.Listed.{records_of}
use Rattle.sheet_records.specs.Writing.{table_size}
use Rattle.sheet_index.specs.Building.{form_order, built_of, built_text, built_table, counted_of, counted_table}

-- "Numbers are decimal, at most 65,535, .., offsets from 0", the id "runs to LF": so are all records of a text that gives neither 1 nor 2
abbrev pub SheetInRange : Type 0
SheetInRange = (t : List ℕ) → is_text t ≡ true → AllIn (records_of t)

-- what is built is of the form, with the records of the sheet
abbrev pub BuiltIsIndex : Type 0
BuiltIsIndex = (t : List ℕ) (cap n size k m : ℕ) → built_of t cap n size ≡ Ok (k, m) → IsIndex (built_text t cap n size) (records_of t)

-- so it is never refused with 16 or 14
abbrev pub BuiltPasses : Type 0
BuiltPasses = (t : List ℕ) (cap n size k m : ℕ) → built_of t cap n size ≡ Ok (k, m) → order_no (form_order (built_text t cap n size)) ≡ 0

-- where a table of p numbers has room for its records, as many are read as were built, and the rows are those of the table that was built with it
abbrev pub BuiltIsRead : Type 0
BuiltIsRead = (t : List ℕ) (cap n size k m p : ℕ) → built_of t cap n size ≡ Ok (k, m) → k ≤ table_size p
    → (counted_of (built_text t cap n size) p ≡ Ok k) × (counted_table (built_text t cap n size) p ≡ built_table t cap n size)
