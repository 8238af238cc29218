-- What the code's own functions promise. No definition of a public promise rests on these.
use Rattle.std.specs.Prelude.{ℕ, ◌+◌, ◌≤◌, ◌&&◌, length}
use mathlib.Core.List.{List, foldl}
use Rattle.sheet_records.specs.Records.{Record, record_line, row_at}
use Rattle.sheet_records.specs.Writing.{line_over, row_over}
use Rattle.sheet_stands.specs.Stands.{stands_at}
use Rattle.sheet_mends.specs.declared.Progress.{Progress}

-- records that are told one after the other: whether their lines stand in an index, how many they are and where the next line begins; and the lent table and buffer,
-- into which they are put where they have room
pub record Telling : Type 0 where
  pub so : Progress
  pub table : List ℕ
  pub out : List ℕ

abbrev pub progress : List ℕ → Progress → Record → Progress
progress index s r = record { good = s.good && stands_at index s.next (record_line r); records = s.records + 1; next = s.next + length (record_line r) }

abbrev pub tell_one : List ℕ → Telling → Record → Telling
tell_one index t r =
    record {
      so = progress index t.so r;
      table = row_over t.table t.so.records (row_at t.so.next r);
      out = line_over t.out t.so.next r;
    }

unfoldable pub tell_all : List ℕ → Telling → List Record → Telling
tell_all index t rs = foldl (tell_one index) t rs

-- ---- so that no number that is counted on leaves its type

-- so many records and bytes may have been told before
abbrev pub so_few : Progress → Type 0
so_few s = (s.records ≤ 1152921504606846976) × (s.next ≤ 1152921504606846976)

-- and so many before one record more
abbrev pub one_more : Progress → Type 0
one_more s = (s.records ≤ 2305843009213693952) × (s.next ≤ 2305843009213693952)

-- from one telling to another at most n records and k bytes more
abbrev pub at_most : ℕ → ℕ → Progress → Progress → Type 0
at_most n k s r = (r.records ≤ s.records + n) × (r.next ≤ s.next + k)

-- the records of a text take no more: `most_line` for each of its bytes
abbrev pub most_text : ℕ
most_text = 4299030465

-- no index is longer than that of three texts
abbrev pub most_index : ℕ
most_index = 12897091414

-- the records of an index, their lines and offsets moved: 63 for each of its bytes
abbrev pub most_kept : ℕ
most_kept = 812516759082
