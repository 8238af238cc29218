-- What the functions promise that put the parts of a mended index together. No definition of a public promise rests on these.
use Rattle.std.specs.Prelude.{ℕ, ◌+◌, ◌≤◌, ◌≡◌, List, [], ◌∷◌, ◌++◌, map, ltb, length, take, drop, Err, Ok, Result, Some}
use Rattle.std.proofs.Math.Seq.{slice}
use Rattle.base_lists.specs.Lists.{over, same}
use Rattle.base_refusals.specs.Numbers.{max_text}
use Rattle.base_refusals.specs.Orders.{Ground, in_order}
use Rattle.base_refusals.specs.declared.Refusal.TheVariants.{NothingThere, JoinFull}
use Rattle.text_lines.specs.Lines.{lines}
use Rattle.sheet_blocks.specs.Sheets.{Try, tries_at}
use Rattle.sheet_records.specs.Records.{Record, AllIn, index_text, index_rows, table_numbers}
use Rattle.sheet_records.specs.Listed.{records_of}
use Rattle.sheet_index.specs.Building.{room_for, laid_by}
use Rattle.sheet_index.specs.Inner.{lines_text}
use Rattle.sheet_splits.specs.Parting.{MayPart, moved_on}
use Rattle.sheet_edits.specs.Edits.{again_of, is_again, again_text}
use Rattle.sheet_mends.specs.Mending.{version_order, old_order}
use Rattle.sheet_mends.specs.Inner.{most_index}
use Rattle.sheet_mends.specs.declared.Progress.{Progress}
use Rattle.sheet_mends.specs.declared.Seen.{Seen}
use Rattle.base_refusals.specs.declared.Refusal.{Refusal}

-- the lines from p up to e of the old text are read again, which end at n of the new one: for some lines that were replaced
abbrev pub AreAgain : List ℕ → List ℕ → ℕ → ℕ → ℕ → Type 0
AreAgain old new p e n = (a : ℕ) × ((b : ℕ) × (again_of old new a b ≡ Some (p, e, n)))

-- where the old text may be parted
abbrev pub OldParts : List ℕ → ℕ → ℕ → Type 0
OldParts old p e = (p ≤ e) × ((e ≤ length old) × (MayPart (take p old) (drop p old) × MayPart (slice p e old) (drop e old)))

-- how many lines stand before those that are read again, and how many before those behind them
abbrev pub lines_to : List ℕ → ℕ → ℕ
lines_to old p = length (lines (take p old))

abbrev pub lines_past : List ℕ → ℕ → ℕ → ℕ
lines_past old p e = lines_to old p + length (lines (slice p e old))

-- the records of these lines in an old text
abbrev pub again_records : List ℕ → ℕ → ℕ → List Record
again_records old p e = map (moved_on (lines_to old p) p) (records_of (slice p e old))

-- what is seen of an old text and an index: whether it is its own, and where in it the records of these lines begin and end
abbrev pub seen_of : List ℕ → ℕ → ℕ → List ℕ → Seen
seen_of old p e index =
    record {
      good = same index (index_text (records_of old));
      line = lines_to old p;
      less = lines_past old p e;
      records = length (records_of (take p old));
      from = length (index_text (records_of (take p old)));
      to = length (index_text (records_of (take p old))) + length (lines_text (again_records old p e));
    }

-- the checks are passed, the index is the old text's own, and this was seen of them
pub record MayMend (old new : List ℕ) (p e n : ℕ) (index join : List ℕ) (seen : Seen) : Type 0 where
  pub old_short : length old ≤ max_text
  pub old_in : AllIn (records_of old)
  pub new_short : length new ≤ max_text
  pub wide : max_text ≤ length join
  pub again : AreAgain old new p e n
  pub own : index ≡ index_text (records_of old)
  pub short : length index ≤ most_index
  pub few : seen.records ≤ max_text
  pub is : seen ≡ seen_of old p e index

-- so many records and bytes may have been told before, so that a text and a part of an index can be told behind them
abbrev pub so_far : Progress → Type 0
so_far s = (s.records ≤ 1125899906842624) × (s.next ≤ 1125899906842624)

-- the records of a text, and behind them those of another, d lines and o bytes farther on
abbrev pub text_and_rest : ℕ → ℕ → List ℕ → List ℕ → List Record
text_and_rest d o text rest = map (moved_on d o) (records_of text) ++ map (moved_on (d + length (lines text)) (o + length text)) (records_of rest)

-- ---- by an order, of records: what is answered, and what then stands in the table and the buffer

abbrev pub answered_by : List Ground → List Record → Result (ℕ × ℕ) Refusal
answered_by gs rs = in_order Err gs (Ok (length rs, length (index_text rs)))

abbrev pub table_by : List Ground → List Record → List ℕ → List ℕ
table_by gs rs table = over (laid_by gs (table_numbers (index_rows rs))) table

abbrev pub text_by : List Ground → List Record → List ℕ → List ℕ
text_by gs rs out = over (laid_by gs (index_text rs)) out

-- ---- the orders from a check on, and the tries behind it

abbrev pub behind_version : List ℕ → List ℕ → List ℕ → ℕ → ℕ → List Ground
behind_version old new index n size = old_order old index ++ room_for n size (records_of new)

abbrev pub compared_tries : List ℕ → List ℕ → List ℕ → List Try
compared_tries old index again = tries_at old max_text 1 0 ++ laid_by (old_order old index) (tries_at again max_text 1 0)

abbrev pub behind_edit : List ℕ → List ℕ → List ℕ → ℕ → ℕ → List Ground
behind_edit old new index n size = version_order index ++ behind_version old new index n size

abbrev pub version_tries : List ℕ → List ℕ → List ℕ → List Try
version_tries old index again = laid_by (version_order index) (compared_tries old index again)

abbrev pub join_and_edit : List ℕ → List ℕ → ℕ → ℕ → ℕ → List Ground
join_and_edit old new a b cap = Ground.given JoinFull (ltb cap max_text) ∷ Ground.lacking NothingThere (is_again (again_of old new a b)) ∷ []

abbrev pub behind_texts : List ℕ → List ℕ → ℕ → ℕ → List ℕ → ℕ → ℕ → ℕ → List Ground
behind_texts old new a b index cap n size = join_and_edit old new a b cap ++ behind_edit old new index n size

abbrev pub checked_tries : List ℕ → List ℕ → ℕ → ℕ → List ℕ → ℕ → List Try
checked_tries old new a b index cap = laid_by (join_and_edit old new a b cap) (version_tries old index (again_text new (again_of old new a b)))
