-- Reading at a brace against the table 'Sizes and refusal numbers', whose rows are the rules `Given` of Table.
use Rattle.std.specs.Prelude.{ℕ, ◌≤◌, ◌≡◌, true, cond, List, [], length, Err, Ok, Result}
use Rattle.base_bytes.specs.declared.Mode.{Mode}
use Rattle.base_bytes.specs.declared.Mode.TheVariants.{Strict}
use Rattle.base_refusals.specs.Numbers.{max_text, too_long}
use Rattle.base_refusals.specs.declared.Refusal.TheVariants.{TextTooLong, NothingThere, NoReading}
use Rattle.text_utf8.specs.Utf8.{is_boundary}
use Rattle.text_utf8.specs.Computed.{is_utf8}
use Rattle.block_grammar.specs.Grammar.{Placed}
use Rattle.block_grammar.specs.Meaning.{Entry}
use Rattle.proved_grammar.specs.Meaning.{listed}
use Rattle.set_canon.specs.Canon.{canon}
use Rattle.proved_sets.specs.Formed.{wf}
use Rattle.set_table.specs.Types.{one}
use Rattle.set_table.specs.Rows.{listed_of, meaning_of}
use Rattle.read_brace.specs.declared.NotRead.{NotRead}
use Rattle.read_brace.specs.declared.NotRead.TheVariants.{Refused, Unread}
use Rattle.read_brace.specs.declared.Read.{Read}
use Rattle.read_brace.specs.Brace.{brace_paper, refusing_read, brace_at, read_to, read_attrs_at}
use Rattle.proved_grammar.specs.Close.{last_close, search_with}
use Rattle.proved_reading.specs.Table.{BlockAt, Reads, Given}
use Rattle.proved_sets.specs.Limits.{Exactly}

-- what the set means that reading at i hands out
abbrev pub meant_at : Mode → List ℕ → ℕ → List Entry
meant_at m t i = meaning_of (one t) (read_attrs_at m t i).set

-- "Reading .. still list[s] every class": the set lists what the payload's items list
abbrev pub BraceLists : Type 0
BraceLists = (m : Mode) (t : List ℕ) (i n e : ℕ) (is : List Placed) → (read_attrs_at m t i).answer ≡ Ok n → Reads m t i e is → listed_of (one t) (read_attrs_at m t i).set ≡ listed is

-- reading at i answers a, with a set that means s
pub record AnswersSo (m : Mode) (t : List ℕ) (i : ℕ) (a : Result ℕ NotRead) (s : List Entry) : Type 0 where
  pub answer : (read_attrs_at m t i).answer ≡ a
  pub means : meant_at m t i ≡ s

-- ---- "Given exactly when", in the "Order: at a brace 1, 3, 4, 2, 5, 6, 7"

abbrev pub BraceByRules : Type 0
BraceByRules = (m : Mode) (t : List ℕ) (i : ℕ) → Exactly (Given m t i) (read_attrs_at m t i).answer (meant_at m t i)

-- "Order: at a brace .., 6, 7": no number above comes
abbrev pub UpToSeven : Mode → List ℕ → ℕ → Type 0
UpToSeven m t i = (brace_paper (read_attrs_at m t i).answer).number ≤ 7

-- ---- "Refusal 5 at a brace shall carry a place": none is given without one

abbrev pub FiveHasPlace : Mode → List ℕ → ℕ → Type 0
FiveHasPlace m t i = (read_attrs_at m t i).answer ≡ Err (Refused NoReading) → ⊥

-- ".., ending on a character boundary": it is one of the payload, so among the prefixes that end on one it is the longest too
abbrev pub PlaceOnBoundary : Type 0
PlaceOnBoundary = (m : Mode) (t : List ℕ) (i e n : ℕ) (b : BlockAt t i e) → (read_attrs_at m t i).answer ≡ Err (Unread n) → is_boundary b.closes.inside n ≡ true

-- ---- "Reading back is `read_attrs_at` at byte 0"

-- what was read has a canonical text
abbrev pub ReadIsWell : Mode → List ℕ → ℕ → ℕ → Type 0
ReadIsWell m t i n = (read_attrs_at m t i).answer ≡ Ok n → (wf (meant_at m t i) ≡ true) × (meant_at m t i ≡ [] → ⊥)

-- which, within the sizes, reads back to its last byte as the same
abbrev pub ReadsBackAgain : Mode → List ℕ → ℕ → ℕ → Type 0
ReadsBackAgain m t i n = (read_attrs_at m t i).answer ≡ Ok n → length (canon (meant_at m t i)) ≤ max_text → is_utf8 (canon (meant_at m t i)) ≡ true
    → AnswersSo Strict (canon (meant_at m t i)) 0 (Ok (length (canon (meant_at m t i)))) (meant_at m t i)

-- ---- "its dropped third argument, the true place of the text's last `}`, changes nothing"

-- reading with 000's test of that argument before the search for the close
abbrev pub read_with_last : Mode → List ℕ → ℕ → Read
read_with_last m t i = cond (too_long t) (refusing_read TextTooLong) (cond (brace_at t i) (read_to m t i (search_with (last_close t) t i)) (refusing_read NothingThere))

abbrev pub ThirdDropped : Type 0
ThirdDropped = (m : Mode) (t : List ℕ) (i : ℕ) → read_with_last m t i ≡ read_attrs_at m t i
