-- What is demanded, in statements that are proved: the page to read first. Each stands under the sentence that it renders, in quotes, of document 01 (docs/SCOPE.md) or of one of its
-- three demands. `Canonical` beside this page says demand 3 again of the bytes that calls write, and `Cases` has the twelve cases and the example; the other crates
-- proved_* state the theorems of their subjects. A statement's proof is in proofs/Demands.antt, under its name with hyphens, or in proofs/Single.antt and proofs/Canonical.antt.
use Rattle.std.specs.Prelude.{◌≡◌, true, false, not, List, [], map, ℕ, suc, ◌+◌, ◌<◌, ◌≤◌, eqb, length, take, drop, Err, Result, Ok}
use Rattle.base_lists.specs.Lists.{all, run, over}
use Rattle.base_bytes.specs.Bytes.{space, tab}
use Rattle.base_bytes.specs.declared.Mode.{Mode}
use Rattle.base_bytes.specs.declared.Mode.TheVariants.{Strict}
use Rattle.base_refusals.specs.Numbers.{max_text, last_number, number_of}
use Rattle.base_refusals.specs.declared.Refusal.{Refusal}
use Rattle.text_utf8.specs.Computed.{is_utf8}
use Rattle.text_utf8.specs.Utf8.{char_count}
use Rattle.proved_texts.specs.Utf8Rules.{WellFormed}
use Rattle.text_escapes.specs.Unescape.{unescape}
use Rattle.proved_texts.specs.EscapeRules.{StandsFor}
use Rattle.text_tabs.specs.Columns.{columns_from, indent_columns}
use Rattle.proved_texts.specs.Tabs.{expand_from}
use Rattle.text_lines.specs.Lines.{lines}
use Rattle.text_checks.specs.Check.{is_text}
use Rattle.text_line_start.specs.Starts.{place_of}
use Rattle.block_grammar.specs.Grammar.{Placed, Payload, Reading}
use Rattle.block_grammar.specs.Computed.{read_payload}
use Rattle.block_grammar.specs.Close.{Closes}
use Rattle.block_grammar.specs.Quick.{quick_refuses}
use Rattle.block_grammar.specs.Meaning.{Entry}
use Rattle.block_chain.specs.Chain.{Blocks}
use Rattle.block_chain.specs.Computed.{read_blocks}
use Rattle.set_canon.specs.Canon.{canon}
use Rattle.set_table.specs.Types.{Texts, one, empty_set}
use Rattle.set_table.specs.Rows.{meaning_of, listed_of}
use Rattle.set_table.specs.declared.Attrs.{Attrs}
use Rattle.set_table.specs.declared.Filled.{Filled}
use Rattle.set_fill.specs.Fill.{chain_at}
use Rattle.set_wellformed.specs.WellFormed.{well_formed}
use Rattle.set_writer.specs.Write.{attrs_wrote, attrs_content}
use Rattle.set_merge.specs.Merge.{merge_of}
use Rattle.set_lent.specs.Lent.{end_of}
use Rattle.run_lines.specs.Runs.{as_is, run_at, sizes}
use Rattle.run_refused.specs.Refused.{refused_run}
use Rattle.run_endings.specs.Endings.{ends_in}
use Rattle.read_brace.specs.Brace.{brace_paper, read_attrs_at}
use Rattle.read_brace.specs.declared.NotRead.TheVariants as answer
use Rattle.read_blocks.specs.Blocks.{Found, joined_in, lookahead_of, join_holds, texts_in, block_of}
use Rattle.read_blocks.specs.ByLine.{block_found, wrapped_found}
use Rattle.read_by_line.specs.Entries.{parse_standalone}
use Rattle.read_lengths.specs.Lengths.{lines_in, measured}
use Rattle.sheet_blocks.specs.Sheets.{next_of}
use Rattle.sheet_report.specs.Parts.{part_of, start_of}
use Rattle.sheet_report.specs.declared.Told.TheVariants as told
use Rattle.proved_sets.specs.HandedOut.{Zeroed}
use Rattle.proved_sets.specs.Merged.{MergeByRules, MergeGives}
use Rattle.proved_reading.specs.AtBraces.{BraceByRules, FiveHasPlace, PlaceOnBoundary, ThirdDropped, BraceLists}
use Rattle.proved_reading.specs.HandedSets.{FillFormed}
use Rattle.proved_reading.specs.Alone.{BlocksOverOne}
use Rattle.proved_reading.specs.ByLines.{BlocksByRules, LineByRules, BlockByRules, RunByRules}
use Rattle.proved_sheets.specs.Blocks.{NextSetOk}
use Rattle.proved_sheets.specs.Calls.{refused_lays}
use Rattle.proved_origins.specs.Meaning.{BytesMean}
use Rattle.proved_origins.specs.Exchanged.{ExchangeKeeps, ExchangeRest, ExchangeMerges, ExchangeWrites}
use Rattle.proved_origins.specs.OneText.{ExchangedOf, BehavesAsBefore, MirrorsAsBefore, EmptyText, ZeroRange, FormedOverMore, EmptyAsksNothing}
use Rattle.proved_origins.specs.Read.{ReadFirst, ReadJoined}
use Rattle.proved_demands.specs.Eight.{ReadingNeverEight, MergeNeverEight}
use Rattle.proved_grammar.specs.Once.{KeptIsOnce, OnceIsKept, OnceChanges, DifferentStay, RepeatedIsNothing}
use Rattle.proved_grammar.specs.Merged.{MergeOfMeanings}
use Rattle.proved_sets.specs.Read.{LineLists}
use Rattle.proved_sets.specs.Canonical.{RepeatedUnwritten}

-- "exactly when"
abbrev pub Iff : Type 0 → Type 0 → Type 0
Iff P Q = (P → Q) × (Q → P)

-- ======== Demand 1: "Every byte sequence, place, line number and table gets an answer; no entry relies on its caller"
--
-- This is a property of the contracts: no public function has a `requires`, and each promises its result, and what memory lent to it then holds, by equations with
-- definitions that have a value for all inputs. docs/PROMISES.md lists them.

-- "Any two results it allows are proved equal": an equation with a definition allows one value v
abbrev pub Single : {A : Type 0} → A → A → A → Type 0
Single v r r' = r ≡ v → r' ≡ v → r ≡ r'

-- a result, and with it what lent memory holds
abbrev pub SingleBoth : {A B : Type 0} → A → B → A → A → B → B → Type 0
SingleBoth v w r r' m m' = (r ≡ v) × (m ≡ w) → (r' ≡ v) × (m' ≡ w) → (r ≡ r') × (m ≡ m')

-- "a refusal has its number from document 01": one of the table, and no two have the same. Which comes when, in which order,
-- is stated below of what reads or merges (`ByGrammar`), and of every entry by its promise, which cites its order of refusals.
pub record Numbered : Type 0 where
  pub among : (r : Refusal) → (1 ≤ number_of r) × (number_of r ≤ last_number)
  pub own : (q r : Refusal) → number_of q ≡ number_of r → q ≡ r
  -- "8 stays unused."
  pub unused : (r : Refusal) → number_of r ≡ 8 → ⊥
  -- "Show over every reading and merge that 8 is never given" (document 02): of each public function by itself, in `Eight` beside this page
  pub reading : ReadingNeverEight
  pub merging : MergeNeverEight

-- "hands out no set": where the outcome is a refusal, the set beside it is the empty one
abbrev pub NoneIfRefused : Result (Unit {0}) Refusal → Attrs → Type 0
NoneIfRefused o a = (r : Refusal) → o ≡ Err r → a ≡ empty_set

pub record NoSet : Type 0 where
  -- `read_attrs_at`: with every number above 0, be there a place with it or not
  pub brace : (m : Mode) (t : List ℕ) (i : ℕ) → 0 < (brace_paper (read_attrs_at m t i).answer).number → (read_attrs_at m t i).set ≡ empty_set
  -- `parse_standalone_attrs`
  pub line : (t : List ℕ) (n : ℕ) → NoneIfRefused (parse_standalone t n).outcome (parse_standalone t n).set
  -- `parse_standalone_attrs_block`, and the same by place: whatever lines were found
  pub block : (t : List ℕ) (at : ℕ) (f : Found) → NoneIfRefused (block_of t at f).outcome (block_of t at f).set
  -- `wrapped_attrs_run_at`
  pub run : (t : List ℕ) (n base cap : ℕ) → NoneIfRefused (block_of t (place_of t n) (wrapped_found t n base cap)).outcome (block_of t (place_of t n) (wrapped_found t n base cap)).set
  -- `next_block`, of a whole sheet
  pub next : (t : List ℕ) (cap at : ℕ) → NoneIfRefused (next_of t cap at).block.outcome (next_of t cap at).block.set
  -- `merge_attrs` and `merge_leading_attrs`
  pub merge : (t : Texts) (a b : Attrs) → NoneIfRefused (merge_of t a b).outcome (merge_of t a b).set

-- "and leaves lent memory exactly as stated there"
pub record LeftAsStated : Type 0 where
  -- "After every call the join buffer holds the joined lines at its front, the rest untouched"
  pub front : (buf : List ℕ) (f : Found) → take (length (joined_in f)) (join_holds buf f) ≡ joined_in f
  pub rest : (buf : List ℕ) (f : Found) → drop (length (joined_in f)) (join_holds buf f) ≡ drop (length (joined_in f)) buf
  -- "A refusal touches no other lent memory": `write_attrs`
  pub writer : (t : Texts) (a : Attrs) (buf : List ℕ) (r : Refusal) → attrs_wrote t a (length buf) ≡ Err r → attrs_content t a buf ≡ buf
  -- `report_start`: 9 and 10, and 1 and 2 where the longest line has no room; else "For 1 or 2 the only output is `refused`, 0, 0, number."
  pub start : (t out : List ℕ) (cap : ℕ) (r : Refusal) → (start_of t cap (length out)).told ≡ Err r → over (start_of t cap (length out)).text out ≡ over (refused_lays t (length out) r) out
  -- `report_part`
  pub part : (t out : List ℕ) (at n cap : ℕ) (r : Refusal) → (part_of t at n cap (length out)).told ≡ Err r → over (part_of t at n cap (length out)).text out ≡ out
  -- "a merge's target included": `merge_into` and `merge_leading_into`, which leave `end_of` what the set was and what the merge came to
  pub target : (was : Attrs) (f : Filled) (r : Refusal) → f.outcome ≡ Err r → end_of was f ≡ was

-- ======== Demand 2: "Reading, line counts and merging equal the original on the scope's domain, and are proved against the payload grammar, RFC 3629 and CommonMark 0.31.2"
--
-- That they equal the original is shown by runs beside it (docs/DIFFERENCES.md); the rest is this.

pub record ByStandards : Type 0 where
  -- RFC 3629, section 4
  pub utf8 : (s : List ℕ) → Iff (is_utf8 s ≡ true) (WellFormed s)
  -- CommonMark 2.4: "Any ASCII punctuation character may be backslash-escaped", "Backslashes before other characters are treated as literal backslashes"
  pub escapes : (s t : List ℕ) → Iff (unescape s ≡ t) (StandsFor s t)
  -- CommonMark 2.2: tabs "behave as if they were replaced by spaces with a tab stop of 4 characters". `expand_from c` replaces them, in a text that stands at column c:
  -- a column is a number of characters then, and indentation a number of leading spaces
  pub tabs : (c : ℕ) (s : List ℕ) → all (λ b. not (eqb b tab)) (expand_from c s) ≡ true
  pub columns : (c : ℕ) (s : List ℕ) → columns_from c s ≡ c + char_count (expand_from c s)
  pub indent : (s : List ℕ) → indent_columns s ≡ run (λ b. eqb b space) (expand_from 0 s)

pub record ByGrammar : Type 0 where
  -- "A payload is one or more tokens parted by blanks, which may stand at both ends."
  pub payload : (m : Mode) (at : ℕ) (s : List ℕ) (is : List Placed) → Iff (read_payload m at s ≡ Reading.items is) (Payload m at s is)
  -- "blocks stand back to back to its end"
  pub blocks : (m : Mode) (at : ℕ) (s : List ℕ) (is : List Placed) → Iff (read_blocks m at s ≡ Reading.items is) (Blocks m at s is)
  -- "Given exactly when": rules name the answers, and what the set means that is handed out. Reading answers by a rule, and
  -- nothing else (`Exactly`, proved_sets/specs/Limits): "a reader that always refuses or always gives one set" is shut out. At a brace by `Given` (proved_reading/specs/Table)
  pub brace : BraceByRules
  -- Elsewhere by the rules of proved_reading/specs/ByLines: blocks back to back, which "are merged left to right", on a line, in a block, in a run. "a chain reader
  -- that reads block one and skips the others" is shut out
  pub chain : BlocksByRules
  pub line : LineByRules
  pub block : BlockByRules
  pub run : RunByRules
  -- "a later id wins, classes are joined, later key values win, new slots go behind": so `puts` has it, by the rules `MergeGiven` of proved_sets/specs/Merged
  pub merge : MergeByRules
  -- line counts: what is read and what is measured have the same lines and lookahead
  pub counts : (t : List ℕ) (at : ℕ) (f : Found) → ((block_of t at f).lines ≡ lines_in (measured t at f).length) × ((block_of t at f).lookahead ≡ (measured t at f).lookahead)

-- ======== "To be proved"

-- "its dropped third argument, the true place of the text's last `}`, changes nothing": `read_attrs_at` with 000's test of it is `read_attrs_at` without it
abbrev pub LastCloseDropped : Type 0
LastCloseDropped = ThirdDropped

-- "the quick test refuses nothing that the grammar accepts": a payload in either mode between the brace at i and its close
abbrev pub QuickTest : Type 0
QuickTest = (m : Mode) (t : List ℕ) (i e : ℕ) (is : List Placed) (c : Closes (drop (suc i) t) (suc i) e) → Payload m (suc i) c.inside is → quick_refuses t i ≡ false

-- "The lookahead is the sum of the untrimmed lengths of the lines joined, reported with each run, refused or not; at most the text's length."
pub record Lookahead : Type 0 where
  pub sum : (cap base : ℕ) (t : List ℕ) (at : ℕ) → (run_at cap base t at).lookahead ≡ sizes (take (run_at cap base t at).lines (map as_is (lines (drop at t))))
  pub bound : (cap base : ℕ) (t : List ℕ) (at : ℕ) → (run_at cap base t at).lookahead ≤ length t
  pub block : (t : List ℕ) (n base cap : ℕ) → lookahead_of (block_found t n base cap) ≤ length t
  pub wrapped : (t : List ℕ) (n base cap : ℕ) → lookahead_of (wrapped_found t n base cap) ≤ length t
  pub refused : (cap : ℕ) (t : List ℕ) (n : ℕ) → (refused_run cap t n).lookahead ≤ length t
  -- "`ends_in_refused_brace_run` reports its runs' sum, which keeps that bound."
  pub ends : (buf t : List ℕ) → (ends_in buf t).lookahead ≤ length t

-- "Rows past the counts are zero in every set handed out"
pub record RowsZero : Type 0 where
  pub brace : (m : Mode) (t : List ℕ) (i : ℕ) → Zeroed (read_attrs_at m t i).set
  pub line : (t : List ℕ) (n : ℕ) → Zeroed (parse_standalone t n).set
  pub block : (t : List ℕ) (at : ℕ) (f : Found) → Zeroed (block_of t at f).set
  pub next : (t : List ℕ) (cap at : ℕ) → Zeroed (next_of t cap at).block.set
  pub merge : (t : Texts) (a b : Attrs) → Zeroed (merge_of t a b).set

-- "and it is well-formed if its texts give neither 1 nor 2": that of a block over `texts_in`, the lent text and what was joined
pub record SetsWellFormed : Type 0 where
  pub brace : (m : Mode) (t : List ℕ) (i : ℕ) → is_text t ≡ true → well_formed (one t) (read_attrs_at m t i).set ≡ true
  pub line : (t : List ℕ) (n : ℕ) → is_text t ≡ true → well_formed (one t) (parse_standalone t n).set ≡ true
  pub block : (t : List ℕ) (n base cap : ℕ) → is_text t ≡ true → well_formed (texts_in t (block_found t n base cap)) (block_of t (place_of t n) (block_found t n base cap)).set ≡ true
  pub run : (t : List ℕ) (n base cap : ℕ) → is_text t ≡ true → well_formed (texts_in t (wrapped_found t n base cap)) (block_of t (place_of t n) (wrapped_found t n base cap)).set ≡ true
  pub merge : (t : Texts) (a b : Attrs) → is_text t.first ≡ true → is_text t.second ≡ true → well_formed t (merge_of t a b).set ≡ true
  -- `fill_chain`, of any part of a text; `fill` only of a part that is UTF-8 by itself and holds no LF, which its callers see to
  pub chain : (m : Mode) (t : List ℕ) (from to : ℕ) → is_text t ≡ true → well_formed (one t) (chain_at m t from to).set ≡ true
  pub fill : FillFormed
  -- `next_block`, of a whole sheet
  pub next : NextSetOk

-- ======== Where the payload went wrong (document 02): "Refusal 5 at a brace shall carry a place"

-- which place, the rule `unread` of `Given` says: "the length in bytes of the longest prefix of the payload .. that can still be continued to an acceptable payload in the same mode"
-- (`brace` of `ByGrammar` above; the places of names, tags and tokens are stated in proved_places/specs)
pub record WithPlace : Type 0 where
  -- a 5 without one is never given
  pub always : (m : Mode) (t : List ℕ) (i : ℕ) → FiveHasPlace m t i
  -- ".., ending on a character boundary"
  pub boundary : PlaceOnBoundary

-- ======== Two texts (document 02): "Every range shall say which of two lent texts it belongs to"

-- each by its statements in proved_origins/specs
pub record TwoTexts : Type 0 where
  -- "meaning doesn't include the origin"
  pub means : BytesMean
  -- the texts changed over
  pub exchange : ExchangeKeeps
  pub rest : ExchangeRest
  pub merges : ExchangeMerges
  pub writes : ExchangeWrites
  -- "A set with one text only, the other being lent empty, behaves as before."
  pub alone : BehavesAsBefore
  pub other : ExchangedOf
  pub mirror : MirrorsAsBefore
  pub empty : EmptyText
  pub zero : ZeroRange
  pub more : FormedOverMore
  pub asks : EmptyAsksNothing
  -- what is read is of the first text; "the variant's block is wrapped and lives in the join buffer", which is the second
  pub read : ReadFirst
  pub joined : ReadJoined
  -- `as_first` and `as_second`: a block's set over its own text alone
  pub single : BlocksOverOne

-- ======== Repeated classes are one class (document 02): "a class equal byte for byte to an earlier one doesn't count, the first place stays"

-- each by its statements in proved_grammar/specs/Once and Merged, and in proved_sets/specs
pub record RepeatedClasses : Type 0 where
  -- which classes count, by a rule
  pub kept : KeptIsOnce
  pub only : OnceIsKept
  -- what that changes in a meaning, and what not
  pub changes : OnceChanges
  pub stay : DifferentStay
  pub nothing : RepeatedIsNothing
  -- "Reading and merging still list every class, as the Rust does; only meaning and the writer change."
  pub reading : BraceLists
  pub lines : LineLists
  pub merging : MergeGives
  pub meanings : MergeOfMeanings
  -- a set and the set without a repeated class have one canonical text
  pub unwritten : RepeatedUnwritten

-- ======== Demand 3: "reads from then on over sets with either origin"

-- the canonical text of a set over its texts
abbrev pub canon_of : Texts → Attrs → List ℕ
canon_of t a = canon (meaning_of t a)

-- "non-empty well-formed sets whose canonical text fits"
pub record CanonFits (t : Texts) (a : Attrs) : Type 0 where
  pub well : well_formed t a ≡ true
  pub some : meaning_of t a ≡ [] → ⊥
  pub short : length (canon_of t a) ≤ max_text

-- "Two non-empty well-formed sets whose canonical text fits have equal canonical texts exactly when they mean the same", each over its own two texts
abbrev pub EqualTexts : Type 0
EqualTexts = (t t' : Texts) (a a' : Attrs) → CanonFits t a → CanonFits t' a' → Iff (canon_of t a ≡ canon_of t' a') (meaning_of t a ≡ meaning_of t' a')

-- "a canonical text reads back, to its last byte, with that meaning": by `read_attrs_at` at byte 0; and what was read may be written, and is written as it stood
pub record ReadsBack (c : List ℕ) (m : List Entry) : Type 0 where
  pub answer : (read_attrs_at Strict c 0).answer ≡ Ok (length c)
  pub means : meaning_of (one c) (read_attrs_at Strict c 0).set ≡ m
  -- "reading back gives each class once" (document 02): the set lists what the meaning has
  pub lists : listed_of (one c) (read_attrs_at Strict c 0).set ≡ m
  pub fits : CanonFits (one c) (read_attrs_at Strict c 0).set
  pub again : canon_of (one c) (read_attrs_at Strict c 0).set ≡ c

abbrev pub CanonReadsBack : Type 0
CanonReadsBack = (t : Texts) (a : Attrs) → CanonFits t a → ReadsBack (canon_of t a) (meaning_of t a)
