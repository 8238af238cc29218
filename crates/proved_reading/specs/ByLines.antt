-- Reading lines, blocks and runs against the table 'Sizes and refusal numbers', by rules: "elsewhere 1, 2, 3, 9 or 5 as the run meets them, 6, 7".
-- What a run meets, and whether a line is trimmed or makes a run, is by the definitions that the promises cite.
use Rattle.std.specs.Prelude.{ℕ, ◌≡◌, true, false, List, [], map, length, Err, Ok, Result, Some}
use Rattle.std.proofs.Math.Seq.{slice}
use Rattle.base_bytes.specs.declared.Mode.TheVariants.{Loose}
use Rattle.base_refusals.specs.declared.Refusal.{Refusal}
use Rattle.base_refusals.specs.declared.Refusal.TheVariants.{NothingThere, NoReading}
use Rattle.text_lines.specs.declared.Range.{Range}
use Rattle.text_lines.specs.Lines.{line_of}
use Rattle.text_line_start.specs.Starts.{place_of}
use Rattle.block_grammar.specs.Grammar.{Placed}
use Rattle.block_grammar.specs.Meaning.{Entry}
use Rattle.proved_grammar.specs.Meaning.{entries_of, meaning}
use Rattle.block_chain.specs.Chain.{Blocks}
use Rattle.proved_grammar.specs.Merged.{block_items, merged}
use Rattle.block_trimmed_line.specs.Fronts.{front_of, opens_at}
use Rattle.set_table.specs.Types.{one}
use Rattle.set_table.specs.Rows.{meaning_of}
use Rattle.set_fill.specs.Fill.{chain_at}
use Rattle.run_lines.specs.Runs.{run_at}
use Rattle.read_blocks.specs.Blocks.{Found, found, wrapped, texts_in, block_of, sized}
use Rattle.read_blocks.specs.ByLine.{block_found, wrapped_found}
use Rattle.read_by_line.specs.Entries.{parse_standalone}
use Rattle.proved_texts.specs.Lines.{NoSuchLine}
use Rattle.proved_sets.specs.Limits.{Exactly, SizeGiven, Utf8Given, LimitGiven}
use Rattle.proved_reading.specs.Measuring.{makes_run}

-- ---- the rules

-- the blocks from `from` up to `to` of a text t
pub data BlocksGiven (t : List ℕ) (from to : ℕ) : Result (Unit {0}) Refusal → List Entry → Type 0 where
  -- 5: "elsewhere, not a good line"
  unread : ((is : List Placed) → Blocks Loose from (slice from to t) is → ⊥) → BlocksGiven t from to (Err NoReading) []
  -- "blocks stand back to back to its end and are merged left to right", within the limits or not
  good : {is : List Placed} {o : Result (Unit {0}) Refusal} {s : List Entry} (p : Blocks Loose from (slice from to t) is)
      → LimitGiven (entries_of is) (merged [] (map meaning (block_items p))) o s → BlocksGiven t from to o s

-- a line that G reads on
pub data OpenGiven (t : List ℕ) (at : ℕ) (G : Result (Unit {0}) Refusal → List Entry → Type 0) : Result (Unit {0}) Refusal → List Entry → Type 0 where
  -- 3: "trimmed line doesn't start with `{`"
  unopened : opens_at t at ≡ false → OpenGiven t at G (Err NothingThere) []
  opened : {o : Result (Unit {0}) Refusal} {s : List Entry} → opens_at t at ≡ true → G o s → OpenGiven t at G o s

-- "A line is trimmed": the line at a place
abbrev pub LineGiven : List ℕ → ℕ → Result (Unit {0}) Refusal → List Entry → Type 0
LineGiven t at = OpenGiven t at (BlocksGiven t (front_of t at).from (front_of t at).to)

-- the run from the line at a place on
pub data RunGiven (t : List ℕ) (base cap at : ℕ) : Result (Unit {0}) Refusal → List Entry → Type 0 where
  -- "9 or 5 as the run meets them"
  met : {q : Refusal} → (run_at cap base t at).stop ≡ Err q → RunGiven t base cap at (Err q) []
  -- "that text must then be a good line"
  joined : {o : Result (Unit {0}) Refusal} {s : List Entry} → (run_at cap base t at).stop ≡ Ok tt → BlocksGiven (run_at cap base t at).text 0 (length (run_at cap base t at).text) o s → RunGiven t base cap at o s

-- "A block is one good line, else, if the first line's trimmed end isn't `}`, a wrapped run"
pub data BlockGiven (t : List ℕ) (base cap at : ℕ) : Result (Unit {0}) Refusal → List Entry → Type 0 where
  line : {o : Result (Unit {0}) Refusal} {s : List Entry} → makes_run t at ≡ false → LineGiven t at o s → BlockGiven t base cap at o s
  run : {o : Result (Unit {0}) Refusal} {s : List Entry} → makes_run t at ≡ true → RunGiven t base cap at o s → BlockGiven t base cap at o s

-- the line of a number, of which G says what is given at its place
pub data NumberGiven (t : List ℕ) (n : ℕ) (G : ℕ → Result (Unit {0}) Refusal → List Entry → Type 0) : Result (Unit {0}) Refusal → List Entry → Type 0 where
  -- 3: "no such line"
  missing : NoSuchLine n t → NumberGiven t n G (Err NothingThere) []
  there : {r : Range} {o : Result (Unit {0}) Refusal} {s : List Entry} → line_of n t ≡ Some r → G r.from o s → NumberGiven t n G o s

-- ---- "Given exactly when"

-- `fill_chain`
abbrev pub BlocksByRules : Type 0
BlocksByRules = (t : List ℕ) (from to : ℕ) → Exactly (SizeGiven t (BlocksGiven t from to)) (chain_at Loose t from to).outcome (meaning_of (one t) (chain_at Loose t from to).set)

-- `parse_standalone_attrs`
abbrev pub LineByRules : Type 0
LineByRules = (t : List ℕ) (n : ℕ) → Exactly (SizeGiven t (Utf8Given t (NumberGiven t n (LineGiven t)))) (parse_standalone t n).outcome (meaning_of (one t) (parse_standalone t n).set)

-- of what was found, by the rules G: its set is over the lent text and what was joined
abbrev pub FoundExactly : (Result (Unit {0}) Refusal → List Entry → Type 0) → List ℕ → ℕ → Found → Type 0
FoundExactly G t at f = Exactly G (block_of t at f).outcome (meaning_of (texts_in t f) (block_of t at f).set)

-- `parse_standalone_attrs_block`, and by place `read_at`
abbrev pub BlockByRules : Type 0
BlockByRules = (t : List ℕ) (n base cap : ℕ) → FoundExactly (SizeGiven t (Utf8Given t (NumberGiven t n (BlockGiven t base cap)))) t (place_of t n) (block_found t n base cap)

abbrev pub BlockByRulesAt : Type 0
BlockByRulesAt = (t : List ℕ) (at base cap : ℕ) → FoundExactly (SizeGiven t (BlockGiven t base cap at)) t at (sized t (found t at base cap))

-- `wrapped_attrs_run_at`, and by place `wrapped_at`
abbrev pub RunByRules : Type 0
RunByRules = (t : List ℕ) (n base cap : ℕ) → FoundExactly (SizeGiven t (Utf8Given t (NumberGiven t n (λ at. OpenGiven t at (RunGiven t base cap at))))) t (place_of t n) (wrapped_found t n base cap)

abbrev pub RunByRulesAt : Type 0
RunByRulesAt = (t : List ℕ) (at base cap : ℕ) → FoundExactly (SizeGiven t (OpenGiven t at (RunGiven t base cap at))) t at (sized t (wrapped t at base cap))
