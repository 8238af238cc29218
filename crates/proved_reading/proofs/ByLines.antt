-- Lines, blocks and runs are answered as the table's rules give, and in no other way: the numbers, and the meaning of what is read.
-- Assumes nothing.
use Rattle.std.specs.Prelude.{Err, None, Ok, Option, Result, Some}
use mathlib.Core.Path.{◌≡◌, refl, ◌∙◌, ap}
use mathlib.Core.Bool.{Bool, true, false, cond}
use mathlib.Core.List.{List, [], map}
use Prim.Native.Nat.{ℕ, ◌≤◌}
use native.Mathlib.Omega.{arith}
use borrow.Author.Tests.{le-ltb}
use lib.ListN.{length}
use lib.Seq.{slice}
use Rattle.base_lists.proofs.More.{contra}
use Rattle.base_bytes.specs.declared.Mode.TheVariants.{Loose}
use Rattle.base_refusals.specs.Numbers.{max_text}
use Rattle.base_refusals.specs.declared.Refusal.{Refusal}
use Rattle.base_refusals.specs.declared.Refusal.TheVariants.{TextTooLong, NothingThere, NoReading}
use Rattle.text_lines.specs.Lines.{line_of}
use Rattle.text_line_start.specs.Starts.{begun, start_at, on_start}
use Rattle.block_grammar.specs.Grammar.{Placed, Reading}
use Rattle.block_grammar.specs.Meaning.{Entry, classes_once}
use Rattle.proved_grammar.specs.Meaning.{entries_of, meaning}
use Rattle.block_chain.specs.Chain.{Blocks, good_line}
use Rattle.block_chain.specs.Computed.{read_blocks}
use Rattle.proved_grammar.specs.Merged.{block_items, merged}
use Rattle.block_trimmed_line.specs.Fronts.{front_of, opens_at}
use Rattle.set_table.specs.Types.{one, two}
use Rattle.set_table.specs.Rows.{meaning_of}
use Rattle.set_table.specs.declared.Filled.{Filled}
use Rattle.set_table.specs.Filled.{refusing}
use Rattle.set_fill.specs.Fill.{filled_by, chain_at}
use Rattle.run_lines.specs.Runs as runs
use Rattle.run_lines.proofs.Bounds.{text_short}
use Rattle.proved_origins.proofs.Read.{read_joined}
use Rattle.read_blocks.specs.Blocks.{Found, nothing, closed_run, ended_run, run_found, found, wrapped, texts_in, block_of, sized}
use Rattle.read_blocks.specs.ByLine.{block_found, wrapped_found}
use Rattle.read_by_line.specs.Entries.{line_read, parse_standalone}
use Rattle.text_lines.proofs.Counted.{line_missing, missing_line}
use Rattle.proved_grammar.proofs.Blocks.{sound, complete, no_reading}
use Rattle.proved_grammar.proofs.Merged.{line_merges}
use Rattle.proved_grammar.proofs.Stands.{read_stands}
use Rattle.proved_sets.specs.Limits.{Exactly, SizeGiven, Utf8Given, LimitGiven}
use Rattle.proved_sets.proofs.Counts.{class_fill, key_fill}
use Rattle.proved_sets.proofs.Items.{rows_list, rows_shaped}
use Rattle.proved_sets.proofs.Limits.{Only, exactly, size_exactly, text_exactly, limit_exactly}
use Rattle.proved_sets.proofs.TableMeant.{shaped_none}
use Rattle.proved_sets.proofs.TableWhole.{empty_means}
use Rattle.proved_reading.specs.Measuring.{makes_run}
use Rattle.proved_reading.specs.ByLines.{BlocksGiven, OpenGiven, LineGiven, RunGiven, BlockGiven, NumberGiven, BlocksByRules, LineByRules, FoundExactly, BlockByRules, BlockByRulesAt, RunByRules, RunByRulesAt}
use Rattle.text_lines.specs.declared.Range.{Range}

-- what the rules G give is what the rules H give
same_rules : {G H : Result (Unit {0}) Refusal → List Entry → Type 0} → ((p : Result (Unit {0}) Refusal) (u : List Entry) → G p u → H p u) → ((p : Result (Unit {0}) Refusal) (u : List Entry) → H p u → G p u)
    → {o : Result (Unit {0}) Refusal} {s : List Entry} → Exactly G o s → Exactly H o s
same_rules f g {o} {s} x = exactly (λ p u y. x.only p u (g p u y)) (f o s x.given)

-- ======== blocks back to back
-- what they fill, whatever the text's length
abbrev read : List ℕ → ℕ → ℕ → Filled
read t from to = filled_by (one t) (read_blocks Loose from (slice from to t))

module _ (t : List ℕ) (from to : ℕ) where
  -- none: 5
  none_exactly : ((is : List Placed) → Blocks Loose from (slice from to t) is → ⊥) → Exactly (BlocksGiven t from to) (Err NoReading) []
  none_exactly n = exactly only (BlocksGiven.unread n)
    where
      only : Only (BlocksGiven t from to) (Err NoReading) []
      only p u (BlocksGiven.unread k) = (refl, refl)
      only p u (BlocksGiven.good {is = is} q l) = absurd (n is q)

  no_good : good_line t from to ≡ false → (is : List Placed) → Blocks Loose from (slice from to t) is → ⊥
  unfolding good_line
  no_good e is p = contra true refl (rw (complete p) at e)

  good_exactly : {is : List Placed} (p : Blocks Loose from (slice from to t) is)
      → Exactly (LimitGiven (entries_of is) (merged [] (map meaning (block_items p)))) (read t from to).outcome (meaning_of (one t) (read t from to).set)
  unfolding meaning
  good_exactly {is} p =
      let e = complete p in
      let h = read_stands Loose t from to is e in
      rw e (limit_exactly (rows_shaped h (shaped_none (one t))) (entries_of is) (class_fill h) (key_fill h) (ap classes_once (rows_list h) ∙ line_merges p))

  read_exactly : Exactly (BlocksGiven t from to) (read t from to).outcome (meaning_of (one t) (read t from to).set)
  read_exactly = go (read_blocks Loose from (slice from to t)) refl
    where
      only : {is : List Placed} → Blocks Loose from (slice from to t) is → Only (BlocksGiven t from to) (read t from to).outcome (meaning_of (one t) (read t from to).set)
      only {is} x p u (BlocksGiven.unread n) = absurd (n is x)
      only x p u (BlocksGiven.good q l) = (good_exactly q).only p u l

      go : (r : Reading) → read_blocks Loose from (slice from to t) ≡ r → Exactly (BlocksGiven t from to) (read t from to).outcome (meaning_of (one t) (read t from to).set)
      go Reading.refused e = rw (e, empty_means (one t)) (none_exactly (no_reading Loose from (slice from to t) e))
      go (Reading.items is) e = let p = sound Loose from (slice from to t) is e in exactly (only p) (BlocksGiven.good p (good_exactly p).given)

  -- within the size
  chain_exactly : length t ≤ max_text → Exactly (BlocksGiven t from to) (chain_at Loose t from to).outcome (meaning_of (one t) (chain_at Loose t from to).set)
  unfolding chain_at
  chain_exactly l = rw (le-ltb max_text (length t) l) read_exactly

pub blocks_by_rules : BlocksByRules
unfolding chain_at
blocks_by_rules t from to =
    size_exactly t (λ b. (cond b (refusing TextTooLong) (read t from to)).outcome) (λ b. meaning_of (one t) (cond b (refusing TextTooLong) (read t from to)).set) (refl, empty_means (one t))
    (λ l. read_exactly t from to)

-- ======== at a place
module _ (t : List ℕ) (at : ℕ) {G : Result (Unit {0}) Refusal → List Entry → Type 0} where
  unopened_exactly : opens_at t at ≡ false → Exactly (OpenGiven t at G) (Err NothingThere) []
  unopened_exactly e = exactly only (OpenGiven.unopened e)
    where
      only : Only (OpenGiven t at G) (Err NothingThere) []
      only p u (OpenGiven.unopened k) = (refl, refl)
      only p u (OpenGiven.opened k x) = contra (opens_at t at) k e

  opened_exactly : opens_at t at ≡ true → {o : Result (Unit {0}) Refusal} {s : List Entry} → Exactly G o s → Exactly (OpenGiven t at G) o s
  opened_exactly e = same_rules (λ p u x. OpenGiven.opened e x) back
    where
      back : (p : Result (Unit {0}) Refusal) (u : List Entry) → OpenGiven t at G p u → G p u
      back p u (OpenGiven.unopened k) = contra (opens_at t at) e k
      back p u (OpenGiven.opened k x) = x

line_exactly : (t : List ℕ) → length t ≤ max_text → (at : ℕ) → Exactly (LineGiven t at) (line_read t at).outcome (meaning_of (one t) (line_read t at).set)
unfolding line_read
line_exactly t l at = go (opens_at t at) refl
  where
    go : (b : Bool) → opens_at t at ≡ b → Exactly (LineGiven t at) (cond b (chain_at Loose t (front_of t at).from (front_of t at).to) (refusing NothingThere)).outcome
        (meaning_of (one t) (cond b (chain_at Loose t (front_of t at).from (front_of t at).to) (refusing NothingThere)).set)
    go true e = opened_exactly t at e (chain_exactly t (front_of t at).from (front_of t at).to l)
    go false e = rw (empty_means (one t)) (unopened_exactly t at e)

-- ---- a refusal, with whatever was joined
refused_exactly : {G : Result (Unit {0}) Refusal → List Entry → Type 0} (t : List ℕ) (at : ℕ) {q : Refusal} (x : List ℕ) (n : ℕ) → Exactly G (Err q) [] → FoundExactly G t at (Found.none q x n)
unfolding block_of
refused_exactly t at x n g = rw (empty_means (two t x)) g

-- ---- a run
module _ (t : List ℕ) (l : length t ≤ max_text) (at base cap : ℕ) where
  abbrev ran : runs.Run
  ran = runs.run_at cap base t at

  closed_exactly : (b : Bool) → good_line ran.text 0 (length ran.text) ≡ b → FoundExactly (BlocksGiven ran.text 0 (length ran.text)) t at (closed_run ran b)
  unfolding block_of
  closed_exactly true e = rw (read_joined Loose t ran.text 0 (length ran.text)).means (chain_exactly ran.text 0 (length ran.text) (omega (arith, l, text_short cap base t at)))
  closed_exactly false e = refused_exactly t at ran.text ran.lookahead (none_exactly ran.text 0 (length ran.text) (no_good ran.text 0 (length ran.text) e))

  run_exactly : FoundExactly (RunGiven t base cap at) t at (run_found t at base cap)
  unfolding run_found
  run_exactly = go ran.stop refl
    where
      go : (x : Result (Unit {0}) Refusal) → ran.stop ≡ x → FoundExactly (RunGiven t base cap at) t at (ended_run ran x)
      go (Ok _) e = same_rules (λ p u y. RunGiven.joined e y) back (closed_exactly (good_line ran.text 0 (length ran.text)) refl)
        where
          back : (p : Result (Unit {0}) Refusal) (u : List Entry) → RunGiven t base cap at p u → BlocksGiven ran.text 0 (length ran.text) p u
          back p u (RunGiven.met k) = contra true refl (cc)
          back p u (RunGiven.joined k y) = y
      go (Err q) e = refused_exactly t at ran.text ran.lookahead (exactly only (RunGiven.met e))
        where
          only : Only (RunGiven t base cap at) (Err q) []
          only p u (RunGiven.met k) = (cc, refl)
          only p u (RunGiven.joined k y) = contra true refl (cc)

wrapped_exactly : (t : List ℕ) → length t ≤ max_text → (at base cap : ℕ) → FoundExactly (OpenGiven t at (RunGiven t base cap at)) t at (wrapped t at base cap)
unfolding wrapped
wrapped_exactly t l at base cap = go (opens_at t at) refl
  where
    go : (b : Bool) → opens_at t at ≡ b → FoundExactly (OpenGiven t at (RunGiven t base cap at)) t at (cond b (run_found t at base cap) (nothing NothingThere))
    go true e = opened_exactly t at e (run_exactly t l at base cap)
    go false e = refused_exactly t at [] 0 (unopened_exactly t at e)

-- ---- a block
module _ (t : List ℕ) (base cap at : ℕ) where
  as_line : makes_run t at ≡ false → {o : Result (Unit {0}) Refusal} {s : List Entry} → Exactly (LineGiven t at) o s → Exactly (BlockGiven t base cap at) o s
  as_line e = same_rules (λ p u x. BlockGiven.line e x) back
    where
      back : (p : Result (Unit {0}) Refusal) (u : List Entry) → BlockGiven t base cap at p u → LineGiven t at p u
      back p u (BlockGiven.line k x) = x
      back p u (BlockGiven.run k x) = contra (makes_run t at) k e

  as_run : makes_run t at ≡ true → {o : Result (Unit {0}) Refusal} {s : List Entry} → Exactly (RunGiven t base cap at) o s → Exactly (BlockGiven t base cap at) o s
  as_run e = same_rules (λ p u x. BlockGiven.run e x) back
    where
      back : (p : Result (Unit {0}) Refusal) (u : List Entry) → BlockGiven t base cap at p u → RunGiven t base cap at p u
      back p u (BlockGiven.line k x) = contra (makes_run t at) e k
      back p u (BlockGiven.run k x) = x

block_exactly : (t : List ℕ) → length t ≤ max_text → (at base cap : ℕ) → FoundExactly (BlockGiven t base cap at) t at (found t at base cap)
unfolding found block_of
block_exactly t l at base cap = go (opens_at t at) refl (good_line t (front_of t at).from (front_of t at).to) refl (front_of t at).closes refl
  where
    go : (o : Bool) → opens_at t at ≡ o → (g : Bool) → good_line t (front_of t at).from (front_of t at).to ≡ g → (c : Bool) → (front_of t at).closes ≡ c
        → FoundExactly (BlockGiven t base cap at) t at (cond o (cond g Found.line (cond c (nothing NoReading) (run_found t at base cap))) (nothing NothingThere))
    go true p true q c r = as_line t base cap at (rw (p, q)) (opened_exactly t at p (chain_exactly t (front_of t at).from (front_of t at).to l))
    go true p false q true r =
        refused_exactly t at [] 0 (as_line t base cap at (rw (p, q, r)) (opened_exactly t at p (none_exactly t (front_of t at).from (front_of t at).to (no_good t (front_of t at).from (front_of t at).to q))))
    go true p false q false r = as_run t base cap at (rw (p, q, r)) (run_exactly t l at base cap)
    go false p g q c r = refused_exactly t at [] 0 (as_line t base cap at (rw p) (unopened_exactly t at p))

-- ---- 1 first
sized_exactly : (t : List ℕ) (at : ℕ) (f : Found) {G : Result (Unit {0}) Refusal → List Entry → Type 0} → (length t ≤ max_text → FoundExactly G t at f) → FoundExactly (SizeGiven t G) t at (sized t f)
unfolding sized block_of
sized_exactly t at f h =
    size_exactly t (λ b. (block_of t at (cond b (nothing TextTooLong) f)).outcome) (λ b. meaning_of (texts_in t (cond b (nothing TextTooLong) f)) (block_of t at (cond b (nothing TextTooLong) f)).set)
    (refl, empty_means (one t)) h

pub block_by_rules_at : BlockByRulesAt
block_by_rules_at t at base cap = sized_exactly t at (found t at base cap) (λ l. block_exactly t l at base cap)

pub run_by_rules_at : RunByRulesAt
run_by_rules_at t at base cap = sized_exactly t at (wrapped t at base cap) (λ l. wrapped_exactly t l at base cap)

-- ======== by line number: f and g are what is answered where the line begins
module _ (t : List ℕ) (n : ℕ) {G : ℕ → Result (Unit {0}) Refusal → List Entry → Type 0} (f : Result ℕ Refusal → Result (Unit {0}) Refusal) (g : Result ℕ Refusal → List Entry)
    (e : (r : Refusal) → (f (Err r) ≡ Err r) × (g (Err r) ≡ [])) (h : length t ≤ max_text → (at : ℕ) → Exactly (G at) (f (Ok at)) (g (Ok at))) where
  number_only : length t ≤ max_text → Only (NumberGiven t n G) (f (begun (Ok tt) (line_of n t))) (g (begun (Ok tt) (line_of n t)))
  number_only l p u (NumberGiven.missing x) = rw (missing_line n t x) (e NothingThere)
  number_only l p u (NumberGiven.there {r = r} q x) = rw q ((h l r.from).only p u x)

  number_exactly : Exactly (SizeGiven t (Utf8Given t (NumberGiven t n G))) (f (start_at t n)) (g (start_at t n))
  unfolding start_at
  number_exactly = text_exactly t (λ c. f (begun c (line_of n t))) (λ c. g (begun c (line_of n t))) e (λ l w. go l (line_of n t) refl)
    where
      go : length t ≤ max_text → (x : Option Range) → line_of n t ≡ x → Exactly (NumberGiven t n G) (f (begun (Ok tt) (line_of n t))) (g (begun (Ok tt) (line_of n t)))
      go l None q = exactly (number_only l) (NumberGiven.missing (line_missing n t q))
      go l (Some r) q = exactly (number_only l) (NumberGiven.there q (h l r.from).given)

pub line_by_rules : LineByRules
unfolding parse_standalone
line_by_rules t n =
    number_exactly t n (λ s. (on_start refusing (line_read t) s).outcome) (λ s. meaning_of (one t) (on_start refusing (line_read t) s).set) (λ r. (refl, empty_means (one t)))
    (line_exactly t)

-- what is found by number is found by place
found_exactly : (t : List ℕ) (n : ℕ) (k : ℕ → Found) {G : ℕ → Result (Unit {0}) Refusal → List Entry → Type 0} → (length t ≤ max_text → (at : ℕ) → FoundExactly (G at) t at (k at))
    → FoundExactly (SizeGiven t (Utf8Given t (NumberGiven t n G))) t (on_start (λ r. 0) (λ at. at) (start_at t n)) (on_start nothing k (start_at t n))
unfolding block_of
found_exactly t n k h =
    number_exactly t n (λ s. (block_of t (on_start (λ r. 0) (λ at. at) s) (on_start nothing k s)).outcome)
    (λ s. meaning_of (texts_in t (on_start nothing k s)) (block_of t (on_start (λ r. 0) (λ at. at) s) (on_start nothing k s)).set) (λ r. (refl, empty_means (one t))) h

pub block_by_rules : BlockByRules
unfolding block_found
block_by_rules t n base cap = found_exactly t n (λ at. found t at base cap) (λ l at. block_exactly t l at base cap)

pub run_by_rules : RunByRules
unfolding wrapped_found
run_by_rules t n base cap = found_exactly t n (λ at. wrapped t at base cap) (λ l at. wrapped_exactly t l at base cap)
