-- No reading and no merge gave 8: the set that it hands out has at most 66 slots.
-- Assumes nothing.
use Rattle.std.specs.Prelude.{Err, Ok, Result}
use mathlib.Core.Bool.{Bool, true, false, cond}
use mathlib.Core.List.{List, [], ◌∷◌}
use Prim.Native.Nat.{ℕ, ◌≤◌}
use native.Mathlib.Omega.{arith}
use lib.Dec.{ltb}
use lib.ListN.{length}
use Rattle.base_bytes.specs.declared.Mode.TheVariants.{Loose}
use Rattle.base_refusals.specs.Numbers.{max_text, too_long, number_of, outcome_no}
use Rattle.base_refusals.specs.declared.Refusal.TheVariants.{TextTooLong, NothingThere, JoinFull}
use Rattle.base_refusals.proofs.Numbers.{number_among}
use Rattle.text_line_start.specs.Starts.{start_at, on_start, place_of}
use Rattle.block_trimmed_line.specs.Fronts.{front_of, opens_at}
use Rattle.set_table.specs.Types.{max_slots}
use Rattle.set_table.specs.Filled.{refusing}
use Rattle.set_table.specs.declared.Attrs.{Attrs}
use Rattle.set_table.specs.declared.Filled.{Filled}
use Rattle.set_exchange.specs.Exchange.{exchanged}
use Rattle.set_fill.specs.Fill.{chain_at}
use Rattle.set_merge.specs.Merge.{merge_of}
use Rattle.set_lent.specs.Lent.{standing, end_of, lent_both}
use Rattle.read_brace.specs.Brace.{brace_paper, read_attrs_at}
use Rattle.read_blocks.specs.Blocks.{Found, found, wrapped, block_of, sized}
use Rattle.read_blocks.specs.ByLine.{block_found, wrapped_found}
use Rattle.read_by_line.specs.Entries.{line_read, parse_standalone}
use Rattle.sheet_blocks.specs.Sheets.{Try, tries_at, only_blocks, nowhere, first_block, next_of}
use Rattle.proved_sets.specs.Eight.{NeverEight}
use Rattle.proved_sets.proofs.Eight.{never_eight, outcome_eight, never_given, few_slots, sets_never_given}
use Rattle.proved_reading.proofs.Meaning.{tidy, up_to_seven}
use Rattle.proved_demands.specs.Eight.{NeverOfBlock, ReadingNeverEight, MergeNeverEight}
use Rattle.base_refusals.specs.declared.Refusal.{Refusal}

-- ---- a line

line_few : (t : List ℕ) (n : ℕ) → (parse_standalone t n).set.norder ≤ max_slots
unfolding parse_standalone line_read
line_few t n = go (start_at t n)
  where
    read : (at : ℕ) (o : Bool) → (cond o (chain_at Loose t (front_of t at).from (front_of t at).to) (refusing NothingThere)).set.norder ≤ max_slots
    read at true = few_slots.chain Loose t (front_of t at).from (front_of t at).to
    read at false = omega arith

    go : (s : Result ℕ Refusal) → (on_start refusing (line_read t) s).set.norder ≤ max_slots
    go (Err r) = omega arith
    go (Ok at) = read at (opens_at t at)

-- ---- a block or a run, whatever was found

block_few : (t : List ℕ) (at : ℕ) (f : Found) → (block_of t at f).set.norder ≤ max_slots
unfolding block_of exchanged
block_few t at Found.line = few_slots.chain Loose t (front_of t at).from (front_of t at).to
block_few t at (Found.run r) = few_slots.chain Loose r.text 0 (length r.text)
block_few t at (Found.none q x n) = omega arith

block_never : (t : List ℕ) (at : ℕ) (f : Found) → NeverOfBlock (block_of t at f)
block_never t at f = let b = block_of t at f in never_eight (outcome_no b.outcome) b.set (outcome_eight b.outcome) (λ z. block_few t at f)

next_few : (t : List ℕ) (cap at : ℕ) → (next_of t cap at).block.set.norder ≤ max_slots
unfolding next_of
next_few t cap at = go (too_long t) (ltb cap max_text) (only_blocks (tries_at t cap 0 at))
  where
    go : (x y : Bool) (bs : List Try) → (cond x (nowhere TextTooLong at) (cond y (nowhere JoinFull at) (first_block t at bs))).block.set.norder ≤ max_slots
    go true y bs = omega arith
    go false true bs = omega arith
    go false false [] = omega arith
    go false false (b ∷ bs) = block_few t b.at b.found

pub reading_never_eight : ReadingNeverEight
reading_never_eight =
    record {
      brace = λ m t i. never_eight (brace_paper (read_attrs_at m t i).answer).number (read_attrs_at m t i).set (λ e. omega (arith, e, up_to_seven m t i)) (λ z. (tidy m t i).slots.0);
      payload = sets_never_given.fill;
      chain = sets_never_given.chain;
      line = λ t n. never_given (parse_standalone t n) (line_few t n);
      block_at = λ t at base cap. block_never t at (sized t (found t at base cap));
      run_at = λ t at base cap. block_never t at (sized t (wrapped t at base cap));
      block = λ t n base cap. block_never t (place_of t n) (block_found t n base cap);
      run = λ t n base cap. block_never t (place_of t n) (wrapped_found t n base cap);
      next = λ t cap at. let b = (next_of t cap at).block in never_eight (outcome_no b.outcome) b.set (outcome_eight b.outcome) (λ z. next_few t cap at);
    }

-- ---- merges

-- the lent set: a refusal has a number, and leaves what stood there
lent_never : (was : Attrs) (f : Filled) → f.set.norder ≤ max_slots → NeverEight (outcome_no f.outcome) (end_of was f)
unfolding end_of
lent_never was f h = go f.outcome
  where
    go : (o : Result (Unit {0}) Refusal) → NeverEight (outcome_no o) (standing o was f.set)
    go (Ok _) = never_eight 0 f.set (λ e. omega (arith, e)) (λ z. h)
    go (Err r) = never_eight (number_of r) was (outcome_eight (Err r)) (λ e. omega (arith, e, (number_among r).0))

pub merge_never_eight : MergeNeverEight
unfolding lent_both
merge_never_eight =
    record {
      merge = sets_never_given.merge;
      leading = λ t a b. sets_never_given.merge t b a;
      into = λ t a b. lent_never a (merge_of t a b) (few_slots.merge t a b);
      leading_into = λ t a b. lent_never a (merge_of t b a) (few_slots.merge t b a);
      led = λ t a leading incoming. lent_never a (merge_of t leading a) (few_slots.merge t leading a);
      merged = λ t a leading incoming. let w = end_of a (merge_of t leading a) in lent_never w (merge_of t w incoming) (few_slots.merge t w incoming);
    }
