-- The sets that the entries by line number hand out: of a line alone, of a block and of a run.
-- Assumes nothing.
use Rattle.std.specs.Prelude.{Err, Ok, Result}
use mathlib.Core.Path.{◌≡◌, refl}
use mathlib.Core.Bool.{Bool, true, false, cond}
use mathlib.Core.List.{List, []}
use Prim.Native.Nat.{ℕ}
use Rattle.base_bytes.specs.declared.Mode.TheVariants.{Loose}
use Rattle.base_refusals.specs.declared.Refusal.TheVariants.{NothingThere}
use Rattle.text_checks.specs.Check.{is_text}
use Rattle.set_fill.specs.Fill.{chain_at}
use Rattle.proved_sets.proofs.Zeroed.{Zeroed, empty_zeroed}
use Rattle.set_table.specs.Types.{one}
use Rattle.set_wellformed.specs.WellFormed.{well_formed}
use Rattle.proved_origins.proofs.Checks.{empty_text}
use Rattle.proved_reading.proofs.ChainsOut.{chain_out_ok}
use Rattle.block_trimmed_line.specs.Fronts.{front_of, opens_at}
use Rattle.text_line_start.specs.Starts.{start_at, on_start, place_of}
use Rattle.read_blocks.specs.Blocks.{Found, nothing, found, wrapped, filled_found, block_of}
use Rattle.read_by_line.specs.Entries.{line_read, parse_standalone}
use Rattle.read_blocks.specs.ByLine.{block_found, wrapped_found}
use Rattle.proved_sets.proofs.Settled.{chain_settled}
use Rattle.proved_sets.specs.HandedOut.{Settled}
use Rattle.set_table.specs.Types.{empty_set}
use Rattle.base_refusals.specs.declared.Refusal.{Refusal}
use Rattle.proved_reading.specs.HandedSets.{SetFormed, LineZeroed, LineFormed, BlockFormed, RunFormed, LineRefused}
use Rattle.proved_reading.proofs.BlockSets.{block_zeroed, empty_fits, none_ok, found_ok_lem, wrapped_ok, filled_empty}
use Rattle.set_table.specs.Filled.{refusing}

-- ---- rows past the counts of a line's set: it is that of a block of one line, or of a refusal
line_read_zeroed : (t : List ℕ) (at : ℕ) → Zeroed (line_read t at).set
unfolding line_read block_of
line_read_zeroed t at = go (opens_at t at)
  where
    go : (o : Bool) → Zeroed (cond o (filled_found t at Found.line) (refusing NothingThere)).set
    go true = block_zeroed t at Found.line
    go false = empty_zeroed

pub line_zeroed : LineZeroed
unfolding parse_standalone
line_zeroed t n = go (start_at t n)
  where
    go : (s : Result ℕ Refusal) → Zeroed (on_start refusing (line_read t) s).set
    go (Err r) = empty_zeroed
    go (Ok at) = line_read_zeroed t at

-- ---- well-formed sets

start_ok : (t : List ℕ) → is_text t ≡ true → (n : ℕ) (g : ℕ → Found) → ((at : ℕ) → SetFormed t at (g at)) → SetFormed t (place_of t n) (on_start nothing g (start_at t n))
start_ok t h n g k = go (start_at t n)
  where
    go : (s : Result ℕ Refusal) → SetFormed t (on_start (λ r. 0) (λ at. at) s) (on_start nothing g s)
    go (Err r) = none_ok t h 0 r [] 0 empty_text
    go (Ok at) = k at

pub block_set_ok : BlockFormed
unfolding block_found
block_set_ok t h n base cap = start_ok t h n (λ at. found t at base cap) (λ at. found_ok_lem t h at base cap)

pub run-set_ok : RunFormed
unfolding wrapped_found
run-set_ok t h n base cap = start_ok t h n (λ at. wrapped t at base cap) (λ at. wrapped_ok t h at base cap)

line_read_ok : (t : List ℕ) → is_text t ≡ true → (at : ℕ) → well_formed (one t) (line_read t at).set ≡ true
unfolding line_read
line_read_ok t h at = go (opens_at t at)
  where
    go : (o : Bool) → well_formed (one t) (cond o (chain_at Loose t (front_of t at).from (front_of t at).to) (refusing NothingThere)).set ≡ true
    go true = chain_out_ok Loose t (front_of t at).from (front_of t at).to h
    go false = empty_fits t h

pub line_set_ok : LineFormed
unfolding parse_standalone
line_set_ok t h n = go (start_at t n)
  where
    go : (s : Result ℕ Refusal) → well_formed (one t) (on_start refusing (line_read t) s).set ≡ true
    go (Err r) = empty_fits t h
    go (Ok at) = line_read_ok t h at

-- ---- a refusal hands out the empty set

pub line_empty : (t : List ℕ) (n : ℕ) (r : Refusal) → LineRefused t n r
unfolding parse_standalone line_read
line_empty t n r = go (start_at t n)
  where
    read : (at : ℕ) (o : Bool) → Settled (cond o (chain_at Loose t (front_of t at).from (front_of t at).to) (refusing NothingThere))
    read at true = chain_settled Loose t (front_of t at).from (front_of t at).to
    read at false = Settled.refused NothingThere

    go : (s : Result ℕ Refusal) → (on_start refusing (line_read t) s).outcome ≡ Err r → (on_start refusing (line_read t) s).set ≡ empty_set
    go (Err q) e = refl
    go (Ok at) e = filled_empty (read at (opens_at t at)) e
