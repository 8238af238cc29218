-- The sets of blocks at a place, over the lent text and what was joined.
-- Assumes nothing.
use Rattle.std.specs.Prelude.{Err, Ok, Result}
use Rattle.set_table.specs.declared.Attrs.{Attrs}
use Rattle.set_table.specs.declared.Filled.{Filled}
use Rattle.proved_sets.proofs.Settled.{chain_settled}
use Rattle.proved_reading.specs.HandedSets.{SetFormed, BlockFormedAt, RunFormedAt, BlockZeroed, BlockRefused}
use mathlib.Core.Path.{◌≡◌, refl, ◌∙◌, ap}
use mathlib.Core.Bool.{Bool, true, false, cond}
use mathlib.Core.List.{List, []}
use Prim.Native.Nat.{ℕ}
use native.Mathlib.Omega.{arith}
use lib.ListN.{length, drop}
use Rattle.base_bytes.specs.declared.Mode.TheVariants.{Loose}
use Rattle.text_utf8.specs.Computed.{is_utf8}
use Rattle.base_refusals.specs.declared.Refusal.{Refusal}
use Rattle.base_refusals.specs.declared.Refusal.TheVariants.{NothingThere, NoReading}
use Rattle.text_checks.specs.Check.{is_text}
use Rattle.text_checks.proofs.Texts as texts
use Rattle.text_checks.proofs.Texts.{is_text_lem}
use Rattle.block_chain.specs.Chain.{good_line}
use Rattle.set_table.specs.Types.{one, two, empty_set}
use Rattle.set_exchange.specs.Exchange.{exchanged}
use Rattle.proved_origins.proofs.Checks.{empty_text}
use Rattle.proved_origins.proofs.Exchanged.{exchange_rest}
use Rattle.proved_origins.proofs.Read.{read_joined, exchanged_empty}
use Rattle.set_wellformed.specs.WellFormed.{well_formed}
use Rattle.proved_sets.proofs.Zeroed.{empty_zeroed, chain_zeroed}
use Rattle.proved_sets.specs.HandedOut.{Settled, Zeroed}
use Rattle.proved_reading.proofs.HandedOut.{empty_ok}
use Rattle.proved_reading.proofs.ChainsOut.{chain_out_ok}
use Rattle.run_lines.specs.Runs as runs
use Rattle.run_lines.proofs.Bounds.{text_short}
use Rattle.proved_runs.proofs.Texts.{text_well, opens_well}
use Rattle.block_trimmed_line.specs.Fronts.{front_of, opens_at}
use Rattle.read_blocks.specs.Blocks.{Found, nothing, closed_run, ended_run, run_found, found, wrapped, block_of}

-- ---- rows past the counts, whatever was found
zeroed_over : {a : Attrs} → Zeroed a → Zeroed (exchanged a)
unfolding exchanged
zeroed_over {a} z =
    let r = exchange_rest a in
    record { id = λ e. r.id e ∙ z.id e; classes = λ k h. r.classes k h ∙ z.classes k h; keys = λ k h. r.keys k h ∙ z.keys k h; slots = z.slots }

pub block_zeroed : BlockZeroed
unfolding block_of
block_zeroed t at Found.line = chain_zeroed Loose t (front_of t at).from (front_of t at).to
block_zeroed t at (Found.run r) = zeroed_over (chain_zeroed Loose r.text 0 (length r.text))
block_zeroed t at (Found.none q x n) = empty_zeroed

-- ---- well-formed sets

-- the joined text gives neither 1 nor 2
joined-text : (cap base : ℕ) (t : List ℕ) (at : ℕ) → is_text t ≡ true → is_utf8 (drop at t) ≡ true → is_text (runs.run_at cap base t at).text ≡ true
joined-text cap base t at h u = is_text_lem (runs.run_at cap base t at).text (omega (arith, text_short cap base t at, texts.text_short t h)) (text_well cap base t at u)

module _ (t : List ℕ) (h : is_text t ≡ true) where
  -- the empty set, whatever was joined
  pub empty_over : (x : List ℕ) → is_text x ≡ true → well_formed (two t x) empty_set ≡ true
  unfolding well_formed
  empty_over x u = rw (h, u) (empty_ok (two t x))

  pub empty_fits : well_formed (one t) empty_set ≡ true
  empty_fits = empty_over [] empty_text

  pub none_ok : (at : ℕ) (q : Refusal) (x : List ℕ) (n : ℕ) → is_text x ≡ true → SetFormed t at (Found.none q x n)
  unfolding block_of
  none_ok at q x n u = empty_over x u

  line_ok : (at : ℕ) → SetFormed t at Found.line
  unfolding block_of
  line_ok at = chain_out_ok Loose t (front_of t at).from (front_of t at).to h

  run_ok : (at base cap : ℕ) → opens_at t at ≡ true → SetFormed t at (run_found t at base cap)
  unfolding run_found block_of opens_at
  run_ok at base cap o = go r.stop
    where
      r : runs.Run
      r = runs.run_at cap base t at

      u : is_text r.text ≡ true
      u = joined-text cap base t at h (opens_well t at (texts.text_utf8 t h) o)

      closed : (b : Bool) → SetFormed t at (closed_run r b)
      closed true = (read_joined Loose t r.text 0 (length r.text)).formed h ∙ chain_out_ok Loose r.text 0 (length r.text) u
      closed false = none_ok at NoReading r.text r.lookahead u

      go : (x : Result (Unit {0}) Refusal) → SetFormed t at (ended_run r x)
      go (Ok _) = closed (good_line r.text 0 (length r.text))
      go (Err q) = none_ok at q r.text r.lookahead u

pub found_ok_lem : BlockFormedAt
unfolding found
found_ok_lem t h at base cap = go (opens_at t at) refl (good_line t (front_of t at).from (front_of t at).to) (front_of t at).closes
  where
    go : (o : Bool) → opens_at t at ≡ o → (g c : Bool) → SetFormed t at (cond o (cond g Found.line (cond c (nothing NoReading) (run_found t at base cap))) (nothing NothingThere))
    go true p true c = line_ok t h at
    go true p false true = none_ok t h at NoReading [] 0 empty_text
    go true p false false = run_ok t h at base cap p
    go false p g c = none_ok t h at NothingThere [] 0 empty_text

pub wrapped_ok : RunFormedAt
unfolding wrapped
wrapped_ok t h at base cap = go (opens_at t at) refl
  where
    go : (o : Bool) → opens_at t at ≡ o → SetFormed t at (cond o (run_found t at base cap) (nothing NothingThere))
    go true p = run_ok t h at base cap p
    go false p = none_ok t h at NothingThere [] 0 empty_text

-- ---- a refusal hands out the empty set

pub filled_empty : {f : Filled} {r : Refusal} → Settled f → f.outcome ≡ Err r → f.set ≡ empty_set
filled_empty (Settled.refused q) e = refl
filled_empty (Settled.done s) e = let z : ◌≡◌ {A = ℕ} 0 1 = cc in absurd (omega arith)

pub block_empty : (t : List ℕ) (at : ℕ) (f : Found) (r : Refusal) → BlockRefused t at f r
unfolding block_of
block_empty t at Found.line r e = filled_empty (chain_settled Loose t (front_of t at).from (front_of t at).to) e
block_empty t at (Found.run x) r e = ap exchanged (filled_empty (chain_settled Loose x.text 0 (length x.text)) e) ∙ exchanged_empty
block_empty t at (Found.none q x n) r e = refl
