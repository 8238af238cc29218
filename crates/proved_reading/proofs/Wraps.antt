-- A block that is found as a run has more than one line, so the block of one line, which `indented_wrapped_attrs_block_len` refuses, is a good line.
-- Assumes nothing.
use Prim.Native.Nat.{ℕ}
use mathlib.Core.Path.{◌≡◌, refl}
use mathlib.Core.Bool.{Bool, true, false, cond}
use mathlib.Core.List.{List}
use lib.Dec.{eqb}
use Rattle.base_lists.proofs.More.{contra}
use Rattle.base_refusals.specs.declared.Refusal.TheVariants.{NothingThere, NoReading}
use Rattle.block_chain.specs.Chain.{good_line}
use Rattle.block_trimmed_line.specs.Fronts.{front_of, opens_at}
use Rattle.read_blocks.specs.Blocks.{Found, nothing, run_found, found, lines_of}
use Rattle.read_blocks.proofs.Wraps.{run_more}
use Rattle.proved_reading.specs.Measuring.{OneLine}

module _ (t : List ℕ) (at base cap : ℕ) where
  pub one_line : OneLine t at base cap
  unfolding found
  one_line = go (opens_at t at) (good_line t (front_of t at).from (front_of t at).to) (front_of t at).closes refl
    where
      f : Bool → Bool → Bool → Found
      f o g c = cond o (cond g Found.line (cond c (nothing NoReading) (run_found t at base cap))) (nothing NothingThere)

      go : (o g c : Bool) → (front_of t at).closes ≡ c → eqb (lines_of (f o g c)) 1 ≡ true → f o g c ≡ Found.line
      go true true c e n = refl
      go true false true e n = contra false n refl
      go true false false e n = contra (eqb (lines_of (run_found t at base cap)) 1) n (run_more t at base cap e)
      go false g c e n = contra false n refl
