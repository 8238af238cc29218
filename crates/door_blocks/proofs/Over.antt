-- What a block's set is over: the text, and what stands at the front of the join buffer.
-- Assumes nothing.
use mathlib.Core.Path.{◌≡◌, refl, ap, sym, ◌∙◌}
use mathlib.Core.Bool.{Bool, true, false, cond, not, ◌&&◌}
use mathlib.Core.List.{List}
use Prim.Native.Nat.{ℕ, ◌≤◌}
use borrow.Author.Tests.{ltb-false}
use lib.Dec.{ltb}
use Rattle.base_lists.proofs.More.{contra}
use Rattle.base_refusals.specs.Numbers.{too_long}
use Rattle.base_refusals.specs.declared.Refusal.TheVariants.{TextTooLong}
use Rattle.block_trimmed_line.specs.Fronts.{opens_at}
use Rattle.text_lines.specs.Trim.{trim_start}
use Rattle.block_trimmed_line.proofs.Trimmed.{line_none}
use Rattle.run_lines.specs.Runs.{past_lines}
use Rattle.read_blocks.proofs.Finds.{found_none}
use lib.ListN.{length, drop}
use lib.Seq.{slice, take-append_seam}
use Rattle.read_blocks.specs.Blocks.{Found, joined_in, join_holds, block_of, texts_in, nothing, found, sized}
use Rattle.read_blocks.specs.declared.Block.{Block}
use Rattle.set_table.specs.Types.{two}
use Rattle.door_shared.specs.Tells.{told_in}
use Rattle.door_shared.proofs.Laws.{Says}
use Rattle.door_blocks.specs.Blocks.{block_said_by, block_said, is_place_in, place_in, nowhere}

holds_front : (j : List ℕ) (f : Found) → slice 0 (length (joined_in f)) (join_holds j f) ≡ joined_in f
unfolding join_holds
holds_front j f = take-append_seam (joined_in f) (drop (length (joined_in f)) j)

-- so they are a block's texts
pub texts_found : (t : List ℕ) (at : ℕ) (f : Found) (j : List ℕ) → two t (slice 0 (block_of t at f).joined (join_holds j f)) ≡ texts_in t f
unfolding block_of
texts_found t at f j = ap (two t) (holds_front j f)

over-found : (t : List ℕ) (at : ℕ) (f : Found) (j buf : List ℕ) → block_said_by (block_of t at f) (two t (slice 0 (block_of t at f).joined (join_holds j f))) buf ≡ block_said t at f buf
unfolding block_said
over-found t at f j buf = rw (texts_found t at f j)

module _ (t j told : List ℕ) (at : ℕ) (f : Found) (buf : List ℕ) where
  pub block_says : {b : Block} {i o v : List ℕ} {r : ℕ} → b ≡ block_of t at f → i ≡ join_holds j f → Says buf told (block_said_by b (two t (slice 0 b.joined i)) buf) r o v
      → record { value : r ≡ (block_said t at f buf).number; join_after : i ≡ join_holds j f; out_after : o ≡ (block_said t at f buf).out; told_after : v ≡ told_in told (block_said t at f buf).told }
  block_says {b} {i} p q x =
      record {
        value = x.value ∙ ap (λ s. s.number) e;
        join_after = q;
        out_after = x.out_after ∙ ap (λ s. s.out) e;
        told_after = x.told_after ∙ ap (λ s. told_in told s.told) e;
      }
    where
      e : block_said_by b (two t (slice 0 b.joined i)) buf ≡ block_said t at f buf
      e = rw (p, q) (over-found t at f j buf)

-- ---- where the place is none of the text, nothing is read there

past_end : (t : List ℕ) (at : ℕ) → length t ≤ at → opens_at t at ≡ false
unfolding opens_at trim_start
past_end t at h = rw (line_none t at h)

module _ (t : List ℕ) (at cap : ℕ) where
  pub no_place : is_place_in t at ≡ false → nowhere (block_of t at (sized t (found t at 0 cap))) ≡ block_of t 0 (sized t (found t at 0 cap))
  unfolding is_place_in sized block_of past_lines
  no_place e = go (too_long t) (ltb at (length t)) refl e
    where
      go : (a b : Bool) → ltb at (length t) ≡ b → (not a && b) ≡ false
          → nowhere (block_of t at (cond a (nothing TextTooLong) (found t at 0 cap))) ≡ block_of t 0 (cond a (nothing TextTooLong) (found t at 0 cap))
      go true b p q = refl
      go false false p q = rw (found_none t at 0 cap (past_end t at (ltb-false at (length t) p)))
      go false true p q = contra true refl q

  pub at_place : is_place_in t at ≡ true → {b : Block} → b ≡ block_of t at (sized t (found t at 0 cap)) → b ≡ block_of t (place_in t at) (sized t (found t at 0 cap))
  at_place e k = rw e k

  pub off_place : is_place_in t at ≡ false → {b r : Block} → b ≡ block_of t at (sized t (found t at 0 cap)) → r ≡ nowhere b
      → r ≡ block_of t (place_in t at) (sized t (found t at 0 cap))
  off_place e k g = rw e (g ∙ ap nowhere k ∙ no_place e)
