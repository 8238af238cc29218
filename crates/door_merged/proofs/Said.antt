-- The answer of two blocks that are merged, made of what the parts promise.
-- Assumes nothing.
use Rattle.std.specs.Prelude.{Result}
use mathlib.Core.Path.{◌≡◌, refl, ap, subst, ◌∙◌}
use mathlib.Core.Bool.{cond}
use mathlib.Core.List.{List, [], ◌∷◌}
use Prim.Native.Nat.{ℕ}
use lib.Dec.{eqb-suc-zero}
use lib.ListN.{length, drop}
use lib.Seq.{take-append_seam}
use Rattle.base_lists.specs.Lists.{is_some, over}
use Rattle.text_checks.specs.Outcomes.{or_else}
use Rattle.text_line_start.specs.Starts.{place_of}
use Rattle.set_table.specs.Types.{two, text_over}
use Rattle.set_table.specs.declared.Attrs.{Attrs}
use Rattle.set_table.specs.declared.Filled.{Filled}
use Rattle.set_merge.specs.Merge.{merge_of}
use Rattle.read_blocks.specs.Blocks.{Found, text_found, joined_in, join_holds, block_of, as_first, as_second}
use Rattle.read_blocks.specs.ByLine.{block_found}
use Rattle.read_blocks.specs.declared.Block.{Block}
use Rattle.door_shared.specs.Tells.{told_in, outcome_of, refused_step}
use Rattle.door_shared.proofs.Laws.{Came, Says, set-said}
use Rattle.door_merged.specs.Merged.{first_refusal, merged_wrote, filled_said, merged_said_by, merged_said}
use Rattle.base_refusals.specs.declared.Refusal.{Refusal}

-- ---- a block's text is what the join buffer holds at its front, if anything was joined

joined-over : (t x j : List ℕ) → text_over t (over x j) (length x) ≡ cond (is_some x) x t
unfolding text_over
joined-over t [] j = refl
joined-over t (b ∷ s) j = rw (eqb-suc-zero (length s)) (take-append_seam (b ∷ s) (drop (length (b ∷ s)) j))

text-found : (t j : List ℕ) (at : ℕ) (f : Found) → text_over t (join_holds j f) (block_of t at f).joined ≡ text_found t f
unfolding block_of join_holds
text-found t j at f = joined-over t (joined_in f) j

module _ (buf told : List ℕ) where
  -- ---- two blocks that were read: their sets merged, written and told

  pub blocks_said : (x y : Block) {p q i k : List ℕ} {a b : Attrs} {m : Filled} {c d e : Result (Unit {0}) Refusal} {h r : ℕ} {o v : List ℕ}
      → p ≡ i → q ≡ k → a ≡ as_first x → b ≡ as_second y → m ≡ merge_of (two p q) a b → d ≡ or_else y.outcome m.outcome → c ≡ or_else x.outcome d
      → (came : Came buf told c (two p q) m.set (λ n. h ∷ n ∷ x.lines ∷ y.lines ∷ []) r o v) → e ≡ outcome_of came.wrote → h ≡ refused_step x.outcome y.outcome e
      → Says buf told (merged_said_by (two i k) x y buf) r o v
  blocks_said x y {p} {q} {i} {k} {m = m} {c = c} {h = h} {r = r} {o = o} {v = v} fp fq fa fb fm fd fc came fe fh =
      subst (λ z. Says buf told (filled_said (two i k) x y z buf) r o v) merged (rw (← step) (set-said buf told first texts came))
    where
      texts : two p q ≡ two i k
      texts = rw (fp, fq)

      merged : m ≡ merge_of (two i k) (as_first x) (as_second y)
      merged = fm ∙ rw (fp, fq, fa, fb)

      first : c ≡ first_refusal x y m
      first = fc ∙ ap (or_else x.outcome) fd

      wrote : came.wrote ≡ merged_wrote (two i k) x y m (length buf)
      wrote = came.writes ∙ rw (first, texts)

      step : h ≡ refused_step x.outcome y.outcome (outcome_of (merged_wrote (two i k) x y m (length buf)))
      step = fh ∙ ap (refused_step x.outcome y.outcome) (fe ∙ ap outcome_of wrote)

  -- ---- two blocks at lines of a text

  module _ (t j k : List ℕ) (m n : ℕ) where
    pub merge_says : {x y : Block} {i l o v : List ℕ} {r : ℕ}
        → x ≡ block_of t (place_of t m) (block_found t m 0 (length j)) → i ≡ join_holds j (block_found t m 0 (length j))
        → y ≡ block_of t (place_of t n) (block_found t n 0 (length k)) → l ≡ join_holds k (block_found t n 0 (length k))
        → Says buf told (merged_said_by (two (text_over t i x.joined) (text_over t l y.joined)) x y buf) r o v
        → record {
          value : r ≡ (merged_said t m n (length j) (length k) buf).number;
          join_after : i ≡ join_holds j (block_found t m 0 (length j));
          other_after : l ≡ join_holds k (block_found t n 0 (length k));
          out_after : o ≡ (merged_said t m n (length j) (length k) buf).out;
          told_after : v ≡ told_in told (merged_said t m n (length j) (length k) buf).told;
        }
    unfolding merged_said
    merge_says {x} {y} {i} {l} fx fi fy fl p =
        record {
          value = p.value ∙ ap (λ z. z.number) e;
          join_after = fi;
          other_after = fl;
          out_after = p.out_after ∙ ap (λ z. z.out) e;
          told_after = p.told_after ∙ ap (λ z. told_in told z.told) e;
        }
      where
        e : merged_said_by (two (text_over t i x.joined) (text_over t l y.joined)) x y buf ≡ merged_said t m n (length j) (length k) buf
        e = rw (fx, fi, fy, fl, text-found t j (place_of t m) (block_found t m 0 (length j)), text-found t k (place_of t n) (block_found t n 0 (length k)))
