-- The answer of a block whose key `loose` is taken out, made of what the parts promise.
-- Assumes nothing.
use Rattle.std.specs.Prelude.{Result}
use mathlib.Core.Path.{◌≡◌, refl, ap, ◌∙◌}
use mathlib.Core.List.{List, [], ◌∷◌}
use Prim.Native.Nat.{ℕ}
use lib.ListN.{length, set}
use lib.Seq.{slice}
use Rattle.text_checks.specs.Outcomes.{or_left}
use Rattle.read_blocks.specs.Blocks.{Found, join_holds, block_of}
use Rattle.read_blocks.specs.declared.Block.{Block}
use Rattle.set_table.specs.Types.{Texts, two}
use Rattle.set_writer.specs.Write.{wrote_paper, or_refused, attrs_wrote, attrs_content}
use Rattle.set_loose.specs.Loose.{loose_of}
use Rattle.set_loose.specs.declared.Consumed.{Consumed}
use Rattle.door_shared.specs.Tells.{told_in, len_of}
use Rattle.door_shared.proofs.Laws.{Says, told_more, told_5}
use Rattle.door_blocks.proofs.Over.{texts_found}
use Rattle.door_loose.specs.Loose.{acted_told, left_said, loose_said_by, loose_said}
use Rattle.base_refusals.specs.declared.Refusal.{Refusal}

pub told_6 : (buf : List ℕ) (a b c d e f : ℕ) {t u v w x y : List ℕ} → t ≡ set buf 0 a → u ≡ set t 1 b → v ≡ set u 2 c → w ≡ set v 3 d → x ≡ set w 4 e → y ≡ set x 5 f → y ≡ told_in buf (a ∷ b ∷ c ∷ d ∷ e ∷ f ∷ [])
told_6 buf a b c d e f p q r s z g = g ∙ ap (λ l. set l 5 f) (told_5 buf a b c d e p q r s z) ∙ told_more buf (a ∷ b ∷ c ∷ d ∷ e ∷ []) f

-- ---- a block that was read: its key taken out, and what is left written and told
module _ (buf told : List ℕ) (b : Block) {t u : Texts} {c : Consumed} {w : Result ℕ Refusal} {act len r : ℕ} {o v : List ℕ} where
  pub left_said_lem : t ≡ u → c ≡ loose_of t b.set → w ≡ or_refused b.outcome (attrs_wrote t c.set (length buf)) → o ≡ or_left b.outcome buf (attrs_content t c.set buf)
      → act ≡ acted_told c.did → len ≡ len_of w → v ≡ told_in told (act ∷ len ∷ b.lines ∷ b.next ∷ b.lookahead ∷ b.joined ∷ []) → r ≡ (wrote_paper w).number
      → Says buf told (loose_said_by b u buf) r o v
  left_said_lem ft fc fw fo fa fl fv fr = rw (← ft, ← fc) (record { value = fr ∙ ap (λ x. (wrote_paper x).number) fw; out_after = fo; told_after = fv ∙ rw (fa, fl, fw) })

-- ---- the block at a line of a text
module _ (t j told : List ℕ) (at : ℕ) (f : Found) (buf : List ℕ) where
  pub loose_says : {b : Block} {i o v : List ℕ} {r : ℕ} → b ≡ block_of t at f → i ≡ join_holds j f → Says buf told (loose_said_by b (two t (slice 0 b.joined i)) buf) r o v
      → record { value : r ≡ (loose_said t at f buf).number; join_after : i ≡ join_holds j f; out_after : o ≡ (loose_said t at f buf).out; told_after : v ≡ told_in told (loose_said t at f buf).told }
  unfolding loose_said
  loose_says {b} {i} p q x =
      record {
        value = x.value ∙ ap (λ s. s.number) e;
        join_after = q;
        out_after = x.out_after ∙ ap (λ s. s.out) e;
        told_after = x.told_after ∙ ap (λ s. told_in told s.told) e;
      }
    where
      e : loose_said_by b (two t (slice 0 b.joined i)) buf ≡ loose_said t at f buf
      e = rw (p, q, texts_found t at f j)
