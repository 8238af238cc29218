-- The answer of a block's columns, made of what the parts promise.
-- Assumes nothing.
use Rattle.std.specs.Prelude.{Result}
use mathlib.Core.Path.{◌≡◌, refl, ap, ◌∙◌}
use mathlib.Core.List.{List, [], ◌∷◌}
use Prim.Native.Nat.{ℕ}
use lib.Seq.{slice}
use Rattle.base_refusals.specs.Numbers.{outcome_no}
use Rattle.text_checks.specs.Outcomes.{or_else, or_left}
use Rattle.read_blocks.specs.Blocks.{Found, join_holds, block_of}
use Rattle.read_blocks.specs.declared.Block.{Block}
use Rattle.set_table.specs.Types.{Texts, two}
use Rattle.set_columns.specs.Columns.{columns_of}
use Rattle.set_columns.specs.declared.Made.{Made}
use Rattle.door_shared.specs.Tells.{told_in}
use Rattle.door_blocks.proofs.Over.{texts_found}
use Rattle.door_columns.specs.Said.{table_nos, Answered, made_said, columns_said_by, columns_said}
use Rattle.base_refusals.specs.declared.Refusal.{Refusal}

-- an answer as it is promised
abbrev pub Answers : List ℕ → Answered → ℕ → List ℕ → List ℕ → Type 0
Answers told s r o v = record { value : r ≡ s.number; numbers_after : o ≡ s.numbers; told_after : v ≡ told_in told s.told }

-- ---- a block that was read
module _ (buf told : List ℕ) (b : Block) {t u : Texts} {m : Made} {c : Result (Unit {0}) Refusal} {r : ℕ} {o v : List ℕ} where
  pub made_said_lem : t ≡ u → m ≡ columns_of t b.set → c ≡ or_else b.outcome m.outcome → o ≡ or_left c buf (told_in buf (table_nos m.table))
      → v ≡ told_in told (m.table.count ∷ b.lines ∷ b.joined ∷ []) → r ≡ outcome_no c → Answers told (columns_said_by b u buf) r o v
  made_said_lem ft fm fc fo fv fr = rw (← ft, ← fm) (record { value = fr ∙ ap outcome_no fc; numbers_after = fo ∙ rw fc; told_after = fv })

-- ---- the block at a line of a text
module _ (t j told : List ℕ) (at : ℕ) (f : Found) (buf : List ℕ) where
  pub columns_says : {b : Block} {i o v : List ℕ} {r : ℕ} → b ≡ block_of t at f → i ≡ join_holds j f → Answers told (columns_said_by b (two t (slice 0 b.joined i)) buf) r o v
      → record { value : r ≡ (columns_said t at f buf).number; join_after : i ≡ join_holds j f; numbers_after : o ≡ (columns_said t at f buf).numbers; told_after : v ≡ told_in told (columns_said t at f buf).told }
  unfolding columns_said
  columns_says {b} {i} p q x =
      record {
        value = x.value ∙ ap (λ s. s.number) e;
        join_after = q;
        numbers_after = x.numbers_after ∙ ap (λ s. s.numbers) e;
        told_after = x.told_after ∙ ap (λ s. told_in told s.told) e;
      }
    where
      e : columns_said_by b (two t (slice 0 b.joined i)) buf ≡ columns_said t at f buf
      e = rw (p, q, texts_found t at f j)
