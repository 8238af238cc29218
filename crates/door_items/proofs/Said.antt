-- The answers of a block's items and values one by one, made of what the parts promise.
-- Assumes nothing.
use Rattle.std.specs.Prelude.{Result}
use mathlib.Core.Path.{◌≡◌, ap, ◌∙◌}
use mathlib.Core.List.{List, [], ◌∷◌}
use Prim.Native.Nat.{ℕ}
use lib.ListN.{length, set}
use lib.Seq.{slice}
use Rattle.base_bytes.specs.declared.Mode.{Mode}
use Rattle.base_refusals.specs.Numbers.{outcome_no}
use Rattle.set_canon.specs.Canon.{Pair, pairs}
use Rattle.set_table.specs.Types.{Texts, one, two}
use Rattle.set_table.specs.Rows.{meaning_of}
use Rattle.set_items.specs.Items.{nth, values_under, laid_of, laid_in}
use Rattle.set_items.specs.declared.Laid.{Laid}
use Rattle.read_blocks.specs.Blocks.{Found, join_holds, block_of}
use Rattle.read_blocks.specs.declared.Block.{Block}
use Rattle.read_brace.specs.Brace.{read_attrs_at, place_said}
use Rattle.read_brace.specs.declared.Read.{Read}
use Rattle.door_shared.specs.Tells.{told_in, Said}
use Rattle.door_shared.proofs.Laws.{Says, told_more, told_5}
use Rattle.door_sets.specs.Sets.{check_by, place_behind}
use Rattle.door_blocks.proofs.Over.{texts_found}
use Rattle.door_items.specs.Items.{nth_said, both_lengths, value_length, lines_told, item_said_by, item_said, value_said_by, value_said, brace_item_by, brace_item, brace_value_by, brace_value}
use Rattle.base_refusals.specs.declared.Refusal.{Refusal}

-- ---- numbers told by their index

pub told_6 : (buf : List ℕ) (a b c d e f : ℕ) {t u v w x y : List ℕ} → t ≡ set buf 0 a → u ≡ set t 1 b → v ≡ set u 2 c → w ≡ set v 3 d → x ≡ set w 4 e → y ≡ set x 5 f → y ≡ told_in buf (a ∷ b ∷ c ∷ d ∷ e ∷ f ∷ [])
told_6 buf a b c d e f p q r s z g = g ∙ ap (λ l. set l 5 f) (told_5 buf a b c d e p q r s z) ∙ told_more buf (a ∷ b ∷ c ∷ d ∷ e ∷ []) f

pub told_7 : (buf : List ℕ) (a b c d e f g : ℕ) {t u v w x y z : List ℕ} → t ≡ set buf 0 a → u ≡ set t 1 b → v ≡ set u 2 c → w ≡ set v 3 d → x ≡ set w 4 e → y ≡ set x 5 f → z ≡ set y 6 g → z ≡ told_in buf (a ∷ b ∷ c ∷ d ∷ e ∷ f ∷ g ∷ [])
told_7 buf a b c d e f g p q r s i j k = k ∙ ap (λ l. set l 6 g) (told_6 buf a b c d e f p q r s i j) ∙ told_more buf (a ∷ b ∷ c ∷ d ∷ e ∷ f ∷ []) g

-- ---- one of the items ps was laid and told
module _ (buf told : List ℕ) (c : Result (Unit {0}) Refusal) (ps : List Pair) (n : ℕ) (more : List ℕ) {xs : List Pair} {l : Laid} {k r : ℕ} {o v : List ℕ} where
  item_says : (k ≡ length ps) × (xs ≡ nth n ps) → (l ≡ laid_of c (length buf) xs) × (o ≡ laid_in c buf xs) → v ≡ told_in told (k ∷ l.name ∷ l.value ∷ more) → r ≡ outcome_no l.outcome
      → Says buf told (nth_said c ps n both_lengths more buf) r o v
  item_says (f, e) (g, h) i j = rw (← e) (record { value = j ∙ ap (λ x. outcome_no x.outcome) g; out_after = h; told_after = i ∙ rw (f, g) })

  value_says : (k ≡ length ps) × (xs ≡ nth n ps) → (l ≡ laid_of c (length buf) xs) × (o ≡ laid_in c buf xs) → v ≡ told_in told (k ∷ l.value ∷ more) → r ≡ outcome_no l.outcome
      → Says buf told (nth_said c ps n value_length more buf) r o v
  value_says (f, e) (g, h) i j = rw (← e) (record { value = j ∙ ap (λ x. outcome_no x.outcome) g; out_after = h; told_after = i ∙ rw (f, g) })

-- ---- a block that was read, over its texts
module _ (buf told : List ℕ) (b : Block) {t u : Texts} (n : ℕ) {xs : List Pair} {l : Laid} {k r : ℕ} {o v : List ℕ} (ft : t ≡ u) where
  pub block_item : (k ≡ length (pairs (meaning_of t b.set))) × (xs ≡ nth n (pairs (meaning_of t b.set))) → (l ≡ laid_of b.outcome (length buf) xs) × (o ≡ laid_in b.outcome buf xs)
      → v ≡ told_in told (k ∷ l.name ∷ l.value ∷ lines_told b) → r ≡ outcome_no l.outcome → Says buf told (item_said_by b u n buf) r o v
  block_item p q i j = rw (← ft) (item_says buf told b.outcome (pairs (meaning_of t b.set)) n (lines_told b) p q i j)

  pub block_value : (name : List ℕ) → (k ≡ length (values_under name (meaning_of t b.set))) × (xs ≡ nth n (values_under name (meaning_of t b.set))) → (l ≡ laid_of b.outcome (length buf) xs) × (o ≡ laid_in b.outcome buf xs)
      → v ≡ told_in told (k ∷ l.value ∷ lines_told b) → r ≡ outcome_no l.outcome → Says buf told (value_said_by b u name n buf) r o v
  block_value name p q i j = rw (← ft) (value_says buf told b.outcome (values_under name (meaning_of t b.set)) n (lines_told b) p q i j)

-- ---- what was read at a brace
module _ (t buf told : List ℕ) (x : Read) (n : ℕ) {c : Result (Unit {0}) Refusal} {xs : List Pair} {l : Laid} {k d e r : ℕ} {o v : List ℕ} (fc : c ≡ check_by x.answer) (fd : d ≡ place_behind x.answer) (fe : e ≡ place_said x.answer) where
  pub read_item : (k ≡ length (pairs (meaning_of (one t) x.set))) × (xs ≡ nth n (pairs (meaning_of (one t) x.set))) → (l ≡ laid_of c (length buf) xs) × (o ≡ laid_in c buf xs)
      → v ≡ told_in told (k ∷ l.name ∷ l.value ∷ d ∷ e ∷ []) → r ≡ outcome_no l.outcome → Says buf told (brace_item_by t x n buf) r o v
  read_item p q i j = rw (← fc, ← fd, ← fe) (item_says buf told c (pairs (meaning_of (one t) x.set)) n (d ∷ e ∷ []) p q i j)

  pub read_value : (name : List ℕ) → (k ≡ length (values_under name (meaning_of (one t) x.set))) × (xs ≡ nth n (values_under name (meaning_of (one t) x.set))) → (l ≡ laid_of c (length buf) xs) × (o ≡ laid_in c buf xs)
      → v ≡ told_in told (k ∷ l.value ∷ d ∷ e ∷ []) → r ≡ outcome_no l.outcome → Says buf told (brace_value_by t x name n buf) r o v
  read_value name p q i j = rw (← fc, ← fd, ← fe) (value_says buf told c (values_under name (meaning_of (one t) x.set)) n (d ∷ e ∷ []) p q i j)

module _ (t buf told : List ℕ) (i n : ℕ) {m k : Mode} {x : Read} {r : ℕ} {o v : List ℕ} (e : m ≡ k) (f : x ≡ read_attrs_at m t i) where
  pub brace_item_lem : Says buf told (brace_item_by t x n buf) r o v → Says buf told (brace_item k t i n buf) r o v
  unfolding brace_item
  brace_item_lem z = rw (← (f ∙ ap (λ j. read_attrs_at j t i) e)) z

  pub brace_value_lem : (name : List ℕ) → Says buf told (brace_value_by t x name n buf) r o v → Says buf told (brace_value k t i name n buf) r o v
  unfolding brace_value
  brace_value_lem name z = rw (← (f ∙ ap (λ j. read_attrs_at j t i) e)) z

-- ---- the block at a line of a text
module _ (t j told : List ℕ) (at : ℕ) (f : Found) (buf : List ℕ) where
  abbrev Answers : Said → ℕ → List ℕ → List ℕ → List ℕ → Type 0
  Answers s r i o v = record { value : r ≡ s.number; join_after : i ≡ join_holds j f; out_after : o ≡ s.out; told_after : v ≡ told_in told s.told }

  by_said : {s u : Said} {i o v : List ℕ} {r : ℕ} → s ≡ u → i ≡ join_holds j f → Says buf told s r o v → Answers u r i o v
  by_said e q x =
      record {
        value = x.value ∙ ap (λ s. s.number) e;
        join_after = q;
        out_after = x.out_after ∙ ap (λ s. s.out) e;
        told_after = x.told_after ∙ ap (λ s. told_in told s.told) e;
      }

  pub line_item : {b : Block} {i o v : List ℕ} {r : ℕ} (n : ℕ) → b ≡ block_of t at f → i ≡ join_holds j f → Says buf told (item_said_by b (two t (slice 0 b.joined i)) n buf) r o v → Answers (item_said t at f n buf) r i o v
  unfolding item_said
  line_item {b} {i} n p q x = by_said e q x
    where
      e : item_said_by b (two t (slice 0 b.joined i)) n buf ≡ item_said t at f n buf
      e = rw (p, q, texts_found t at f j)

  pub line_value : {b : Block} {i o v : List ℕ} {r : ℕ} (name : List ℕ) (n : ℕ) → b ≡ block_of t at f → i ≡ join_holds j f → Says buf told (value_said_by b (two t (slice 0 b.joined i)) name n buf) r o v → Answers (value_said t at f name n buf) r i o v
  unfolding value_said
  line_value {b} {i} name n p q x = by_said e q x
    where
      e : value_said_by b (two t (slice 0 b.joined i)) name n buf ≡ value_said t at f name n buf
      e = rw (p, q, texts_found t at f j)
