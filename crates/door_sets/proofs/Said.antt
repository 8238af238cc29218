-- Answers made of what the parts promise.
-- Assumes nothing.
use Rattle.std.specs.Prelude.{Result}
use mathlib.Core.Path.{◌≡◌, refl, ap, ◌∙◌}
use mathlib.Core.List.{List, [], ◌∷◌}
use Prim.Native.Nat.{ℕ, zero, suc}
use Rattle.base_bytes.specs.declared.Mode.{Mode}
use Rattle.base_bytes.specs.declared.Mode.TheVariants.{Loose}
use Rattle.text_checks.specs.Check.{check_of}
use Rattle.set_table.specs.Types.{one}
use Rattle.set_table.specs.declared.Filled.{Filled}
use Rattle.read_brace.specs.Brace.{read_attrs_at, place_said}
use Rattle.read_brace.specs.declared.Read.{Read}
use Rattle.read_by_line.specs.Entries.{parse_standalone}
use Rattle.set_merge.specs.Merge.{merge_of}
use Rattle.text_checks.specs.Outcomes.{or_else}
use Rattle.door_shared.specs.Tells.{refused_step}
use Rattle.door_shared.proofs.Laws.{Came, Says, set-said}
use Rattle.door_sets.specs.Sets.{mode_of, check_by, place_behind, brace_by, brace_said, line_said, merge_said}
use Rattle.base_refusals.specs.declared.Refusal.{Refusal}

pub loose_is : (n : ℕ) → (n ≡ 0 → ⊥) → Loose ≡ mode_of n
loose_is zero h = absurd (h refl)
loose_is (suc n) h = refl

module _ (t buf told : List ℕ) where
  pub read_said : (x : Read) {b c : Result (Unit {0}) Refusal} {h p r : ℕ} {o v : List ℕ} → b ≡ check_by x.answer → c ≡ or_else b (check_of t) → h ≡ place_behind x.answer → p ≡ place_said x.answer
      → Came buf told c (one t) x.set (λ k. h ∷ k ∷ p ∷ []) r o v → Says buf told (brace_by t buf x) r o v
  read_said x g d y z k = rw (← y, ← z) (set-said buf told (d ∙ ap (λ j. or_else j (check_of t)) g) refl k)

  -- what is handed out of a reading is what is handed out of what it is equal to
  pub brace_said_lem : (i : ℕ) {m n : Mode} {x : Read} {r : ℕ} {o v : List ℕ} → m ≡ n → x ≡ read_attrs_at m t i → Says buf told (brace_by t buf x) r o v → Says buf told (brace_said n t i buf) r o v
  unfolding brace_said
  brace_said_lem i e f k = rw (← (f ∙ ap (λ j. read_attrs_at j t i) e)) k

  pub line_said_lem : (n : ℕ) {x : Filled} {r : ℕ} {o v : List ℕ} → x ≡ parse_standalone t n → Came buf told x.outcome (one t) x.set (λ k. k ∷ []) r o v → Says buf told (line_said t n buf) r o v
  unfolding line_said
  line_said_lem n f k = rw (← f) (set-said buf told refl refl k)

  pub merge_said_lem : (m n : ℕ) {x y z : Filled} {d e : Result (Unit {0}) Refusal} {h r : ℕ} {o v : List ℕ}
      → x ≡ parse_standalone t m → y ≡ parse_standalone t n → z ≡ merge_of (one t) x.set y.set
      → d ≡ or_else y.outcome z.outcome → e ≡ or_else x.outcome d → h ≡ refused_step x.outcome y.outcome z.outcome
      → Came buf told e (one t) z.set (λ k. h ∷ k ∷ []) r o v → Says buf told (merge_said t m n buf) r o v
  unfolding merge_said
  merge_said_lem m n {x} f g i p q s k = rw (← f, ← g, ← i, ← s) (set-said buf told (q ∙ ap (λ j. or_else x.outcome j) p) refl k)
