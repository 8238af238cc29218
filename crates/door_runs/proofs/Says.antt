-- Answers about refused runs, made of what the parts promise.
-- Assumes nothing.
use mathlib.Core.Path.{◌≡◌, ap, ◌∙◌}
use mathlib.Core.List.{List, [], ◌∷◌}
use Prim.Native.Nat.{ℕ}
use Rattle.run_refused.specs.Refused.{reply_paper, RunTold, handed_out}
use Rattle.run_refused.specs.declared.RefusedRun.{RefusedRun}
use Rattle.run_endings.specs.Endings.{ends_paper, Ended, ends_shown}
use Rattle.run_endings.specs.declared.EndsRun.{EndsRun}
use Rattle.door_shared.specs.Tells.{told_in}
use Rattle.door_runs.specs.Runs.{run_kind, run_lines, ends_kind, run_told, ends_told}

module _ (told : List ℕ) where
  pub run_told_lem : (R : RunTold) {x : RefusedRun} {v : List ℕ} {h k r : ℕ} {i j : List ℕ} → x ≡ handed_out R → i ≡ j → h ≡ run_kind x.answer → k ≡ run_lines x.answer
      → v ≡ told_in told (h ∷ k ∷ x.lookahead ∷ x.joined ∷ []) → r ≡ (reply_paper x.answer).number → (r ≡ (reply_paper R.answer).number) × ((i ≡ j) × (v ≡ told_in told (run_told R)))
  run_told_lem R {x} {v} {h} {k} {r} e b p q s n =
      let tells : ℕ → ℕ → RefusedRun → List ℕ = λ m l y. told_in told (m ∷ l ∷ y.lookahead ∷ y.joined ∷ []) in
      (n ∙ ap (λ y. (reply_paper y.answer).number) e, (b, s ∙ ap (λ m. tells m k x) p ∙ ap (λ l. tells (run_kind x.answer) l x) q ∙ ap (λ y. tells (run_kind y.answer) (run_lines y.answer) y) e))

  pub ends_told_lem : (R : Ended) {x : EndsRun} {v : List ℕ} {h r : ℕ} {i j : List ℕ} → x ≡ ends_shown R → i ≡ j → h ≡ ends_kind x.answer
      → v ≡ told_in told (h ∷ x.lookahead ∷ []) → r ≡ (ends_paper x.answer).number → (r ≡ (ends_paper R.answer).number) × ((i ≡ j) × (v ≡ told_in told (ends_told R)))
  ends_told_lem R {x} {v} {h} {r} e b p s n =
      (n ∙ ap (λ y. (ends_paper y.answer).number) e, (b, s ∙ ap (λ i. told_in told (i ∷ x.lookahead ∷ [])) p ∙ ap (λ y. told_in told (ends_kind y.answer ∷ y.lookahead ∷ [])) e))
