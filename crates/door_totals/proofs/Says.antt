-- The numbers of a report, taken from lent memory and laid there.
-- Assumes nothing.
use Rattle.std.specs.Prelude.{Result}
use mathlib.Core.Path.{◌≡◌, refl, sym, ◌∙◌, ap}
use mathlib.Core.List.{List, [], ◌∷◌, ◌++◌}
use Prim.Native.Nat.{ℕ, zero, suc, min}
use native.Mathlib.Omega.{arith}
use lib.ListN.{length, set, take, drop}
use Rattle.base_refusals.specs.Numbers.{outcome_no}
use Rattle.text_checks.specs.Outcomes.{or_else, or_left}
use Rattle.set_writer.specs.Write.{wrote_paper, or_refused, wrote_of, content_after}
use Rattle.sheet_totals.specs.Totals.{add_totals}
use Rattle.sheet_totals.specs.declared.Totals.{Totals}
use Rattle.sheet_totals.specs.declared.Added.{Added}
use Rattle.sheet_tally.specs.Feeds.{feed_of}
use Rattle.sheet_numbers.specs.Text.{totals_text}
use Rattle.door_shared.specs.Tells.{told_in, len_of}
use Rattle.door_shared.proofs.Laws.{told_1}
use Rattle.door_totals.specs.Kept.{report_in, room_in, feed_kept, add_kept, text_kept}
use Rattle.base_refusals.specs.declared.Refusal.{Refusal}

-- ---- as many numbers as there is room for, copied in one go

pub told_copied : (n : ℕ) (buf xs : List ℕ) → n ≡ min (length xs) (length buf) → take n xs ++ drop n buf ≡ told_in buf xs
unfolding told_in
told_copied zero [] xs h = refl
told_copied zero (b ∷ buf) [] h = refl
told_copied zero (b ∷ buf) (x ∷ xs) h = absurd (omega arith)
told_copied (suc n) [] xs h = absurd (omega arith)
told_copied (suc n) (b ∷ buf) [] h = absurd (omega arith)
told_copied (suc n) (b ∷ buf) (x ∷ xs) h = ap (λ l. x ∷ l) (told_copied n buf xs (omega arith))

-- ---- the answers, made of what the parts promise

module _ (buf : List ℕ) {x : Totals} (e : x ≡ report_in buf) {p : Result (Unit {0}) Refusal} (f : p ≡ room_in buf) where
  pub add_said : (more : List ℕ) {y : Totals} {s : Added} {q room o : Result (Unit {0}) Refusal} {r : ℕ} {out : List ℕ} → y ≡ report_in more → s ≡ add_totals x y → q ≡ room_in more → room ≡ or_else p q → o ≡ or_else s.outcome room
      → r ≡ outcome_no o → out ≡ or_left o buf (told_in buf s.totals.numbers)
      → record { value : r ≡ outcome_no (add_kept buf more); totals_after : out ≡ or_left (add_kept buf more) buf (told_in buf (add_totals (report_in buf) (report_in more)).totals.numbers) }
  add_said more g h k l m n z =
      let a : _ ≡ add_totals (report_in buf) (report_in more) = h ∙ rw (e, g) in
      let b : _ ≡ add_kept buf more = m ∙ rw (a, l, f, k) in
      record { value = n ∙ ap outcome_no b; totals_after = z ∙ rw (b, a) }

  pub feed_said : (t : List ℕ) (cap : ℕ) {s : Added} {o : Result (Unit {0}) Refusal} {r : ℕ} {out i j : List ℕ} → s ≡ feed_of x t cap → i ≡ j → o ≡ or_else s.outcome p
      → r ≡ outcome_no o → out ≡ or_left o buf (told_in buf s.totals.numbers)
      → record { value : r ≡ outcome_no (feed_kept buf t cap); totals_after : out ≡ or_left (feed_kept buf t cap) buf (told_in buf (feed_of (report_in buf) t cap).totals.numbers); join_after : i ≡ j }
  feed_said t cap g h m n z =
      let a : _ ≡ feed_of (report_in buf) t cap = g ∙ rw e in
      let b : _ ≡ feed_kept buf t cap = m ∙ rw (a, f) in
      record { value = n ∙ ap outcome_no b; totals_after = z ∙ rw (b, a); join_after = h }

  pub text-said : (out told : List ℕ) {w : Result ℕ Refusal} {k r : ℕ} {o v : List ℕ} → w ≡ or_refused p (wrote_of (totals_text x.numbers) (length out)) → o ≡ or_left p out (content_after out (totals_text x.numbers))
      → k ≡ len_of w → v ≡ set told 0 k → r ≡ (wrote_paper w).number
      → record { value : r ≡ (wrote_paper (text_kept buf (length out))).number; out_after : o ≡ or_left (room_in buf) out (content_after out (totals_text (report_in buf).numbers)); told_after : v ≡ told_in told (len_of (text_kept buf (length out)) ∷ []) }
  text-said out told {w} h l m n z =
      let a : w ≡ text_kept buf (length out) = h ∙ rw (e, f) in
      record { value = z ∙ ap (λ y. (wrote_paper y).number) a; out_after = l ∙ rw (e, f); told_after = told_1 told (len_of (text_kept buf (length out))) (n ∙ ap (λ y. set told 0 y) (m ∙ ap len_of a)) }
