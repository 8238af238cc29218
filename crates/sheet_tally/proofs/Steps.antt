-- A try more: what is added to the numbers of a sheet.
-- Assumes nothing.
use Rattle.std.specs.Prelude.{Err, Ok, Result}
use mathlib.Core.Path.{◌≡◌, refl, sym, ◌∙◌, ap}
use mathlib.Core.Bool.{Bool, true, false, cond, not}
use mathlib.Core.List.{List, [], ◌∷◌, ◌++◌, append-nil}
use Prim.Native.Nat.{ℕ, ◌+◌, ◌≤◌}
use native.Mathlib.Nat.{add-zero}
use native.Mathlib.Omega.{arith}
use borrow.Author.Tests.{eq-eqb, ne_eqb, eqb-true}
use lib.Dec.{eqb, ltb}
use lib.ListN.{length, length-append}
use Rattle.base_lists.proofs.More.{contra}
use Rattle.base_refusals.specs.Numbers.{number_of, outcome_no}
use Rattle.base_refusals.specs.declared.Refusal.{Refusal}
use Rattle.base_refusals.proofs.Numbers.{number_among}
use Rattle.read_blocks.specs.Blocks.{lines_of, lookahead_of, block_of}
use Rattle.read_blocks.specs.declared.Block.{Block}
use Rattle.sheet_blocks.specs.Sheets.{Try, is_block, only_blocks}
use Rattle.sheet_verdicts.specs.Verdicts.{verdict_at}
use Rattle.sheet_totals.specs.Totals.{larger}
use Rattle.sheet_totals.specs.declared.Totals.{Totals}
use Rattle.sheet_tally.specs.Lists.{total, greatest_of, keep}
use Rattle.sheet_tally.specs.Counts.{blocks_by, printed, is_wrapped, classes_at, keys_at, joined_at}
use Rattle.sheet_tally.specs.Inner.{sheet_numbers, add_at, raised_to, with_run, with_printed, with_refused, with_verdict, with_tried}
use Rattle.sheet_tally.proofs.Lists.{total_more, greatest_more, keep_append, kept_more, only_append}

-- ---- the code's step, by what was read

module _ (b : Block) {j J : ℕ} (e : j ≡ J) (ns : List ℕ) {r : Totals} (s : r ≡ record { numbers = with_run j b.lookahead ns }) where
  pub tried_none : (v : Result (Unit {0}) Refusal) → b.lines ≡ 0 → r ≡ record { numbers = with_tried J b v ns }
  unfolding with_tried
  tried_none v n = s ∙ (rw (e, eq-eqb b.lines 0 n))

  module _ (n : b.lines ≡ 0 → ⊥) {v u : Result (Unit {0}) Refusal} (q : v ≡ u) {w : Totals} where
    pub tried-printed : v ≡ Ok tt → w ≡ record { numbers = with_printed b.lines b.set.nclass b.set.nkey r.numbers } → w ≡ record { numbers = with_tried J b u ns }
    unfolding with_tried
    tried-printed p k = k ∙ (rw (s, e, ← q, p, ne_eqb b.lines 0 n))

    pub tried_refused : {why : Refusal} → v ≡ Err why → w ≡ record { numbers = with_refused (number_of why) r.numbers } → w ≡ record { numbers = with_tried J b u ns }
    unfolding with_tried
    tried_refused p k = k ∙ (rw (s, e, ← q, p, ne_eqb b.lines 0 n))

-- ---- thirteen numbers, of one sheet that isn't refused

abbrev thirteen : (b w s6 s7 s10 c k j l g : ℕ) → List ℕ
thirteen b w s6 s7 s10 c k j l g = 1 ∷ b ∷ w ∷ 0 ∷ 0 ∷ s6 ∷ s7 ∷ s10 ∷ c ∷ k ∷ j ∷ l ∷ g ∷ []

module _ (b w s6 s7 s10 c k j l g : ℕ) (joined lookahead : ℕ) where
  run_list : with_run joined lookahead (thirteen b w s6 s7 s10 c k j l g) ≡ thirteen b w s6 s7 s10 c k (j + joined) (l + lookahead) g
  unfolding with_run add_at
  run_list = refl

  printed_list : (n classes keys : ℕ) → with_printed n classes keys (with_run joined lookahead (thirteen b w s6 s7 s10 c k j l g))
      ≡ thirteen (b + 1) (w + cond (ltb 1 n) 1 0) s6 s7 s10 (c + classes) (k + keys) (j + joined) (l + lookahead) (larger g n)
  unfolding with_printed with_run add_at raised_to larger
  printed_list n classes keys = go (ltb g n)
    where
      F : ℕ → List ℕ
      F = thirteen (b + 1) (w + cond (ltb 1 n) 1 0) s6 s7 s10 (c + classes) (k + keys) (j + joined) (l + lookahead)

      go : (y : Bool) → cond y (F n) (F g) ≡ F (cond y n g)
      go true = refl
      go false = refl

  refused_list : (n : ℕ) → with_refused n (with_run joined lookahead (thirteen b w s6 s7 s10 c k j l g))
      ≡ thirteen b w (s6 + cond (eqb n 6) 1 0) (s7 + cond (eqb n 7) 1 0) (s10 + cond (eqb n 10) 1 0) c k (j + joined) (l + lookahead) g
  unfolding with_refused with_run add_at
  refused_list n = go (eqb n 6) refl (eqb n 7) refl (eqb n 10) refl
    where
      F : ℕ → ℕ → ℕ → List ℕ
      F x y z = thirteen b w x y z c k (j + joined) (l + lookahead) g

      go : (x : Bool) → eqb n 6 ≡ x → (y : Bool) → eqb n 7 ≡ y → (z : Bool) → eqb n 10 ≡ z
          → cond x (F (s6 + 1) s7 s10) (cond y (F s6 (s7 + 1) s10) (cond z (F s6 s7 (s10 + 1)) (F s6 s7 s10))) ≡ F (s6 + cond x 1 0) (s7 + cond y 1 0) (s10 + cond z 1 0)
      go true p true q z r = absurd (omega (arith, eqb-true n 6 p, eqb-true n 7 q))
      go true p false q true r = absurd (omega (arith, eqb-true n 6 p, eqb-true n 10 r))
      go true p false q false r = rw (add-zero s7, add-zero s10)
      go false p true q true r = absurd (omega (arith, eqb-true n 7 q, eqb-true n 10 r))
      go false p true q false r = rw (add-zero s6, add-zero s10)
      go false p false q true r = rw (add-zero s6, add-zero s7)
      go false p false q false r = rw (add-zero s6, add-zero s7, add-zero s10)

-- ---- the numbers of the tries with that one

module _ (t : List ℕ) (x : Try) where
  none_of : (n : ℕ) → is_block x.found ≡ false → blocks_by n t (x ∷ []) ≡ []
  unfolding blocks_by only_blocks keep
  none_of n b = rw b

  one_of : (n : ℕ) {v : ℕ} → is_block x.found ≡ true → outcome_no (verdict_at t x) ≡ v → blocks_by n t (x ∷ []) ≡ cond (eqb v n) (x ∷ []) []
  unfolding blocks_by only_blocks keep
  one_of n b q = rw (b, q)

module _ (t : List ℕ) (xs : List Try) (x : Try) where
  abbrev more : List Try
  more = xs ++ (x ∷ [])

  by_more : (n : ℕ) → blocks_by n t more ≡ blocks_by n t xs ++ blocks_by n t (x ∷ [])
  unfolding blocks_by
  by_more n = ap (keep (λ y. eqb (outcome_no (verdict_at t y)) n)) (only_append xs (x ∷ [])) ∙ keep_append (λ y. eqb (outcome_no (verdict_at t y)) n) (only_blocks xs) (only_blocks (x ∷ []))

  none_more : (n : ℕ) → blocks_by n t (x ∷ []) ≡ [] → blocks_by n t more ≡ blocks_by n t xs
  none_more n e = by_more n ∙ ap (λ l. blocks_by n t xs ++ l) e ∙ append-nil (blocks_by n t xs)

  pub step_none : is_block x.found ≡ false → with_run (joined_at t x) (lookahead_of x.found) (sheet_numbers t xs) ≡ sheet_numbers t more
  unfolding sheet_numbers
  step_none b =
      run_list _ _ _ _ _ _ _ _ _ _ (joined_at t x) (lookahead_of x.found)
      ∙ (rw (none_more 0 (none_of t x 0 b), none_more 6 (none_of t x 6 b), none_more 7 (none_of t x 7 b), none_more 10 (none_of t x 10 b), total_more (joined_at t) xs x, total_more (λ y. lookahead_of y.found) xs x))

  module _ (b : is_block x.found ≡ true) where
    one_more : (n : ℕ) {v : ℕ} → outcome_no (verdict_at t x) ≡ v → length (blocks_by n t more) ≡ length (blocks_by n t xs) + cond (eqb v n) 1 0
    one_more n {v} q = ap length (by_more n ∙ ap (λ l. blocks_by n t xs ++ l) (one_of t x n b q)) ∙ length-append (blocks_by n t xs) (cond (eqb v n) (x ∷ []) []) ∙ ap (λ k. length (blocks_by n t xs) + k) (go (eqb v n))
      where
        go : (y : Bool) → length (cond y (x ∷ []) []) ≡ cond y 1 0
        go true = refl
        go false = refl

    pub step_printed : verdict_at t x ≡ Ok tt
        → with_printed (lines_of x.found) (classes_at t x) (keys_at t x) (with_run (joined_at t x) (lookahead_of x.found) (sheet_numbers t xs)) ≡ sheet_numbers t more
    unfolding sheet_numbers
    step_printed p =
        printed_list _ _ _ _ _ _ _ _ _ _ (joined_at t x) (lookahead_of x.found) (lines_of x.found) (classes_at t x) (keys_at t x)
        ∙ (rw (is, other 6 refl, other 7 refl, other 10 refl, length-append, kept_more is_wrapped (printed t xs) x, total_more (classes_at t) (printed t xs) x, total_more (keys_at t) (printed t xs) x, greatest_more (λ y. lines_of y.found) (printed t xs) x, total_more (joined_at t) xs x, total_more (λ y. lookahead_of y.found) xs x))
      where
        is : blocks_by 0 t more ≡ blocks_by 0 t xs ++ (x ∷ [])
        is = by_more 0 ∙ ap (λ l. blocks_by 0 t xs ++ l) (one_of t x 0 b (ap outcome_no p))

        other : (n : ℕ) → eqb 0 n ≡ false → blocks_by n t more ≡ blocks_by n t xs
        other n e = none_more n (one_of t x n b (ap outcome_no p) ∙ (rw e))

    pub step_refused : {why : Refusal} → verdict_at t x ≡ Err why
        → with_refused (number_of why) (with_run (joined_at t x) (lookahead_of x.found) (sheet_numbers t xs)) ≡ sheet_numbers t more
    unfolding sheet_numbers
    step_refused {why} p =
        refused_list _ _ _ _ _ _ _ _ _ _ (joined_at t x) (lookahead_of x.found) (number_of why)
        ∙ (rw (same, one_more 6 (ap outcome_no p), one_more 7 (ap outcome_no p), one_more 10 (ap outcome_no p), total_more (joined_at t) xs x, total_more (λ y. lookahead_of y.found) xs x))
      where
        same : blocks_by 0 t more ≡ blocks_by 0 t xs
        same = none_more 0 (one_of t x 0 b (ap outcome_no p) ∙ (rw (ne_eqb (number_of why) 0 (λ z. absurd (omega (arith, z, number_among why))))))

-- what was read of a try, counted
pub stepped : (t : List ℕ) (xs : List Try) (x : Try) → is_block x.found ≡ not (eqb (lines_of x.found) 0)
    → with_tried (joined_at t x) (block_of t x.at x.found) (verdict_at t x) (sheet_numbers t xs) ≡ sheet_numbers t (xs ++ (x ∷ []))
unfolding with_tried block_of
stepped t xs x e = go (eqb (lines_of x.found) 0) e (verdict_at t x) refl
  where
    N : List ℕ
    N = with_run (joined_at t x) (lookahead_of x.found) (sheet_numbers t xs)

    go : (y : Bool) → is_block x.found ≡ not y → (v : Result (Unit {0}) Refusal) → verdict_at t x ≡ v
        → cond y N (with_verdict (lines_of x.found) (classes_at t x) (keys_at t x) v N) ≡ sheet_numbers t (xs ++ (x ∷ []))
    go true b v q = step_none t xs x b
    go false b (Ok _) q = step_printed t xs x b q
    go false b (Err why) q = step_refused t xs x b q
