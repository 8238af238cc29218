-- The last byte of a line, and what stands behind its last `}{`.
-- Assumes nothing.
use mathlib.Core.Path.{◌≡◌, refl, sym, ◌∙◌, ap}
use mathlib.Core.Bool.{Bool, true, false, cond, ◌&&◌, and-false}
use mathlib.Core.List.{List, [], ◌∷◌}
use Prim.Native.Nat.{ℕ, suc, ◌+◌, ◌-◌, ◌<◌, ◌≤◌, zero-le}
use native.Mathlib.Omega.{arith}
use borrow.Author.Tests.{eq-eqb, ne_eqb}
use lib.Dec.{eqb}
use lib.ListN.{length, get_or, take, drop, length-drop}
use lib.Seq.{drop-cons, take_all}
use Rattle.base_bytes.specs.declared.Mode.TheVariants.{Loose}
use Rattle.block_grammar.specs.Computed.{read_payload, read_from}
use Rattle.block_tokens.specs.Shown.{accepted}
use Rattle.text_lines.specs.declared.Range.{Range}
use Rattle.text_lines.specs.Trim.{trim_range}
pub use Rattle.text_lines.proofs.Trim.{core_from, core_to, core_is}
use Rattle.text_checks.specs.Check.{is_text}
use Rattle.block_payloads.specs.Payloads.{ends_in_close, behind_from, behind_last, continues, is_continuation}

last_at : (a : ℕ) (s : List ℕ) → ends_in_close (a ∷ s) ≡ eqb (get_or (a ∷ s) (length s) 0) 125
unfolding ends_in_close
last_at a [] = refl
last_at a (b ∷ s) = last_at b s

pub ends : (l : List ℕ) → (length l ≡ 0 → ⊥) → ends_in_close l ≡ eqb (get_or l (length l - 1) 0) 125
ends [] h = absurd (h refl)
ends (a ∷ s) h = let z : suc (length s) - 1 ≡ length s = omega arith in rw z (last_at a s)

-- ---- the loop stands before the byte behind i - 1, and `best` stands behind the last `}{` before it
pub record Behinds (s : List ℕ) (best i : ℕ) : Type 0 where
  pub some : 1 ≤ i
  pub within : best ≤ length s
  pub rest : behind_from (drop best s) (drop (i - 1) s) ≡ behind_last s

pub start : (s : List ℕ) → Behinds s 0 1
unfolding behind_last
start s = record { some = omega arith; within = zero-le; rest = refl }

step : (s : List ℕ) (best i : ℕ) → 1 ≤ i → i < length s
    → behind_from (drop best s) (drop (i - 1) s) ≡ behind_from (cond (eqb (get_or s (i - 1) 0) 125 && eqb (get_or s i 0) 123) (drop (suc i) s) (drop best s)) (drop i s)
unfolding behind_from
step s best i h l =
    let z : suc (i - 1) ≡ i = omega arith in
    ap (behind_from (drop best s)) (drop-cons s (i - 1) 0 (omega arith) ∙ ap (λ (k : ℕ). get_or s (i - 1) 0 ∷ drop k s) z)
    ∙ ap (λ (r : List ℕ). behind_from (drop best s) (get_or s (i - 1) 0 ∷ r)) (drop-cons s i 0 l)
    ∙ ap (behind_from (cond (eqb (get_or s (i - 1) 0) 125 && eqb (get_or s i 0) 123) (drop (suc i) s) (drop best s))) (sym (drop-cons s i 0 l))

picks : (b : Bool) (s : List ℕ) (i best : ℕ) → cond b (drop i s) (drop best s) ≡ drop (cond b i best) s
picks true s i best = refl
picks false s i best = refl

within : (b : Bool) (i best n : ℕ) → i ≤ n → best ≤ n → cond b i best ≤ n
within true i best n h l = h
within false i best n h l = l

module _ {s : List ℕ} {best i : ℕ} (inv : Behinds s best i) where
  pub go : {r : ℕ} → i < length s → r ≡ cond (eqb (get_or s (i - 1) 0) 125 && eqb (get_or s (i - 1 + 1) 0) 123) (i - 1 + 2) best → Behinds s r (i + 1)
  go {r} l e =
      let h = inv.some in
      let z : i - 1 + 1 ≡ i = omega arith in
      let y : i - 1 + 2 ≡ suc i = omega arith in
      let w : i + 1 - 1 ≡ i = omega arith in
      let b = eqb (get_or s (i - 1) 0) 125 && eqb (get_or s i 0) 123 in
      let q : r ≡ cond b (suc i) best = rw (z, y) at e in
      record {
        some = omega arith;
        within = rw q (within b (suc i) best (length s) (omega arith) inv.within);
        rest = rw (w, q) (ap (λ (x : List ℕ). behind_from x (drop i s)) (sym (picks b s (suc i) best)) ∙ (sym (step s best i h l) ∙ inv.rest));
      }

  pub end : length s ≤ i → drop best s ≡ behind_last s
  unfolding behind_from
  end h = stop (drop (i - 1) s) (omega (arith, length-drop (i - 1) s)) ∙ inv.rest
    where
      stop : (r : List ℕ) → length r ≤ 1 → drop best s ≡ behind_from (drop best s) r
      stop [] k = refl
      stop (b ∷ []) k = rw (and-false (eqb b 125))
      stop (b ∷ (c ∷ r)) k = absurd (omega arith)

-- ---- each way to say whether a line continues a run
pub none : (l : List ℕ) → length l ≡ 0 → false ≡ continues l
unfolding ends_in_close continues behind_last behind_from read_payload read_from
none [] h = refl
none (a ∷ s) h = absurd (omega arith)

pub closes : (l : List ℕ) → (length l ≡ 0 → ⊥) → get_or l (length l - 1) 0 ≡ 125 → true ≡ continues l
unfolding continues
closes l h e = rw (ends l h, eq-eqb _ _ e)

pub payload : (l : List ℕ) {r : Bool} {from : ℕ} → (length l ≡ 0 → ⊥) → (get_or l (length l - 1) 0 ≡ 125 → ⊥) → from ≤ length l → drop from l ≡ behind_last l
    → r ≡ accepted (read_payload Loose 0 (take (length l - from) (drop from l))) → r ≡ continues l
unfolding continues
payload l {r} {from} h n k e q =
    let z : take (length l - from) (drop from l) ≡ behind_last l = take_all (length l - from) (drop from l) (omega (arith, length-drop from l)) ∙ e in
    rw (ends l h, ne_eqb _ _ n) (q ∙ ap (λ (x : List ℕ). accepted (read_payload Loose 0 x)) z)

-- ---- the trimmed line, as the code cuts it out
module _ (s : List ℕ) {r : Range} (is : r ≡ trim_range s) where
  pub no_text : is_text s ≡ false → false ≡ is_continuation s
  unfolding is_continuation
  no_text e = rw e

  pub cut_out : {b : Bool} → is_text s ≡ true → b ≡ continues (take (r.to - r.from) (drop r.from s)) → b ≡ is_continuation s
  unfolding is_continuation
  cut_out e q = rw e (q ∙ ap continues (core_is s is))
