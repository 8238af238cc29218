-- A number is read exactly from the digits that it is written with.
-- Assumes nothing.
use Rattle.std.specs.Prelude.{Some}
use mathlib.Core.Path.{◌≡◌, refl, sym, ◌∙◌, ap}
use mathlib.Core.Bool.{Bool, true, false, cond}
use mathlib.Core.List.{List, [], ◌∷◌, ◌++◌, append_assoc, append-nil}
use Prim.Native.Nat.{ℕ, ◌+◌, ◌-◌, ◌*◌, ◌/◌, ◌%◌, ◌≤◌, ◌<◌}
use native.Mathlib.Nat.{div-add-mod, mod-lt}
use native.Mathlib.Omega.{arith}
use borrow.Author.Tests.{eqb-true, eqb-false, leb-true}
use lib.Dec.{eqb, leb}
use Rattle.base_bytes.specs.Bytes.{is_digit}
use Rattle.text_digits.specs.Decimal.{decimal}
use Rattle.text_digits.specs.Digits.{bounded, first_digit, grown, digits_step, digits_from, digits_of, read_out, number_in}
use Rattle.text_digits.specs.declared.Digits as state
use Rattle.text_digits.specs.declared.Digits.TheVariants.{NoDigit, Zero, Number, Bad}
use Rattle.text_digits.proofs.Steps.{digit_range}
use Rattle.text_numbers.proofs.Numbers.{decimal-one, decimal_more, number_read}
use Rattle.proved_valves.specs.Numbers.{IsNumber, ReadExactly}

-- a digit more behind the digits of n
behind : (n d : ℕ) → 1 ≤ n → d < 10 → decimal (n * 10 + d) ≡ decimal n ++ ((48 + d) ∷ [])
behind n d h l =
    let m : ℕ = n * 10 + d in
    let q : m / 10 ≡ n = omega (arith, div-add-mod m 10, mod-lt m {m = 10} (omega arith)) in
    let r : m % 10 ≡ d = omega (arith, div-add-mod m 10, mod-lt m {m = 10} (omega arith)) in
    decimal_more m (omega arith) ∙ rw (q, r)

-- ---- what is read stands there

-- what a state says of the bytes behind it
Means : ℕ → List ℕ → state.Digits → Type 0
Means most s NoDigit = s ≡ []
Means most s Zero = s ≡ decimal 0
Means most s (Number n) = (s ≡ decimal n) × ((1 ≤ n) × (n ≤ most))
Means most s Bad = Unit {0}

bounded-keeps : (most : ℕ) (s : List ℕ) (n : ℕ) → s ≡ decimal n → 1 ≤ n → Means most s (bounded most n)
unfolding bounded Means
bounded-keeps most s n e h = go (leb n most) refl
  where
    go : (b : Bool) → leb n most ≡ b → Means most s (cond b (Number n) Bad)
    go true q = (e, (h, leb-true n most q))
    go false q = tt

step_keeps : (most : ℕ) (s : List ℕ) (d : state.Digits) (b : ℕ) → Means most s d → Means most (s ++ (b ∷ [])) (digits_step most d b)
unfolding digits_step first_digit grown Means
step_keeps most s NoDigit b e = go (is_digit b) refl (eqb b 48) refl
  where
    go : (x : Bool) → is_digit b ≡ x → (y : Bool) → eqb b 48 ≡ y → Means most (s ++ (b ∷ [])) (cond x (cond y Zero (bounded most (b - 48))) Bad)
    go true p true q = rw (e, eqb-true b 48 q) (sym (decimal-one 0 (omega arith)))
    go true p false q =
        let r = digit_range b p in
        let k : 48 + (b - 48) ≡ b = omega arith in
        bounded-keeps most (s ++ (b ∷ [])) (b - 48) (rw e (ap (λ (x : ℕ). x ∷ []) (sym k)) ∙ sym (decimal-one (b - 48) (omega arith))) (omega (arith, eqb-false b 48 q))
    go false p y q = tt
step_keeps most s Zero b e = tt
step_keeps most s (Number n) b (e, (h, l)) = go (is_digit b) refl
  where
    go : (x : Bool) → is_digit b ≡ x → Means most (s ++ (b ∷ [])) (cond x (bounded most (n * 10 + (b - 48))) Bad)
    go true p =
        let r = digit_range b p in
        let k : 48 + (b - 48) ≡ b = omega arith in
        bounded-keeps most (s ++ (b ∷ [])) (n * 10 + (b - 48)) (ap (λ (l : List ℕ). l ++ (b ∷ [])) e ∙ (ap (λ (x : ℕ). decimal n ++ (x ∷ [])) (sym k) ∙ sym (behind n (b - 48) h (omega arith)))) (omega arith)
    go false p = tt
step_keeps most s Bad b e = tt

fold_keeps : (most : ℕ) (s : List ℕ) (d : state.Digits) (t : List ℕ) → Means most s d → Means most (s ++ t) (digits_from most d t)
unfolding digits_from
fold_keeps most s d [] e = rw append-nil e
fold_keeps most s d (b ∷ t) e = rw append_assoc at (fold_keeps most (s ++ (b ∷ [])) (digits_step most d b) t (step_keeps most s d b e))

-- ---- what is read is the rule's number, and each of the rule's numbers is read

pub read_is : {most n : ℕ} {s : List ℕ} → number_in most s ≡ Some n → IsNumber most s n
unfolding number_in digits_of Means
read_is {most} {n} {s} e = go (digits_from most NoDigit s) (fold_keeps most [] NoDigit s refl) e
  where
    go : (d : state.Digits) → Means most s d → read_out d ≡ Some n → IsNumber most s n
    go NoDigit m f = let g : ◌≡◌ {A = ℕ} 0 1 = cc in absurd (omega arith)
    go Zero m f = let g : 0 ≡ n = cc in record { written = m ∙ ap decimal g; within = omega arith }
    go (Number k) m f = let g : k ≡ n = cc in record { written = m.0 ∙ ap decimal g; within = omega (arith, m.1.1) }
    go Bad m f = let g : ◌≡◌ {A = ℕ} 0 1 = cc in absurd (omega arith)

pub is_read : {most n : ℕ} {s : List ℕ} → IsNumber most s n → number_in most s ≡ Some n
is_read {most} {n} h = rw h.written (number_read most n h.within)

-- so no two numbers are written alike
pub decimal_apart : (m n : ℕ) → decimal m ≡ decimal n → m ≡ n
decimal_apart m n e =
    let p : number_in (m + n) (decimal m) ≡ Some m = is_read (record { written = refl; within = omega arith }) in
    let q : number_in (m + n) (decimal m) ≡ Some n = is_read (record { written = e; within = omega arith }) in
    cc

pub read_exactly : ReadExactly
read_exactly most n s = (read_is, is_read)
