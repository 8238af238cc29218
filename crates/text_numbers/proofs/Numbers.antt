-- How a number's digits grow, and that they are read as that number.
-- Assumes nothing.
use Rattle.std.specs.Prelude.{Some}
use mathlib.Core.Path.{◌≡◌, refl, sym, ◌∙◌, ap}
use mathlib.Core.Bool.{Bool, true, false}
use mathlib.Core.List.{List, [], ◌∷◌, ◌++◌, foldl, foldl-append}
use Prim.Native.Nat.{ℕ, zero, suc, ◌+◌, ◌-◌, ◌*◌, ◌/◌, ◌%◌, ◌≤◌, ◌<◌}
use native.Mathlib.Nat.{div-add-mod, mod-lt}
use native.Mathlib.Omega.{arith}
use borrow.Author.Tests.{ltb-true, ltb-false, lt-ltb, le-leb, ne_eqb}
use lib.Dec.{ltb}
use Rattle.base_lists.specs.Lists.{all}
use Rattle.base_lists.proofs.Scan.{all_append}
use Rattle.base_bytes.specs.Bytes.{is_digit, within}
use Rattle.text_digits.specs.Decimal.{places_in, places, decimal}
use Rattle.text_digits.specs.Digits.{first_digit, grown, digits_step, digits_from, digits_of, read_out, number_in}
use Rattle.text_digits.specs.declared.Digits as state
use Rattle.text_digits.specs.declared.Digits.TheVariants.{NoDigit, Zero, Number}
use Rattle.text_digits.proofs.Decimals.{fewest, fewest_is, more}
use Rattle.text_digits.proofs.Steps.{bounded_in}

-- ---- how a decimal grows

pub decimal-one : (n : ℕ) → n < 10 → decimal n ≡ (48 + n) ∷ []
unfolding decimal places places_in
decimal-one n h =
    let m : n % 10 ≡ n = omega (arith, div-add-mod n 10, mod-lt n {m = 10} (omega arith)) in
    rw (one n, m, lt-ltb n 10 h)
  where
    one : (k : ℕ) → places_in k n ≡ 1
    one zero = refl
    one (suc k) = rw (lt-ltb n 10 h)

pub decimal_more : (n : ℕ) → 10 ≤ n → decimal n ≡ decimal (n / 10) ++ ((48 + n % 10) ∷ [])
unfolding decimal
decimal_more n h =
    let p : suc (places (n / 10)) ≡ places n = fewest_is n (suc (places (n / 10))) (more n (places (n / 10)) h (fewest (n / 10))) in
    rw (← p, lt-ltb (n % 10) 10 (mod-lt n {m = 10} (omega arith)))

-- ---- what stands there is read

abbrev state_of : ℕ → state.Digits
state_of zero = Zero
state_of (suc n) = Number (suc n)

digit_yes : (d : ℕ) → d < 10 → is_digit (48 + d) ≡ true
unfolding is_digit within
digit_yes d h = rw (le-leb 48 (48 + d) (omega arith), le-leb (48 + d) 57 (omega arith))

begins : (most n : ℕ) → n < 10 → n ≤ most → first_digit most (48 + n) ≡ state_of n
unfolding first_digit is_digit within
begins most zero h l = refl
begins most (suc n) h l =
    let e : 48 + suc n - 48 ≡ suc n = omega arith in
    rw (digit_yes (suc n) h, ne_eqb (48 + suc n) 48 (λ q. omega arith), e) (sym (bounded_in most (suc n) l))

grows : (most n d : ℕ) → d < 10 → n * 10 + d ≤ most → grown most n (48 + d) ≡ Number (n * 10 + d)
unfolding grown
grows most n d h l =
    let e : 48 + d - 48 ≡ d = omega arith in
    rw (digit_yes d h, e) (sym (bounded_in most (n * 10 + d) l))

state_of_some : (n : ℕ) → 1 ≤ n → state_of n ≡ Number n
state_of_some zero h = absurd (omega arith)
state_of_some (suc n) h = refl

reads : (most left n : ℕ) → n ≤ left → n ≤ most → digits_of most (decimal n) ≡ state_of n
unfolding digits_of digits_from digits_step
reads most zero n h l = rw (decimal-one n (omega arith)) (begins most n (omega arith) l)
reads most (suc left) n h l = go (ltb n 10) refl (reads most left (n / 10))
  where
    go : (x : Bool) → ltb n 10 ≡ x → (n / 10 ≤ left → n / 10 ≤ most → foldl (digits_step most) NoDigit (decimal (n / 10)) ≡ state_of (n / 10)) → foldl (digits_step most) NoDigit (decimal n) ≡ state_of n
    go true q ih = rw (decimal-one n (ltb-true n 10 q)) (begins most n (ltb-true n 10 q) l)
    go false q ih =
        let f : 10 ≤ n = ltb-false n 10 q in
        let r : n % 10 < 10 = mod-lt n {m = 10} (omega arith) in
        let m : n / 10 * 10 + n % 10 ≡ n = omega (arith, div-add-mod n 10) in
        rw (decimal_more n f, foldl-append, ih (omega (arith, div-add-mod n 10)) (omega (arith, div-add-mod n 10)), state_of_some (n / 10) (omega (arith, div-add-mod n 10)), state_of_some n (omega arith))
        (grows most (n / 10) (n % 10) r (omega arith) ∙ ap Number m)

number_state_of : (n : ℕ) → read_out (state_of n) ≡ Some n
number_state_of zero = refl
number_state_of (suc n) = refl

-- the digits that a number is written with are read as that number
pub number_read : (most n : ℕ) → n ≤ most → number_in most (decimal n) ≡ Some n
unfolding number_in
number_read most n h = ap read_out (reads most n n (omega arith) h) ∙ number_state_of n

-- ---- every byte is a digit

digits_in : (left n : ℕ) → n ≤ left → all is_digit (decimal n) ≡ true
unfolding all
digits_in zero n h = rw (decimal-one n (omega arith), digit_yes n (omega arith))
digits_in (suc left) n h = go (ltb n 10) refl (digits_in left (n / 10))
  where
    go : (x : Bool) → ltb n 10 ≡ x → (n / 10 ≤ left → all is_digit (decimal (n / 10)) ≡ true) → all is_digit (decimal n) ≡ true
    go true q ih = rw (decimal-one n (ltb-true n 10 q), digit_yes n (ltb-true n 10 q))
    go false q ih =
        rw (decimal_more n (ltb-false n 10 q))
        (all_append is_digit (decimal (n / 10)) ((48 + n % 10) ∷ []) (ih (omega (arith, ltb-false n 10 q, div-add-mod n 10))) (rw (digit_yes (n % 10) (mod-lt n {m = 10} (omega arith)))))

pub all_digits : (n : ℕ) → all is_digit (decimal n) ≡ true
all_digits n = digits_in n n (omega arith)
