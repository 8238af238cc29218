-- What the loops over pieces of a text keep: tests of bytes as numbers, ASCII passed, and bytes judged by those before them.
-- Assumes nothing.
use mathlib.Core.Path.{◌≡◌, refl, sym, ◌∙◌}
use mathlib.Core.Bool.{Bool, true, false, not, cond, xor, ◌&&◌, ◌||◌}
use mathlib.Core.List.{List}
use Prim.Native.Nat.{ℕ, zero, suc, ◌+◌, ◌-◌, ◌<◌, ◌≤◌, zero-le}
use native.Mathlib.Nat.{add-zero}
use native.Mathlib.Omega.{arith}
use lib.Bits.{bit_or, bit_and, bit_xor, or_zero_l, or_add_and, and_le_l, and_le_r}
use lib.Dec.{leb, eqb}
use lib.ListN.{length, get_or}
use borrow.Author.Tests.{leb-true, leb-false, eqb-true, eqb-false, ne_eqb, lt-leb, not-true, not-false}
use Rattle.base_bytes.specs.Bytes.{is_tail, within}
use Rattle.text_utf8.specs.Computed.{is_utf8}
use Rattle.text_utf8.specs.Inner.{Tells, Lows, Ascii, Judged, Fits, is_never, goes_on, is_low, is_high, is_wrong, wrong_at, goes_on_at, padded}
use Rattle.text_utf8.proofs.Neighbours.{one_wrong, none_wrong, neither}

-- ---- tests as numbers
pub yes : {b : Bool} → b ≡ true → Tells 1 b
yes e = record { is = rw e }

pub no_test : {b : Bool} → b ≡ false → Tells 0 b
no_test e = record { is = rw e }

module _ {m n : ℕ} {x y : Bool} (p : Tells m x) (q : Tells n y) where
  pub or : Tells (bit_or m n) (x || y)
  or = record { is = rw (p.is, q.is) (at x y) }
    where
      at : (x y : Bool) → bit_or (cond x 1 0) (cond y 1 0) ≡ cond (x || y) 1 0
      at true true = refl
      at true false = refl
      at false true = refl
      at false false = refl

  pub and : Tells (bit_and m n) (x && y)
  and = record { is = rw (p.is, q.is) (at x y) }
    where
      at : (x y : Bool) → bit_and (cond x 1 0) (cond y 1 0) ≡ cond (x && y) 1 0
      at true true = refl
      at true false = refl
      at false true = refl
      at false false = refl

  pub unlike : Tells (bit_xor m n) (xor x y)
  unfolding xor
  unlike = record { is = rw (p.is, q.is) (at x y) }
    where
      at : (x y : Bool) → bit_xor (cond x 1 0) (cond y 1 0) ≡ cond (xor x y) 1 0
      at true true = refl
      at true false = refl
      at false true = refl
      at false false = refl

pub told_no : {m : ℕ} {b : Bool} → Tells m b → m ≡ 0 → b ≡ false
told_no {b = true} p e = absurd (omega (arith, p.is))
told_no {b = false} p e = refl

pub told_yes : {m : ℕ} {b : Bool} → Tells m b → 0 < m → b ≡ true
told_yes {b = true} p h = refl
told_yes {b = false} p h = absurd (omega (arith, p.is))

-- a test of whether the number is 0
told_not : {m : ℕ} {b : Bool} → Tells m b → eqb m 0 ≡ not b
told_not {b = true} p = rw p.is
told_not {b = false} p = rw p.is

-- what `|` gives is 0 where both are
none_of : (m n : ℕ) → bit_or m n ≡ 0 → (m ≡ 0) × (n ≡ 0)
none_of m n e = let p = or_add_and m n in let l = and_le_l m n in let r = and_le_r m n in (omega arith, omega arith)

one_of : (m n : ℕ) → 0 < bit_or m n → m ≡ 0 → 0 < n
one_of m n h e = let p = or_add_and m n in omega arith

-- at each place before k + 1, where before k and at it
each : {P : ℕ → Type 0} {i k : ℕ} → ((j : ℕ) → i ≤ j → j < k → P j) → P k → (j : ℕ) → i ≤ j → j < k + 1 → P j
each {P} {i} {k} before here j h l = at (eqb j k) refl
  where
    at : (b : Bool) → eqb j k ≡ b → P j
    at true e = let z = eqb-true j k e in rw z here
    at false e = let z = eqb-false j k e in before j h (omega arith)

-- ---- the loop that looks for other bytes than ASCII
pub lows_start : (s : List ℕ) (i : ℕ) → Lows s i i 0
lows_start s i = record { low = λ e k h l. absurd (omega arith) }

pub lows_go : {s : List ℕ} {i k m n : ℕ} → Lows s i k m → Tells n (leb 0x80 (get_or s k 0)) → Lows s i (k + 1) (bit_or m n)
lows_go {s} {i} {k} {m} {n} inv t =
    record { low = λ e. let z = none_of m n e in each {P = λ j. get_or s j 0 ≤ 0x7F} (inv.low z.0) (let y = leb-false 0x80 (get_or s k 0) (told_no t z.1) in omega arith) }

pub lows_end : {s : List ℕ} {i m k e : ℕ} → Lows s i k m → e ≤ k → Lows s i e m
lows_end inv h = record { low = λ z j a l. inv.low z j a (omega arith) }

-- ---- ASCII, piece by piece
pub ascii_start : (s : List ℕ) (i : ℕ) → i ≤ length s → Ascii s i i
ascii_start s i h = record { onward = omega arith; inside = h; low = λ k a l. absurd (omega arith) }

pub ascii_of : {s : List ℕ} {i k e m : ℕ} → Lows s i e m → m ≡ 0 → i ≤ k → k ≤ e → e ≤ length s → Ascii s k e
ascii_of p z o l h = record { onward = l; inside = h; low = λ j a b. p.low z j (omega arith) b }

-- the same, by another name of the end
pub ascii_to : {s : List ℕ} {i k e : ℕ} → Ascii s i k → e ≡ k → Ascii s i e
ascii_to p e = rw e p

pub ascii_then : {s : List ℕ} {i k e : ℕ} → Ascii s i k → Ascii s k e → Ascii s i e
ascii_then {s} {i} {k} {e} p q = record { onward = omega (arith, p.onward, q.onward); inside = q.inside; low = λ j a l. at j a l (leb k j) refl }
  where
    at : (j : ℕ) → i ≤ j → j < e → (b : Bool) → leb k j ≡ b → get_or s j 0 ≤ 0x7F
    at j a l true h = q.low j (leb-true k j h) l
    at j a l false h = p.low j a (leb-false k j h)

same_place : (i : ℕ) → i ≤ i
same_place i = omega arith

-- a part, the blocks behind it, and the parts behind these
pub ascii_all : {s : List ℕ} {i e m j k : ℕ} → Lows s i e m → m ≡ 0 → i ≤ e → Ascii s e j → Ascii s j k → Ascii s i k
ascii_all {s} {i} p z o a b = ascii_then (ascii_then (ascii_of p z (same_place i) o (omega (arith, a.onward, a.inside))) a) b

-- ---- the loop that judges bytes by those before them
pub far : (s : List ℕ) (k : ℕ) {n : ℕ} → 3 ≤ k → Tells n (is_wrong (get_or s (k - 3) 0) (get_or s (k - 2) 0) (get_or s (k - 1) 0) (get_or s k 0)) → Tells n (wrong_at s k)
unfolding wrong_at
far s zero h t = absurd (omega arith)
far s (suc zero) h t = absurd (omega arith)
far s (suc (suc zero)) h t = absurd (omega arith)
far s (suc (suc (suc k))) h t =
    let x : suc (suc (suc k)) - 3 ≡ k = omega arith in
    let y : suc (suc (suc k)) - 2 ≡ suc k = omega arith in
    let z : suc (suc (suc k)) - 1 ≡ suc (suc k) = omega arith in
    rw (x, y, z) at t

pub whole_at : (s : List ℕ) (k : ℕ) {n : ℕ} → 3 ≤ k → Tells n (goes_on (get_or s (k - 3) 0) (get_or s (k - 2) 0) (get_or s (k - 1) 0)) → eqb n 0 ≡ not (goes_on_at s k)
unfolding goes_on_at
whole_at s zero h t = absurd (omega arith)
whole_at s (suc zero) h t = absurd (omega arith)
whole_at s (suc (suc zero)) h t = absurd (omega arith)
whole_at s (suc (suc (suc k))) h t =
    let x : suc (suc (suc k)) - 3 ≡ k = omega arith in
    let y : suc (suc (suc k)) - 2 ≡ suc k = omega arith in
    let z : suc (suc (suc k)) - 1 ≡ suc (suc k) = omega arith in
    rw (x, y, z) at (told_not t)

pub judged-start : (s : List ℕ) (i : ℕ) → Judged s i i 0
judged-start s i = record { right = λ e k h l. absurd (omega arith); wrong = λ h. absurd (omega arith) }

pub judged_go : {s : List ℕ} {i k m n : ℕ} → Judged s i k m → k < length s → Tells n (wrong_at s k) → Judged s i (k + 1) (bit_or m n)
judged_go {s} {i} {k} {m} {n} inv h t = record { right = λ e. let z = none_of m n e in each {P = λ j. wrong_at s j ≡ false} (inv.right z.0) (told_no t z.1); wrong = λ l. at l (eqb m 0) refl }
  where
    at : 0 < bit_or m n → (b : Bool) → eqb m 0 ≡ b → is_utf8 s ≡ false
    at l true e = one_wrong s k h (told_yes t (one_of m n l (eqb-true m 0 e)))
    at l false e = let z = eqb-false m 0 e in inv.wrong (omega arith)

pub judged_end : {s : List ℕ} {i m k e : ℕ} → Judged s i k m → e ≤ k → Judged s i e m
judged_end inv h = record { right = λ z j a l. inv.right z j a (omega arith); wrong = inv.wrong }

pub judged_fails : {s : List ℕ} {i e m : ℕ} → Judged s i e m → (m ≡ 0 → ⊥) → false ≡ is_utf8 s
judged_fails {s} {i} {e} {m} p h = sym (p.wrong (at (eqb m 0) refl))
  where
    at : (b : Bool) → eqb m 0 ≡ b → 0 < m
    at true z = absurd (h (eqb-true m 0 z))
    at false z = let y = eqb-false m 0 z in omega arith

pub judged_three : {s : List ℕ} {l m n : ℕ} → 3 ≤ length s → Tells l (is_wrong 0 0 0 (get_or s 0 0)) → Tells m (is_wrong 0 0 (get_or s 0 0) (get_or s 1 0))
    → Tells n (is_wrong 0 (get_or s 0 0) (get_or s 1 0) (get_or s 2 0)) → Judged s 0 3 (bit_or (bit_or l m) n)
unfolding wrong_at
judged_three {s} {l} h x y z = judged_go (judged_go (rw (or_zero_l l) at (judged_go (judged-start s 0) (omega arith) x)) (omega arith) y) (omega arith) z

-- ---- no byte before k is wrong
pub fits_on : {s : List ℕ} {k i e m : ℕ} → Fits s k → Judged s i e m → m ≡ 0 → i ≤ k → e ≤ length s → Fits s e
fits_on {s} {k} {i} {e} p q z o h = record { inside = h; right = λ j l. at j l (leb k j) refl }
  where
    at : (j : ℕ) → j < e → (b : Bool) → leb k j ≡ b → wrong_at s j ≡ false
    at j l true b = let y = leb-true k j b in q.right z j (omega arith) l
    at j l false b = p.right j (leb-false k j b)

pub fits-start : (s : List ℕ) → Fits s 0
fits-start s = record { inside = zero-le; right = λ j l. absurd (omega arith) }

-- ---- a byte of ASCII, behind whole characters and behind one that goes on
module _ (s : List ℕ) (k : ℕ) (h : get_or s k 0 ≤ 0x7F) where
  ascii_right : goes_on_at s k ≡ false → (wrong_at s k ≡ false) × (goes_on_at s (suc k) ≡ false)
  unfolding wrong_at goes_on_at is_wrong goes_on is_never is_tail within is_low is_high xor
  ascii_right e =
      let t = padded s in
      let d = get_or s k 0 in
      let c = get_or t (suc (suc k)) 0 in
      let b = get_or t (suc k) 0 in
      let p = neither (leb 0xC0 c || leb 0xE0 b) (leb 0xF0 (get_or t k 0)) e in
      let q = neither (leb 0xC0 c) (leb 0xE0 b) p.0 in
      let x = leb-false 0xC0 c q.0 in
      let y = leb-false 0xE0 b q.1 in (
        rw (
          lt-leb 0xF5 d (omega arith),
          ne_eqb 0xC0 d (λ z. omega arith),
          ne_eqb 0xC1 d (λ z. omega arith),
          q.0,
          q.1,
          p.1,
          lt-leb 0x80 d (omega arith),
          ne_eqb 0xE0 c (λ z. omega arith),
          ne_eqb 0xF0 c (λ z. omega arith),
          ne_eqb 0xED c (λ z. omega arith),
          ne_eqb 0xF4 c (λ z. omega arith),
        ),
        rw (lt-leb 0xC0 d (omega arith), lt-leb 0xE0 c (omega arith), lt-leb 0xF0 b (omega arith)),
      )

  ascii_wrong : goes_on_at s k ≡ true → wrong_at s k ≡ true
  unfolding wrong_at goes_on_at is_wrong is_never is_tail within xor
  ascii_wrong e = let d = get_or s k 0 in rw (e, lt-leb 0xF5 d (omega arith), ne_eqb 0xC0 d (λ z. omega arith), ne_eqb 0xC1 d (λ z. omega arith), lt-leb 0x80 d (omega arith))

-- n bytes of ASCII
run : (n : ℕ) (s : List ℕ) (k : ℕ) → Fits s k → goes_on_at s k ≡ false → k + n ≤ length s → ((j : ℕ) → k ≤ j → j < k + n → get_or s j 0 ≤ 0x7F) → Fits s (k + n) × (goes_on_at s (k + n) ≡ false)
run zero s k p e h low = rw add-zero (p, e)
run (suc n) s k p e h low =
    let z : suc k + n ≡ k + suc n = omega arith in
    let q = ascii_right s k (low k (omega arith) (omega arith)) e in
    rw z at (run n s (suc k) (record { inside = omega arith; right = λ j l. each {P = λ j. wrong_at s j ≡ false} {i = 0} (λ j a l. p.right j l) q.0 j zero-le (omega arith) }) q.1 (omega arith) (λ j a l. low j (omega arith) (omega arith)))

-- the test of `whole`, passed and not
pub is_whole : {g r : Bool} → r ≡ not g → not r ≡ false → g ≡ false
is_whole {g} {r} e h = not-true g (sym e ∙ not-false r h)

pub is_open : {g r : Bool} → r ≡ not g → not r ≡ true → g ≡ true
is_open {g} {r} e h = not-false g (sym e ∙ not-true r h)

module _ {s : List ℕ} {k : ℕ} (p : Fits s k) where
  pub fits_ascii : {e : ℕ} → goes_on_at s k ≡ false → Ascii s k e → Fits s e
  fits_ascii {e} o a = let z : k + (e - k) ≡ e = omega (arith, a.onward) in rw z at (run (e - k) s k p o (omega (arith, a.onward, a.inside)) (λ j x l. a.low j x (omega arith))).0

  pub open_ascii : {e : ℕ} → goes_on_at s k ≡ true → Ascii s k e → k < e → is_utf8 s ≡ false
  open_ascii o a h = one_wrong s k (omega (arith, a.inside)) (ascii_wrong s k (a.low k (omega arith) h) o)

  -- the end
  pub fits_end : k ≡ length s → not (goes_on_at s k) ≡ is_utf8 s
  fits_end e = rw e (sym (none_wrong s (λ j l. p.right j (omega arith))))

-- a text begins with ASCII
pub fits_first : {s : List ℕ} {e : ℕ} → Ascii s 0 e → Fits s e
unfolding goes_on_at goes_on
fits_first {s} a = fits_ascii (fits-start s) refl a

pub judged_ascii : {s : List ℕ} {e m : ℕ} → Lows s 0 e m → m ≡ 0 → e ≤ length s → Judged s 0 e 0
judged_ascii p z h = let f = fits_first (ascii_of p z zero-le zero-le h) in record { right = λ e j a l. f.right j l; wrong = λ l. absurd (omega arith) }

-- only ASCII follows
pub ascii_end : {s : List ℕ} {k : ℕ} → Fits s k → Ascii s k (length s) → not (goes_on_at s k) ≡ is_utf8 s
ascii_end {s} {k} p a = at (goes_on_at s k) refl (eqb k (length s)) refl
  where
    at : (b : Bool) → goes_on_at s k ≡ b → (d : Bool) → eqb k (length s) ≡ d → not (goes_on_at s k) ≡ is_utf8 s
    at b e true d = fits_end p (eqb-true k (length s) d)
    at true e false d = let z = eqb-false k (length s) d in rw e (sym (open_ascii p e a (omega (arith, a.onward))))
    at false e false d =
        let z : k + (length s - k) ≡ length s = omega (arith, p.inside) in
        let r = rw z at (run (length s - k) s k p e (omega (arith, p.inside)) (λ j x l. a.low j x (omega (arith, p.inside)))) in
        rw e (sym (sym (fits_end r.0 refl) ∙ rw r.1))
