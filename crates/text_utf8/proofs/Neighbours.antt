-- A text is well-formed UTF-8 where no byte is wrong behind the three before it, and no character goes on behind the last.
-- Assumes nothing.
use mathlib.Core.Path.{◌≡◌, refl, sym, ◌∙◌}
use mathlib.Core.Bool.{Bool, true, false, not, cond, xor, ◌&&◌, ◌||◌, true≢false, or-true}
use mathlib.Core.List.{List, [], ◌∷◌}
use Prim.Native.Nat.{ℕ, zero, suc, ◌-◌, ◌<◌, ◌≤◌}
use native.Mathlib.Nat.{le_of_suc-le-suc, not-suc-le-zero}
use native.Mathlib.Omega.{arith}
use lib.Dec.{leb, eqb}
use lib.ListN.{length, get_or}
use borrow.Author.Tests.{leb-true, leb-false, not-false, eqb-true, ne_eqb, le-leb, lt-leb}
use Rattle.base_lists.proofs.Scan.{both}
use Rattle.base_lists.proofs.Steady.{agree, steady, values}
use Rattle.base_bytes.specs.Bytes.{is_tail, within}
use Rattle.text_utf8.specs.Computed.{Want, Follows, is_utf8, octets_from, lead_of, after_of, want, go_on_char}
use Rattle.text_utf8.specs.Inner.{is_never, goes_on, is_low, is_high, is_wrong, wrong_at, goes_on_at}
use Rattle.text_utf8.proofs.Laws.{no_lead_above}

-- ---- what is wanted behind the bytes a, b, c, whatever they are

-- how many bytes are owed behind b and c, where one is, but for that one
still : ℕ → ℕ → ℕ
still b c = cond (leb 0xF0 c) 2 (cond (leb 0xE0 c || leb 0xF0 b) 1 0)

abbrev owed_of : ℕ → ℕ → ℕ → ℕ
owed_of a b c = cond (goes_on a b c) (suc (still b c)) 0

-- the limits of the byte behind c
abbrev lo_in : Follows → ℕ
lo_in Follows.bad = 0x80
lo_in (Follows.go w) = w.lo

abbrev hi_in : Follows → ℕ
hi_in Follows.bad = 0xBF
hi_in (Follows.go w) = w.hi

abbrev lo_of : ℕ → ℕ
lo_of c = lo_in (lead_of c)

abbrev hi_of : ℕ → ℕ
hi_of c = hi_in (lead_of c)

abbrev want_of : ℕ → ℕ → ℕ → Want
want_of a b c = record { owed = owed_of a b c; lo = lo_of c; hi = hi_of c }

-- ---- a character goes on: d is within the limits
xor_true : (b : Bool) → xor true b ≡ not b
unfolding xor
xor_true true = refl
xor_true false = refl

pub neither : (x y : Bool) → (x || y) ≡ false → (x ≡ false) × (y ≡ false)
neither true y e = absurd (true≢false e)
neither false y e = (refl, e)

-- a test of what is asked behind a byte holds of all, where it holds of those that begin a character, and where nothing is asked
of_leads : (f : ℕ → Follows → Bool) → values (λ c. f c (lead_of c)) 0xF5 0 ≡ values (λ c. true) 0xF5 0 → ((c : ℕ) → 0xF4 < c → f c Follows.bad ≡ true) → (c : ℕ) → f c (lead_of c) ≡ true
of_leads f e more c = at (leb 0xF5 c) refl
  where
    at : (b : Bool) → leb 0xF5 c ≡ b → f c (lead_of c) ≡ true
    at true h = let l = leb-true 0xF5 c h in rw (no_lead_above c (omega arith)) (more c (omega arith))
    at false h = agree (λ c. f c (lead_of c)) (λ c. true) 0xF5 e c (leb-false 0xF5 c h)

within_above : (c d : ℕ) → 0xF5 ≤ d → within (lo_of c) (hi_of c) d ≡ false
unfolding within lead_of
within_above c d h =
    let p = both (leb (lo_of c) 0xBF) (leb (hi_of c) 0xBF) (of_leads (λ c l. leb (lo_in l) 0xBF && leb (hi_in l) 0xBF) refl (λ c l. refl) c) in
    let l = leb-true (lo_of c) 0xBF p.0 in
    let u = leb-true (hi_of c) 0xBF p.1 in
    rw (le-leb (lo_of c) d (omega arith), lt-leb d (hi_of c) (omega arith))

-- but for four bytes, the next is any that goes on a character
plain : (c : ℕ) → eqb 0xE0 c ≡ false → eqb 0xF0 c ≡ false → eqb 0xED c ≡ false → eqb 0xF4 c ≡ false → (lo_of c ≡ 0x80) × (hi_of c ≡ 0xBF)
unfolding lead_of
plain c e p q r =
    let t = rw (e, p, q, r) at (of_leads (λ c l. eqb 0xE0 c || eqb 0xF0 c || eqb 0xED c || eqb 0xF4 c || (eqb (lo_in l) 0x80 && eqb (hi_in l) 0xBF)) refl above c) in
    let z = both (eqb (lo_of c) 0x80) (eqb (hi_of c) 0xBF) t in
    (eqb-true (lo_of c) 0x80 z.0, eqb-true (hi_of c) 0xBF z.1)
  where
    above : (c : ℕ) → 0xF4 < c → (eqb 0xE0 c || eqb 0xF0 c || eqb 0xED c || eqb 0xF4 c || true) ≡ true
    above c h = rw or-true

within_at : (c d : ℕ) → d < 0xF5 → within (lo_of c) (hi_of c) d ≡ not (is_never d || not (is_tail d) || is_low c d || is_high c d)
unfolding within is_never is_tail is_low is_high lead_of
within_at c d h = at (eqb 0xE0 c) refl (eqb 0xF0 c) refl (eqb 0xED c) refl (eqb 0xF4 c) refl
  where
    f : ℕ → ℕ → Bool
    f c d = within (lo_of c) (hi_of c) d

    g : ℕ → ℕ → Bool
    g c d = not (is_never d || not (is_tail d) || is_low c d || is_high c d)

    given : (k : ℕ) → k ≡ c → f k d ≡ g k d → f c d ≡ g c d
    given k e p = rw e at p

    at : (w : Bool) → eqb 0xE0 c ≡ w → (x : Bool) → eqb 0xF0 c ≡ x → (y : Bool) → eqb 0xED c ≡ y → (z : Bool) → eqb 0xF4 c ≡ z → f c d ≡ g c d
    at true e x p y q z r = given 0xE0 (eqb-true 0xE0 c e) (agree (f 0xE0) (g 0xE0) 0xF5 refl d h)
    at false e true p y q z r = given 0xF0 (eqb-true 0xF0 c p) (agree (f 0xF0) (g 0xF0) 0xF5 refl d h)
    at false e false p true q z r = given 0xED (eqb-true 0xED c q) (agree (f 0xED) (g 0xED) 0xF5 refl d h)
    at false e false p false q true r = given 0xF4 (eqb-true 0xF4 c r) (agree (f 0xF4) (g 0xF4) 0xF5 refl d h)
    at false e false p false q false r = let t = plain c e p q r in rw (t.0, t.1, e, p, q, r) (agree (f 0) (g 0) 0xF5 refl d h)

-- ---- no character goes on: d begins one
first : (d : ℕ) → lead_of d ≡ cond (is_wrong 0 0 0 d) Follows.bad (Follows.go (want_of 0 0 d))
unfolding is_wrong is_never goes_on is_low is_high is_tail within lead_of xor still
first d = at (leb 0xF5 d) refl
  where
    at : (b : Bool) → leb 0xF5 d ≡ b → lead_of d ≡ cond (is_wrong 0 0 0 d) Follows.bad (Follows.go (want_of 0 0 d))
    at true e = no_lead_above d (omega (arith, leb-true 0xF5 d e)) ∙ rw e
    at false e = agree lead_of (λ d. cond (is_wrong 0 0 0 d) Follows.bad (Follows.go (want_of 0 0 d))) 0xF5 refl d (leb-false 0xF5 d e)

-- ---- what comes of d behind a, b, c
module _ (a b c d : ℕ) where
  abbrev Step : Type 0
  Step = after_of (want_of a b c) d ≡ cond (is_wrong a b c d) Follows.bad (Follows.go (want_of b c d))

  shut : goes_on a b c ≡ false → Step
  unfolding after_of is_wrong goes_on is_low is_high xor still
  shut e =
      let p = neither (leb 0xC0 c || leb 0xE0 b) (leb 0xF0 a) e in
      let q = neither (leb 0xC0 c) (leb 0xE0 b) p.0 in
      let x = leb-false 0xC0 c q.0 in
      let y = leb-false 0xE0 b q.1 in
      rw (
        q.0,
        q.1,
        p.1,
        lt-leb 0xE0 c (omega arith),
        lt-leb 0xF0 c (omega arith),
        lt-leb 0xF0 b (omega arith),
        ne_eqb 0xE0 c (λ z. omega arith),
        ne_eqb 0xF0 c (λ z. omega arith),
        ne_eqb 0xED c (λ z. omega arith),
        ne_eqb 0xF4 c (λ z. omega arith),
      ) (first d)

  -- the byte d goes on a character, and begins none
  tail_wants : 0x80 ≤ d → d ≤ 0xBF → want_of b c d ≡ record { owed = still b c; lo = 0x80; hi = 0xBF }
  unfolding goes_on still lead_of
  tail_wants l u = rw (lt-leb 0xC0 d (omega arith), lt-leb 0xE0 d (omega arith), lt-leb 0xF0 d (omega arith), sym (steady lead_of Follows.bad 0x80 64 d refl l (omega arith))) (at (leb 0xF0 c) refl)
    where
      at : (x : Bool) → leb 0xF0 c ≡ x
          → ◌≡◌ {A = Want} (record { owed = cond (leb 0xE0 c || leb 0xF0 b) (suc (cond x 1 0)) 0; lo = 0x80; hi = 0xBF }) (record { owed = cond x 2 (cond (leb 0xE0 c || leb 0xF0 b) 1 0); lo = 0x80; hi = 0xBF })
      at true e = rw (le-leb 0xE0 c (omega (arith, leb-true 0xF0 c e)))
      at false e = refl

  -- where nothing is wrong with d, it goes on the character
  goes : (w : Bool) → (is_never d || not (is_tail d) || is_low c d || is_high c d) ≡ w → cond (not w) (want (still b c) 0x80 0xBF) Follows.bad ≡ cond w Follows.bad (Follows.go (want_of b c d))
  unfolding is_tail within
  goes true e = refl
  goes false e =
      let p = neither (is_never d || not (is_tail d) || is_low c d) (is_high c d) e in
      let o = neither (is_never d || not (is_tail d)) (is_low c d) p.0 in
      let q = neither (is_never d) (not (is_tail d)) o.0 in
      let r = both (leb 0x80 d) (leb d 0xBF) (not-false (is_tail d) q.1) in
      rw (tail_wants (leb-true 0x80 d r.0) (leb-true d 0xBF r.1))

  opens : goes_on a b c ≡ true → Step
  unfolding after_of is_wrong is_never
  opens e = let z : suc (still b c) - 1 ≡ still b c = omega arith in rw (e, ne_eqb (suc (still b c)) 0 (λ z. omega arith), z, xor_true (is_tail d)) (at (leb 0xF5 d) refl)
    where
      at : (x : Bool) → leb 0xF5 d ≡ x → cond (within (lo_of c) (hi_of c) d) (want (still b c) 0x80 0xBF) Follows.bad ≡ cond (is_never d || not (is_tail d) || is_low c d || is_high c d) Follows.bad (Follows.go (want_of b c d))
      at true p = rw (p, within_above c d (leb-true 0xF5 d p))
      at false p = rw (within_at c d (leb-false 0xF5 d p)) (goes (is_never d || not (is_tail d) || is_low c d || is_high c d) refl)

  step : Step
  step = at (goes_on a b c) refl
    where
      at : (x : Bool) → goes_on a b c ≡ x → Step
      at true e = opens e
      at false e = shut e

-- ---- the list fits behind a, b, c
fits_from : ℕ → ℕ → ℕ → List ℕ → Bool
fits_from a b c [] = not (goes_on a b c)
fits_from a b c (d ∷ s) = cond (is_wrong a b c d) false (fits_from b c d s)

by_three : (a b c : ℕ) (s : List ℕ) → octets_from s (want_of a b c) ≡ fits_from a b c s
unfolding octets_from fits_from
by_three a b c [] = at (goes_on a b c)
  where
    at : (x : Bool) → eqb (cond x (suc (still b c)) 0) 0 ≡ not x
    at true = ne_eqb (suc (still b c)) 0 (λ z. omega arith)
    at false = refl
by_three a b c (d ∷ s) = rw (step a b c d) (at (is_wrong a b c d) (by_three b c d s))
  where
    at : (x : Bool) → octets_from s (want_of b c d) ≡ fits_from b c d s → go_on_char (cond x Follows.bad (Follows.go (want_of b c d))) (octets_from s) ≡ cond x false (fits_from b c d s)
    at true h = refl
    at false h = h

-- ---- the byte at k of the list, with a, b, c before the list
module _ (a b c : ℕ) (s : List ℕ) where
  abbrev wrong_in : ℕ → Bool
  wrong_in k = let t = a ∷ (b ∷ (c ∷ s)) in is_wrong (get_or t k 0) (get_or t (suc k) 0) (get_or t (suc (suc k)) 0) (get_or s k 0)

  abbrev goes_on_in : ℕ → Bool
  goes_on_in k = let t = a ∷ (b ∷ (c ∷ s)) in goes_on (get_or t k 0) (get_or t (suc k) 0) (get_or t (suc (suc k)) 0)

spoils : (a b c : ℕ) (s : List ℕ) (k : ℕ) → k < length s → wrong_in a b c s k ≡ true → fits_from a b c s ≡ false
unfolding fits_from
spoils a b c [] k h e = absurd (not-suc-le-zero h)
spoils a b c (d ∷ s) zero h e = rw e
spoils a b c (d ∷ s) (suc k) h e = at (is_wrong a b c d) (spoils b c d s k (le_of_suc-le-suc h) e)
  where
    at : (x : Bool) → fits_from b c d s ≡ false → cond x false (fits_from b c d s) ≡ false
    at true p = refl
    at false p = p

all_fit : (a b c : ℕ) (s : List ℕ) → ((k : ℕ) → k < length s → wrong_in a b c s k ≡ false) → fits_from a b c s ≡ not (goes_on_in a b c s (length s))
unfolding fits_from
all_fit a b c [] h = refl
all_fit a b c (d ∷ s) h = rw (h 0 (omega arith)) (all_fit b c d s (λ k l. h (suc k) (omega arith)))

-- ---- the whole text
by_neighbours : (s : List ℕ) → is_utf8 s ≡ fits_from 0 0 0 s
unfolding is_utf8 goes_on lead_of
by_neighbours s = by_three 0 0 0 s

pub one_wrong : (s : List ℕ) (k : ℕ) → k < length s → wrong_at s k ≡ true → is_utf8 s ≡ false
unfolding wrong_at
one_wrong s k h e = by_neighbours s ∙ spoils 0 0 0 s k h e

pub none_wrong : (s : List ℕ) → ((k : ℕ) → k < length s → wrong_at s k ≡ false) → is_utf8 s ≡ not (goes_on_at s (length s))
unfolding wrong_at goes_on_at
none_wrong s h = by_neighbours s ∙ all_fit 0 0 0 s h
