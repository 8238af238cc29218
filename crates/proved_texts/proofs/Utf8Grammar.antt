-- The computing definition and RFC 3629's grammar agree: `is_utf8` is true of the lists that are UTF8-octets, and of no other.
-- Assumes nothing.
use mathlib.Core.Path.{◌≡◌, refl, sym, ◌∙◌}
use mathlib.Core.Bool.{Bool, true, false, cond}
use mathlib.Core.List.{List, [], ◌∷◌, ◌++◌}
use Prim.Native.Nat.{ℕ, zero, suc, ◌+◌, ◌-◌, ◌<◌, ◌≤◌, zero-le}
use native.Mathlib.Omega.{arith}
use lib.Dec.{leb}
use lib.ListN.{replicate}
use borrow.Author.Tests.{eqb-true, ne_eqb, leb-true, leb-false, le-leb}
use Rattle.base_lists.proofs.Scan.{both}
use Rattle.base_lists.proofs.Steady.{steady, values}
use Rattle.base_bytes.specs.Bytes.{within}
use Rattle.proved_texts.specs.Utf8Rules.{one, two, three_E0, three_E1, three_ED, three_EE, four_F0, four_F1, four_F4, none, more, Byte, Tail, Char, Octets, WellFormed}
use Rattle.text_utf8.specs.Computed.{Want, Follows, is_utf8, octets_from, lead_of, after_of, owes_none, want, go_on_char}
use Rattle.text_utf8.proofs.Laws.{idle}
use Rattle.proved_texts.specs.Utf8.{PassedIsOctets, OctetsPass}

-- where the answer is yes, the byte was taken, and v is wanted next
record Went (n : Follows) (rest : Want → Bool) : Type 0 where
  v : Want
  is : n ≡ Follows.go v
  yes : rest v ≡ true

went : (n : Follows) (rest : Want → Bool) → go_on_char n rest ≡ true → Went n rest
went Follows.bad rest e = let z : ◌≡◌ {A = ℕ} 0 1 = cc in absurd (omega arith)
went (Follows.go v) rest e = record { v = v; is = refl; yes = e }

-- ---- well-formed text before any other
after_text : (s t : List ℕ) (w : Want) → octets_from s w ≡ true → octets_from (s ++ t) w ≡ octets_from t owes_none
unfolding octets_from
after_text [] t w e = idle t w (eqb-true w.owed 0 e)
after_text (a ∷ s) t w e = let g = went (after_of w a) (octets_from s) e in rw g.is (after_text s t g.v g.yes)

pub utf8_append : (s t : List ℕ) → is_utf8 s ≡ true → is_utf8 (s ++ t) ≡ is_utf8 t
unfolding is_utf8
utf8_append s t e = after_text s t owes_none e

-- ---- from the grammar: the bytes of a character, from the last to the first
record Yes (s : List ℕ) (w : Want) : Type 0 where
  yes : octets_from s w ≡ true

all_read : Yes [] owes_none
unfolding octets_from
all_read = record { yes = refl }

later : {n lo hi b : ℕ} {s : List ℕ} → Byte lo hi b → Yes s (record { owed = n; lo = 0x80; hi = 0xBF }) → Yes (b ∷ s) (record { owed = suc n; lo = lo; hi = hi })
unfolding octets_from after_of within
later {n} {lo} {hi} {b} p y =
    let z : suc n - 1 ≡ n = omega arith in
    record { yes = rw (ne_eqb (suc n) 0 (omega arith), le-leb lo b p.low, le-leb b hi p.high, z) y.yes }

-- the n bytes from lo on all ask for w
first : {lo hi a : ℕ} {w : Want} {s : List ℕ} (n : ℕ) → Byte lo hi a → hi < lo + n → values lead_of n lo ≡ replicate n (Follows.go w) → Yes s w → Yes (a ∷ s) owes_none
unfolding octets_from after_of
first {lo} {hi} {a} {w} n p h e y = record { yes = rw (sym (steady lead_of (Follows.go w) lo n a e p.low (omega arith))) y.yes }

of_char : {k : List ℕ} → Char k → Yes k owes_none
unfolding lead_of
of_char (one p) = first 0x80 p (omega arith) refl all_read
of_char (two p q) = first 30 p (omega arith) refl (later q all_read)
of_char (three_E0 p q r) = first 1 p (omega arith) refl (later q (later r all_read))
of_char (three_E1 p q r) = first 12 p (omega arith) refl (later q (later r all_read))
of_char (three_ED p q r) = first 1 p (omega arith) refl (later q (later r all_read))
of_char (three_EE p q r) = first 2 p (omega arith) refl (later q (later r all_read))
of_char (four_F0 p q r t) = first 1 p (omega arith) refl (later q (later r (later t all_read)))
of_char (four_F1 p q r t) = first 3 p (omega arith) refl (later q (later r (later t all_read)))
of_char (four_F4 p q r t) = first 1 p (omega arith) refl (later q (later r (later t all_read)))

pub char : {k : List ℕ} → Char k → is_utf8 k ≡ true
unfolding is_utf8
char c = (of_char c).yes

pub octets : {ks : List (List ℕ)} {s : List ℕ} → Octets ks s → is_utf8 s ≡ true
unfolding is_utf8 octets_from
octets none = refl
octets (more {k} {s} c o) = utf8_append k s (char c) ∙ octets o

pub complete : {s : List ℕ} → OctetsPass s
complete w = octets w.octets

-- ---- to the grammar: what w wants, and then characters
data Rest : ℕ → ℕ → ℕ → List ℕ → Type 0 where
  done : {lo hi : ℕ} {s : List ℕ} → WellFormed s → Rest 0 lo hi s
  owed : {n lo hi b : ℕ} {s : List ℕ} → Byte lo hi b → Rest n 0x80 0xBF s → Rest (suc n) lo hi (b ∷ s)

Comes : Follows → List ℕ → Type 0
Comes Follows.bad s = ⊥
Comes (Follows.go w) s = Rest w.owed w.lo w.hi s

-- where n is asked after the byte a, and comes, the whole is characters
record Begins (a : ℕ) (n : Follows) : Type 0 where
  whole : (s : List ℕ) → Comes n s → WellFormed (a ∷ s)

and_then : {k s : List ℕ} → Char k → WellFormed s → WellFormed (k ++ s)
and_then {k} c w = record { chars = k ∷ w.chars; octets = more c w.octets }

-- the first byte a of a character of one, two, three and four bytes
module _ {a lo hi : ℕ} where
  of_one : Char (a ∷ []) → Begins a (want 0 lo hi)
  unfolding Comes
  of_one f = record { whole = at }
    where
      at : (s : List ℕ) → Rest 0 lo hi s → WellFormed (a ∷ s)
      at s (done w) = and_then f w

  of_two : ((b : ℕ) → Byte lo hi b → Char (a ∷ b ∷ [])) → Begins a (want 1 lo hi)
  unfolding Comes
  of_two f = record { whole = at }
    where
      at : (s : List ℕ) → Rest 1 lo hi s → WellFormed (a ∷ s)
      at _ (owed p (done w)) = and_then (f _ p) w

  of_three : ((b c : ℕ) → Byte lo hi b → Tail c → Char (a ∷ b ∷ c ∷ [])) → Begins a (want 2 lo hi)
  unfolding Comes
  of_three f = record { whole = at }
    where
      at : (s : List ℕ) → Rest 2 lo hi s → WellFormed (a ∷ s)
      at _ (owed p (owed q (done w))) = and_then (f _ _ p q) w

  of_four : ((b c d : ℕ) → Byte lo hi b → Tail c → Tail d → Char (a ∷ b ∷ c ∷ d ∷ [])) → Begins a (want 3 lo hi)
  unfolding Comes
  of_four f = record { whole = at }
    where
      at : (s : List ℕ) → Rest 3 lo hi s → WellFormed (a ∷ s)
      at _ (owed p (owed q (owed r (done w)))) = and_then (f _ _ _ p q r) w

no_char : {a : ℕ} → Begins a Follows.bad
unfolding Comes
no_char = record { whole = λ s r. absurd r }

up_to : {a : ℕ} (k : ℕ) {x y : Follows} → (a ≤ k → Begins a x) → (k < a → Begins a y) → Begins a (cond (leb a k) x y)
up_to {a} k {x} {y} f g = at (leb a k) refl
  where
    at : (b : Bool) → leb a k ≡ b → Begins a (cond b x y)
    at true e = f (leb-true a k e)
    at false e = g (leb-false a k e)

-- lead_of's ranges are those of the rules
lead : (a : ℕ) → Begins a (lead_of a)
unfolding lead_of
lead a =
    up_to 0x7F (λ h. of_one (one (record { low = zero-le; high = h }))) (λ l.
    up_to 0xC1 (λ h. no_char) (λ l.
    up_to 0xDF (λ h. of_two (λ b. two (record { low = l; high = h }))) (λ l.
    up_to 0xE0 (λ h. of_three (λ b c. three_E0 (record { low = l; high = h }))) (λ l.
    up_to 0xEC (λ h. of_three (λ b c. three_E1 (record { low = l; high = h }))) (λ l.
    up_to 0xED (λ h. of_three (λ b c. three_ED (record { low = l; high = h }))) (λ l.
    up_to 0xEF (λ h. of_three (λ b c. three_EE (record { low = l; high = h }))) (λ l.
    up_to 0xF0 (λ h. of_four (λ b c d. four_F0 (record { low = l; high = h }))) (λ l.
    up_to 0xF3 (λ h. of_four (λ b c d. four_F1 (record { low = l; high = h }))) (λ l.
    up_to 0xF4 (λ h. of_four (λ b c d. four_F4 (record { low = l; high = h }))) (λ l.
    no_char))))))))))

-- a byte that is owed stands in its range
taken : (lo hi a : ℕ) (v : Want) (rest : Want → Bool) → go_on_char (cond (within lo hi a) (Follows.go v) Follows.bad) rest ≡ true → Byte lo hi a × (rest v ≡ true)
unfolding within
taken lo hi a v rest e = at (within lo hi a) refl e
  where
    at : (b : Bool) → within lo hi a ≡ b → go_on_char (cond b (Follows.go v) Follows.bad) rest ≡ true → Byte lo hi a × (rest v ≡ true)
    at true h q = let p = both (leb lo a) (leb a hi) h in (record { low = leb-true lo a p.0; high = leb-true a hi p.1 }, q)
    at false h q = let z : ◌≡◌ {A = ℕ} 0 1 = cc in absurd (omega arith)

wanted : (s : List ℕ) (n lo hi : ℕ) → octets_from s (record { owed = n; lo = lo; hi = hi }) ≡ true → Rest n lo hi s
unfolding octets_from after_of Comes
wanted [] zero lo hi e = done (record { chars = []; octets = none })
wanted [] (suc n) lo hi e = let z = eqb-true (suc n) 0 e in absurd (omega arith)
wanted (a ∷ s) zero lo hi e =
    let g = went (lead_of a) (octets_from s) e in
    done ((lead a).whole s (rw g.is (wanted s g.v.owed g.v.lo g.v.hi g.yes)))
wanted (a ∷ s) (suc n) lo hi e =
    let z : suc n - 1 ≡ n = omega arith in
    let g = taken lo hi a (record { owed = n; lo = 0x80; hi = 0xBF }) (octets_from s) (rw (ne_eqb (suc n) 0 (omega arith), z) at e) in
    owed g.0 (wanted s n 0x80 0xBF g.1)

pub sound : PassedIsOctets
unfolding is_utf8
sound s e = whole (wanted s 0 0x80 0xBF e)
  where
    whole : Rest 0 0x80 0xBF s → WellFormed s
    whole (done w) = w
