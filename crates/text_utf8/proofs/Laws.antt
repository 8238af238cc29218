-- How the definitions go on from the byte at i: what a loop over a slice asks, one law for each way on.
-- Assumes nothing.
use mathlib.Core.Path.{◌≡◌, refl, ap, sym, ◌∙◌}
use mathlib.Core.Bool.{Bool, true, false, not, cond}
use mathlib.Core.List.{List, [], ◌∷◌}
use Prim.Native.Nat.{ℕ, zero, suc, ◌+◌, ◌-◌, ◌<◌, ◌≤◌, zero-le}
use native.Mathlib.Nat.{zero-add, add-zero}
use native.Mathlib.Omega.{arith}
use native.Mathlib.Numerals.{add-one}
use lib.Dec.{leb, eqb}
use lib.ListN.{replicate, length, get_or, drop, length-drop, drop_of_length-le, get_or-eq_default}
use lib.Seq.{drop-cons}
use borrow.Author.Tests.{leb-true, eqb-true, eqb-false, eq-eqb, ne_eqb, le-leb, lt-leb}
use Rattle.base_lists.proofs.Scan.{both}
use Rattle.base_lists.proofs.Steady.{steady, values}
use Rattle.base_bytes.specs.Bytes.{is_tail, within}
use Rattle.text_utf8.specs.Computed.{Want, Follows, is_utf8, octets_from, lead_of, after_of, owes_none, want, go_on_char}
use Rattle.text_utf8.specs.Utf8.{is_boundary, char_count}
use Rattle.text_utf8.specs.Inner.{Ascii, Same, PassedTo, Begins}

-- ---- where nothing is owed, the range does not matter
pub idle : (s : List ℕ) (w : Want) → w.owed ≡ 0 → octets_from s w ≡ octets_from s owes_none
unfolding octets_from after_of
idle [] w o = eq-eqb w.owed 0 o
idle (a ∷ s) w o = rw (eq-eqb w.owed 0 o)

-- ---- ASCII is passed at once
pub past_ascii : (a : ℕ) (s : List ℕ) → a ≤ 0x7F → octets_from (a ∷ s) owes_none ≡ octets_from s owes_none
unfolding octets_from after_of lead_of
past_ascii a s h = rw (le-leb a 0x7F h)

skipped : (n : ℕ) (s : List ℕ) (i : ℕ) → i + n ≤ length s → ((k : ℕ) → i ≤ k → k < i + n → get_or s k 0 ≤ 0x7F)
    → octets_from (drop i s) owes_none ≡ octets_from (drop (i + n) s) owes_none
skipped zero s i h low = rw add-zero
skipped (suc n) s i h low =
    let z : suc i + n ≡ i + suc n = omega arith in
    ap (λ (t : List ℕ). octets_from t owes_none) (drop-cons s i 0 (omega arith))
    ∙ past_ascii (get_or s i 0) (drop (suc i) s) (low i (omega arith) (omega arith))
    ∙ skipped n s (suc i) (omega arith) (λ k a b. low k (omega arith) (omega arith))
    ∙ ap (λ (m : ℕ). octets_from (drop m s) owes_none) z

pub ascii_same : {s : List ℕ} {i e : ℕ} → Ascii s i e → Same s i e
ascii_same {s} {i} {e} a =
    let z : i + (e - i) ≡ e = omega (arith, a.onward) in
    let p = skipped (e - i) s i (omega (arith, a.onward, a.inside)) (λ k x l. a.low k x (omega (arith, a.onward))) in
    record { onward = a.onward; inside = a.inside; same = rw z at p }

-- ---- passing one piece and then another
pub same_start : (s : List ℕ) (i : ℕ) → i ≤ length s → Same s i i
same_start s i h = record { onward = omega arith; inside = h; same = refl }

pub same_then : {s : List ℕ} {i j k : ℕ} → Same s i j → Same s j k → Same s i k
same_then p q = record { onward = omega (arith, p.onward, q.onward); inside = q.inside; same = p.same ∙ q.same }

pub same_low : {s : List ℕ} {i j : ℕ} → Same s i j → j < length s → get_or s j 0 ≤ 0x7F → Same s i (j + 1)
same_low {s} {i} {j} p h l = record { onward = omega (arith, p.onward); inside = omega arith; same = p.same ∙ (rw add-one (rw (drop-cons s j 0 h) (past_ascii (get_or s j 0) (drop (suc j) s) l))) }

pub same_on : {s : List ℕ} {i j k : ℕ} → Same s i j → PassedTo s j k → 0 < k → Same s i k
same_on p q h = same_then p (q.on h).1

pub passed : {s : List ℕ} {i j : ℕ} → Same s i j → i < j → PassedTo s i j
passed p h = record { on = λ l. (h, p); off = λ e. absurd (omega arith) }

pub not_passed : {s : List ℕ} {i : ℕ} → octets_from (drop i s) owes_none ≡ false → PassedTo s i 0
not_passed e = record { on = λ l. absurd (omega arith); off = λ z. e }

pub fails : {s : List ℕ} {i j k : ℕ} → Same s i j → PassedTo s j k → k ≡ 0 → PassedTo s i 0
fails p q z = not_passed (p.same ∙ q.off z)

-- ---- within a character: behind its first byte at i, at k, n bytes are owed, the next of them from lo to hi
pub record Owes (s : List ℕ) (i k n lo hi : ℕ) : Type 0 where
  pub rest : octets_from (drop i s) owes_none ≡ octets_from (drop k s) (record { owed = n; lo = lo; hi = hi })

pub owes : {s : List ℕ} {i n lo hi : ℕ} → Begins s i n lo hi → Owes s i (i + 1) n lo hi
unfolding octets_from after_of
owes {s} {i} b = record { rest = rw (drop-cons s i 0 b.inside, b.asks, add-one) }

-- a list shorter than what is owed
short : (t : List ℕ) (n lo hi : ℕ) → length t < n → octets_from t (record { owed = n; lo = lo; hi = hi }) ≡ false
unfolding octets_from after_of
short [] n lo hi h = ne_eqb n 0 (omega arith)
short (a ∷ t) n lo hi h = rw (ne_eqb n 0 (omega arith)) (at (within lo hi a) (short t (n - 1) 0x80 0xBF (omega arith)))
  where
    at : (b : Bool) → octets_from t (record { owed = n - 1; lo = 0x80; hi = 0xBF }) ≡ false → go_on_char (cond b (want (n - 1) 0x80 0xBF) Follows.bad) (octets_from t) ≡ false
    at true e = e
    at false e = refl

pub cut : {s : List ℕ} {i n lo hi : ℕ} → Begins s i n lo hi → length s - i < n + 1 → PassedTo s i 0
cut {s} {i} {n} {lo} {hi} b h = not_passed ((owes b).rest ∙ short (drop (i + 1) s) n lo hi (omega (arith, length-drop (i + 1) s, b.inside)))

module _ {s : List ℕ} {i k n lo hi : ℕ} (o : Owes s i k (suc n) lo hi) (h : k < length s) where
  pub owes_on : lo ≤ get_or s k 0 → get_or s k 0 ≤ hi → Owes s i (k + 1) n 0x80 0xBF
  unfolding octets_from after_of within
  owes_on l u =
      let z : suc n - 1 ≡ n = omega arith in
      record { rest = o.rest ∙ rw (drop-cons s k 0 h, ne_eqb (suc n) 0 (omega arith), le-leb lo (get_or s k 0) l, le-leb (get_or s k 0) hi u, z, add-one) }

  pub below : get_or s k 0 < lo → PassedTo s i 0
  unfolding octets_from after_of within
  below l = not_passed (o.rest ∙ rw (drop-cons s k 0 h, ne_eqb (suc n) 0 (omega arith), lt-leb lo (get_or s k 0) l))

  pub above : lo ≤ get_or s k 0 → hi < get_or s k 0 → PassedTo s i 0
  unfolding octets_from after_of within
  above l u = not_passed (o.rest ∙ rw (drop-cons s k 0 h, ne_eqb (suc n) 0 (omega arith), le-leb lo (get_or s k 0) l, lt-leb (get_or s k 0) hi u))

-- ---- a byte that goes on a character and one that does not, in a character's last place or before it
module _ {s : List ℕ} {i k n : ℕ} (o : Owes s i k (suc n) 0x80 0xBF) (h : k < length s) where
  pub tail_on : is_tail (get_or s k 0) ≡ true → Owes s i (k + 1) n 0x80 0xBF
  unfolding is_tail within
  tail_on e =
      let p = both (leb 0x80 (get_or s k 0)) (leb (get_or s k 0) 0xBF) e in
      owes_on o h (leb-true 0x80 (get_or s k 0) p.0) (leb-true (get_or s k 0) 0xBF p.1)

  pub no_tail : is_tail (get_or s k 0) ≡ false → PassedTo s i 0
  unfolding octets_from after_of is_tail
  no_tail e = not_passed (o.rest ∙ rw (drop-cons s k 0 h, ne_eqb (suc n) 0 (omega arith), e))

-- the third byte of a character is next, and the fourth
pub third : {s : List ℕ} {i n lo hi : ℕ} → Begins s i (suc n) lo hi → i + 1 < length s → lo ≤ get_or s (i + 1) 0 → get_or s (i + 1) 0 ≤ hi → Owes s i (i + 2) n 0x80 0xBF
third {s} {i} b h l u = let z : i + 1 + 1 ≡ i + 2 = omega arith in rw z at (owes_on (owes b) h l u)

pub fourth : {s : List ℕ} {i n : ℕ} → Owes s i (i + 2) (suc n) 0x80 0xBF → i + 2 < length s → is_tail (get_or s (i + 2) 0) ≡ true → Owes s i (i + 3) n 0x80 0xBF
fourth {s} {i} o h e = let z : i + 2 + 1 ≡ i + 3 = omega arith in rw z at (tail_on o h e)

pub last : {s : List ℕ} {i k r : ℕ} → Owes s i k 1 0x80 0xBF → i < k → k < length s → r ≡ cond (is_tail (get_or s k 0)) (k + 1) 0 → PassedTo s i r
last {s} {i} {k} {r} o l h e = at (is_tail (get_or s k 0)) refl
  where
    at : (b : Bool) → is_tail (get_or s k 0) ≡ b → PassedTo s i r
    at true t =
        let z : r ≡ k + 1 = rw t at e in
        let q = tail_on o h t in
        rw z (passed (record { onward = omega arith; inside = omega arith; same = q.rest }) (omega arith))
    at false t = let z : r ≡ 0 = rw t at e in rw z (no_tail o h t)

-- ---- the first byte of a character, one of the m from a on, which all ask for the same
pub begins : {s : List ℕ} {i n lo hi : ℕ} (a m : ℕ) → i < length s → values lead_of m a ≡ replicate m (want n lo hi) → a ≤ get_or s i 0 → get_or s i 0 < a + m → Begins s i n lo hi
begins {s} {i} {n} {lo} {hi} a m h e l u = record { inside = h; asks = sym (steady lead_of (want n lo hi) a m (get_or s i 0) e l u) }

pub no_lead : {s : List ℕ} {i : ℕ} (a m : ℕ) → i < length s → values lead_of m a ≡ replicate m Follows.bad → a ≤ get_or s i 0 → get_or s i 0 < a + m → PassedTo s i 0
unfolding octets_from after_of
no_lead {s} {i} a m h e l u = not_passed (rw (drop-cons s i 0 h, sym (steady lead_of Follows.bad a m (get_or s i 0) e l u)))

pub no_lead_above : (b : ℕ) → 0xF4 < b → lead_of b ≡ Follows.bad
unfolding lead_of
no_lead_above b l =
    rw (
      lt-leb b 0x7F (omega arith),
      lt-leb b 0xC1 (omega arith),
      lt-leb b 0xDF (omega arith),
      lt-leb b 0xE0 (omega arith),
      lt-leb b 0xEC (omega arith),
      lt-leb b 0xED (omega arith),
      lt-leb b 0xEF (omega arith),
      lt-leb b 0xF0 (omega arith),
      lt-leb b 0xF3 (omega arith),
      lt-leb b 0xF4 (omega arith),
    )

pub past_leads : {s : List ℕ} {i : ℕ} → i < length s → 0xF4 < get_or s i 0 → PassedTo s i 0
unfolding octets_from after_of
past_leads {s} {i} h l = not_passed (rw (drop-cons s i 0 h, no_lead_above (get_or s i 0) l))

-- ---- the whole text
pub whole_end : {s : List ℕ} {i : ℕ} → Same s 0 i → length s ≤ i → true ≡ is_utf8 s
unfolding is_utf8 octets_from
whole_end {s} p h = sym (rw (drop_of_length-le s h) at p.same)

pub whole_fails : {s : List ℕ} {i j : ℕ} → Same s 0 i → PassedTo s i j → j ≡ 0 → false ≡ is_utf8 s
unfolding is_utf8
whole_fails p q z = sym ((fails p q z).off refl)

-- ---- the place i, past the last byte or at one
pub past_end : (s : List ℕ) (i : ℕ) → length s ≤ i → eqb i (length s) ≡ is_boundary s i
unfolding is_boundary is_tail within
past_end s i h = at (eqb i (length s)) refl
  where
    at : (b : Bool) → eqb i (length s) ≡ b → b ≡ is_boundary s i
    at true e = let z = eqb-true i (length s) e in rw (le-leb i (length s) (omega arith), get_or-eq_default s 0 h)
    at false e = let z = eqb-false i (length s) e in rw (lt-leb i (length s) (omega arith))

pub at_byte : (s : List ℕ) (i : ℕ) → i < length s → not (is_tail (get_or s i 0)) ≡ is_boundary s i
unfolding is_boundary
at_byte s i h = rw (le-leb i (length s) (omega arith))

-- ---- the loop of `char_count` stands before byte i of s with n characters begun
pub record Counts (s : List ℕ) (n i : ℕ) : Type 0 where
  pub inside : i ≤ length s
  pub few : n ≤ i
  pub rest : n + char_count (drop i s) ≡ char_count s

pub counts_start : (s : List ℕ) → Counts s 0 0
counts_start s = record { inside = zero-le; few = zero-le; rest = zero-add (char_count s) }

pub counts_go : {s : List ℕ} {n m i : ℕ} → Counts s n i → i < length s → m ≡ cond (is_tail (get_or s i 0)) n (n + 1) → Counts s m (i + 1)
unfolding char_count
counts_go {s} {n} {m} {i} inv h e = at (is_tail (get_or s i 0)) refl
  where
    at : (b : Bool) → is_tail (get_or s i 0) ≡ b → Counts s m (i + 1)
    at true t =
        let z = rw t at e in
        let r = rw (drop-cons s i 0 h, t) at inv.rest in
        record { inside = omega arith; few = omega arith; rest = rw add-one (omega arith) }
    at false t =
        let z = rw t at e in
        let r = rw (drop-cons s i 0 h, t) at inv.rest in
        record { inside = omega arith; few = omega arith; rest = rw add-one (omega arith) }

pub counts_end : {s : List ℕ} {n i : ℕ} → Counts s n i → length s ≤ i → n ≡ char_count s
unfolding char_count
counts_end {s} {n} inv h = sym (add-zero n) ∙ (rw (drop_of_length-le s h) at inv.rest)
