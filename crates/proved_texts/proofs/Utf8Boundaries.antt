-- In well-formed text the boundaries are the places that part it into whole characters; and what follows for parts of it and for ASCII bytes.
-- Assumes nothing.
use mathlib.Core.Path.{◌≡◌, refl, sym, ◌∙◌}
use mathlib.Core.Bool.{Bool, true, false}
use mathlib.Core.List.{List, [], ◌∷◌, ◌++◌}
use Prim.Native.Nat.{ℕ, zero, suc, ◌+◌, ◌-◌, ◌<◌, ◌≤◌}
use native.Mathlib.Nat.{add-zero}
use native.Mathlib.Omega.{arith}
use native.Mathlib.Numerals.{add-one}
use lib.Dec.{leb}
use lib.ListN.{length, get_or, take, drop, length-append, length-drop}
use lib.Seq.{slice, get_or-drop, drop-cons, take-nil, drop-nil, take-append-add, drop-append-add, get_or-append-add}
use borrow.Author.Tests.{leb-true, leb-false, le-leb, lt-leb, not-true}
use Rattle.base_lists.specs.Lists.{all, headed}
use Rattle.base_lists.proofs.Scan.{both, all_front}
use Rattle.base_lists.proofs.Parts.{drop-take}
use Rattle.base_bytes.specs.Bytes.{within, is_tail}
use Rattle.proved_texts.specs.Utf8Rules.{none, more, Octets}
use Rattle.text_utf8.specs.Computed.{is_utf8, octets_from}
use Rattle.text_utf8.specs.Utf8.{is_boundary}
use Rattle.text_utf8.proofs.Laws.{past_ascii}
use Rattle.proved_texts.specs.Utf8.{BoundaryParts, PartsAtBoundary}
use Rattle.proved_texts.proofs.Utf8Grammar.{char, octets, sound, utf8_append}
use Rattle.proved_texts.proofs.Utf8Shape.{starts, shape}

-- ---- within the character k there is no boundary
at_start : (k s : List ℕ) (i : ℕ) → headed starts is_tail k ≡ true → i < length k → is_tail (get_or (k ++ s) i 0) ≡ false → i ≡ 0
unfolding headed
at_start [] s i e h t = absurd (omega arith)
at_start (a ∷ k) s zero e h t = refl
at_start (a ∷ k) s (suc i) e h t =
    let p = all_front is_tail k s i (both (starts a) (all is_tail k) e).1 (omega arith) in
    let z : ◌≡◌ {A = ℕ} 0 1 = cc in absurd (omega arith)

-- ---- a boundary parts the text
record Parts (s : List ℕ) (i : ℕ) : Type 0 where
  front : is_utf8 (take i s) ≡ true
  back : is_utf8 (drop i s) ≡ true

parts_of : {ks : List (List ℕ)} {s : List ℕ} → Octets ks s → (i : ℕ) → i ≤ length s → is_tail (get_or s i 0) ≡ false → Parts s i
unfolding is_utf8 octets_from
parts_of none i h t = record { front = rw take-nil; back = rw drop-nil }
parts_of (more {k} {s} c o) i h t = at (leb (length k) i) refl (λ l u. parts_of o (i - length k) l u)
  where
    at : (b : Bool) → leb (length k) i ≡ b → (i - length k ≤ length s → is_tail (get_or s (i - length k) 0) ≡ false → Parts s (i - length k)) → Parts (k ++ s) i
    at false e later =
        let l = leb-false (length k) i e in
        let z = at_start k s i (shape c) (omega arith) t in
        rw z (record { front = refl; back = octets (more c o) })
    at true e later =
        let l = leb-true (length k) i e in
        let z : i ≡ length k + (i - length k) = omega arith in
        let p = later (omega (arith, length-append k s)) (rw (z, get_or-append-add) at t) in
        rw z (record {
          front = rw take-append-add (utf8_append k (take (i - length k) s) (char c) ∙ p.front);
          back = rw drop-append-add p.back;
        })

pub parts : BoundaryParts
unfolding is_utf8 is_boundary
parts s i e b =
    let p = both (leb i (length s)) (starts (get_or s i 0)) b in
    let r = parts_of (sound s e).octets i (leb-true i (length s) p.0) (not-true (is_tail (get_or s i 0)) p.1) in
    (r.front, r.back)

-- ---- a place that parts the text is a boundary, and it is enough that the rest is well-formed
first_byte : {ks : List (List ℕ)} {s : List ℕ} → Octets ks s → is_tail (get_or s 0 0) ≡ false
unfolding is_tail within headed
first_byte none = refl
first_byte (more {k} {s} c o) = at k (shape c)
  where
    at : (k : List ℕ) → headed starts is_tail k ≡ true → is_tail (get_or (k ++ s) 0 0) ≡ false
    at [] e = let z : ◌≡◌ {A = ℕ} 0 1 = cc in absurd (omega arith)
    at (a ∷ k) e = not-true (is_tail a) (both (starts a) (all is_tail k) e).0

pub rest_boundary : (s : List ℕ) (i : ℕ) → i ≤ length s → is_utf8 (drop i s) ≡ true → is_boundary s i ≡ true
unfolding is_boundary
rest_boundary s i h e = rw (le-leb i (length s) h, rw (get_or-drop, add-zero) at (first_byte (sound (drop i s) e).octets))

pub boundary : PartsAtBoundary
boundary s i h p q = rest_boundary s i h q

-- ---- ASCII is well-formed, and in any text there are boundaries on both sides of an ASCII byte
pub ascii : (s : List ℕ) → all (λ b. leb b 0x7F) s ≡ true → is_utf8 s ≡ true
unfolding is_utf8 octets_from all
ascii [] e = refl
ascii (a ∷ s) e = let h = both (leb a 0x7F) (all (λ b. leb b 0x7F) s) e in past_ascii a s (leb-true a 0x7F h.0) ∙ ascii s h.1

module _ (s : List ℕ) (i : ℕ) (h : i < length s) (low : get_or s i 0 ≤ 0x7F) where
  pub before_ascii : is_boundary s i ≡ true
  unfolding is_boundary is_tail within
  before_ascii = rw (le-leb i (length s) (omega arith), lt-leb 0x80 (get_or s i 0) (omega arith))

  pub after_ascii : is_utf8 s ≡ true → is_boundary s (i + 1) ≡ true
  unfolding is_utf8
  after_ascii e =
      rest_boundary s (i + 1) (omega arith)
      (rw add-one (sym (past_ascii (get_or s i 0) (drop (suc i) s) low) ∙ (rw (drop-cons s i 0 h) at (parts s i e before_ascii).1)))

-- ---- a part between two boundaries, written either way
module _ (s : List ℕ) (i j : ℕ) (e : is_utf8 s ≡ true) (from : is_boundary s i ≡ true) (to : is_boundary s j ≡ true) (h : i ≤ j) where
  pub part_utf8 : is_utf8 (take (j - i) (drop i s)) ≡ true
  unfolding is_boundary
  part_utf8 =
      let b = both (leb j (length s)) (starts (get_or s j 0)) to in
      let l = leb-true j (length s) b.0 in
      let z : i + (j - i) ≡ j = omega arith in
      (parts (drop i s) (j - i) (parts s i e from).1 (rw (get_or-drop, z, length-drop, le-leb (j - i) (length s - i) (omega arith)) b.1)).0

  pub slice_utf8 : is_utf8 (slice i j s) ≡ true
  slice_utf8 = rw drop-take part_utf8
