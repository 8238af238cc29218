-- `unescape` a piece at a time: what `piece_at` answers is the next byte of the unescaped text. Then what holds of the text as a whole.
-- Assumes nothing.
use Rattle.std.specs.Prelude.{None, Option, Some}
use mathlib.Core.Path.{◌≡◌, refl, sym, ◌∙◌}
use mathlib.Core.Bool.{Bool, true, false, cond, not, ◌&&◌, ◌||◌}
use mathlib.Core.List.{List, [], ◌∷◌}
use Prim.Native.Nat.{ℕ, suc, ◌+◌, ◌-◌, ◌<◌, ◌≤◌, zero-le}
use native.Mathlib.Nat.{add-zero}
use native.Mathlib.Omega.{arith}
use native.Mathlib.Numerals.{add-one}
use borrow.Author.Tests.{eqb-true, leb-true, leb-false, not-true}
use lib.Dec.{eqb, leb}
use lib.ListN.{length, get_or, drop, drop_of_length-le, get_or-eq_default}
use lib.Seq.{drop-cons, get_or-drop, drop-drop}
use Rattle.base_lists.specs.Lists.{all, is_in}
use Rattle.std.proofs.lemmas.Option.{some_pair_parts}
use Rattle.base_lists.proofs.Scan.{both}
use Rattle.base_bytes.specs.Bytes.{is_punct, is_space, within}
use Rattle.text_escapes.specs.Unescape.{unescape, unescape_from, is_pair, piece_at}

clash : {A : Type 0} (t : Bool) → t ≡ true → t ≡ false → A
clash t p q = let z : ◌≡◌ {A = ℕ} 0 1 = cc in absurd (omega arith)

-- what passes a test is none of the numbers that fail it
none_of : (f : ℕ → Bool) (ks : List ℕ) → all (λ k. not (f k)) ks ≡ true → (b : ℕ) → f b ≡ true → is_in ks b ≡ false
unfolding all is_in
none_of f [] h b e = refl
none_of f (k ∷ ks) h b e =
    let g = both (not (f k)) (all (λ k. not (f k)) ks) h in
    go (eqb b k) refl (not-true (f k) g.0) (none_of f ks g.1 b e)
  where
    go : (x : Bool) → eqb b k ≡ x → f k ≡ false → is_in ks b ≡ false → (x || is_in ks b) ≡ false
    go true q n more = clash (f k) (rw (eqb-true b k q) at e) n
    go false q n more = more

-- ---- at the front of a text

-- a byte that isn't punctuation begins no escape
pub punct_not : (b : ℕ) → is_punct b ≡ false → eqb b 92 ≡ false
unfolding is_punct within
punct_not b h = go (eqb b 92) refl
  where
    go : (x : Bool) → eqb b 92 ≡ x → x ≡ false
    go true e = clash true refl (rw (eqb-true b 92 e) at h)
    go false e = refl

pub pair_front : (b : ℕ) (t : List ℕ) → (eqb b 92 && is_punct (get_or t 0 0)) ≡ true → unescape (b ∷ t) ≡ get_or t 0 0 ∷ unescape (drop 1 t)
unfolding unescape unescape_from is_punct within
pair_front b [] h = clash false (both (eqb b 92) false h).1 refl
pair_front b (a ∷ t) h = let g = both (eqb b 92) (is_punct a) h in rw (g.0, g.1)

pub byte_front : (b : ℕ) (t : List ℕ) → (eqb b 92 && is_punct (get_or t 0 0)) ≡ false → unescape (b ∷ t) ≡ b ∷ unescape t
unfolding unescape unescape_from
byte_front b t h = go (eqb b 92) refl h t refl
  where
    go : (x : Bool) → eqb b 92 ≡ x → (x && is_punct (get_or t 0 0)) ≡ false → (u : List ℕ) → t ≡ u → cond x (unescape_from true u) (b ∷ unescape_from false u) ≡ b ∷ unescape_from false u
    go true e q [] z = rw (eqb-true b 92 e)
    go true e q (a ∷ u) z = let p : is_punct a ≡ false = rw z at q in rw (p, punct_not a p, eqb-true b 92 e)
    go false e q u z = refl

-- ---- at a place

-- an escape has its second byte inside the text
pub pair_within : (s : List ℕ) (i : ℕ) → is_pair s i ≡ true → i + 1 < length s
unfolding is_pair is_punct within
pair_within s i h = go (leb (length s) (i + 1)) refl
  where
    go : (x : Bool) → leb (length s) (i + 1) ≡ x → i + 1 < length s
    go true e = clash false (rw (get_or-eq_default s 0 {n = i + 1} (leb-true (length s) (i + 1) e)) at (both (eqb (get_or s i 0) 92) (is_punct (get_or s (i + 1) 0)) h).1) refl
    go false e = leb-false (length s) (i + 1) e

-- the last byte begins none
pub last_byte : (s : List ℕ) (i : ℕ) → length s ≤ i + 1 → false ≡ is_pair s i
last_byte s i h = go (is_pair s i) refl
  where
    go : (x : Bool) → is_pair s i ≡ x → false ≡ x
    go true e = let l = pair_within s i e in absurd (omega arith)
    go false e = refl

-- a byte b of the unescaped text is at i, its own place in the raw text the last before `next`, and the rest of it from `next` on
pub record Stands (s : List ℕ) (i b next : ℕ) : Type 0 where
  pub ahead : i < next
  pub within : next ≤ length s
  pub raw : get_or s (next - 1) 0 ≡ b
  pub rest : unescape (drop i s) ≡ b ∷ unescape (drop next s)

-- nothing of the unescaped text is at i or behind it
pub record Ends (s : List ℕ) (i : ℕ) : Type 0 where
  pub past : length s ≤ i
  pub rest : unescape (drop i s) ≡ []

module _ {s : List ℕ} {i : ℕ} {r : Option (ℕ × ℕ)} where
  pub byte_at : {b next : ℕ} → r ≡ piece_at s i → r ≡ Some (b, next) → Stands s i b next
  unfolding piece_at is_pair
  byte_at {b} {next} e q = go (leb (length s) i) (is_pair s i) refl refl (sym e ∙ q)
    where
      behind : get_or (drop (suc i) s) 0 0 ≡ get_or s (i + 1) 0
      behind = get_or-drop (suc i) s 0 0 ∙ rw (add-zero, add-one)

      go : (x y : Bool) → leb (length s) i ≡ x → is_pair s i ≡ y → cond {A = Option (ℕ × ℕ)} x None (cond y (Some (get_or s (i + 1) 0, i + 2)) (Some (get_or s i 0, i + 1))) ≡ Some (b, next) → Stands s i b next
      go true y p h z = let z : ◌≡◌ {A = ℕ} 0 1 = cc in absurd (omega arith)
      go false true p h z =
          let l = leb-false (length s) i p in
          let w = pair_within s i h in
          let n : next ≡ i + 2 = sym (some_pair_parts _ _ _ _ z).1 in
          let v : b ≡ get_or s (i + 1) 0 = sym (some_pair_parts _ _ _ _ z).0 in
          let d : suc i + 1 ≡ i + 2 = omega arith in
          let k : i + 2 - 1 ≡ i + 1 = omega arith in
          record { ahead = omega arith; within = omega arith; raw = rw (n, k, v); rest = rw (drop-cons s i 0 l, v, n) (pair_front (get_or s i 0) (drop (suc i) s) (rw behind h) ∙ rw (behind, drop-drop 1 (suc i) s, d)) }
      go false false p h z =
          let l = leb-false (length s) i p in
          let n : next ≡ i + 1 = sym (some_pair_parts _ _ _ _ z).1 in
          let v : b ≡ get_or s i 0 = sym (some_pair_parts _ _ _ _ z).0 in
          let k : i + 1 - 1 ≡ i = omega arith in
          record { ahead = omega arith; within = omega arith; raw = rw (n, k, v); rest = rw (drop-cons s i 0 l, v, n, add-one) (byte_front (get_or s i 0) (drop (suc i) s) (rw behind h)) }

  pub end_at : r ≡ piece_at s i → r ≡ None → Ends s i
  unfolding piece_at unescape unescape_from
  end_at e q = go (leb (length s) i) (is_pair s i) refl (sym e ∙ q)
    where
      go : (x y : Bool) → leb (length s) i ≡ x → cond {A = Option (ℕ × ℕ)} x None (cond y (Some (get_or s (i + 1) 0, i + 2)) (Some (get_or s i 0, i + 1))) ≡ None → Ends s i
      go true y p z = let l = leb-true (length s) i p in record { past = l; rest = rw (drop_of_length-le s l) }
      go false true p z = let z : ◌≡◌ {A = ℕ} 0 1 = cc in absurd (omega arith)
      go false false p z = let z : ◌≡◌ {A = ℕ} 0 1 = cc in absurd (omega arith)

-- ---- the text as a whole

shorter : (m : Bool) (s : List ℕ) → length (unescape_from m s) ≤ cond m 1 0 + length s
unfolding unescape_from
shorter false [] = zero-le
shorter true [] = omega arith
shorter false (b ∷ s) = go (eqb b 92) (shorter true s) (shorter false s)
  where
    go : (x : Bool) → length (unescape_from true s) ≤ 1 + length s → length (unescape_from false s) ≤ 0 + length s → length (cond x (unescape_from true s) (b ∷ unescape_from false s)) ≤ 0 + suc (length s)
    go true p q = omega arith
    go false p q = omega arith
shorter true (b ∷ s) = go (is_punct b) (shorter false s)
  where
    go : (x : Bool) → length (unescape_from false s) ≤ 0 + length s → length (cond x (b ∷ unescape_from false s) (92 ∷ (b ∷ unescape_from false s))) ≤ 1 + suc (length s)
    go true q = omega arith
    go false q = omega arith

pub unescape_le : (s : List ℕ) → length (unescape s) ≤ length s
unfolding unescape
unescape_le s = omega (arith, shorter false s)

-- a test that a backslash passes can't see what is dropped
module _ (f : ℕ → Bool) (passes : f 92 ≡ true) where
  all_from : (m : Bool) (s : List ℕ) → all f (unescape_from m s) ≡ all f s
  unfolding unescape_from all
  all_from false [] = refl
  all_from true [] = rw passes
  all_from false (b ∷ s) = go (eqb b 92) refl (all_from true s) (all_from false s)
    where
      go : (x : Bool) → eqb b 92 ≡ x → all f (unescape_from true s) ≡ all f s → all f (unescape_from false s) ≡ all f s → all f (cond x (unescape_from true s) (b ∷ unescape_from false s)) ≡ (f b && all f s)
      go true e p q = rw (eqb-true b 92 e, passes, p)
      go false e p q = rw q
  all_from true (b ∷ s) = go (is_punct b) (all_from false s)
    where
      go : (x : Bool) → all f (unescape_from false s) ≡ all f s → all f (cond x (b ∷ unescape_from false s) (92 ∷ (b ∷ unescape_from false s))) ≡ (f b && all f s)
      go true q = rw q
      go false q = rw (passes, q)

  pub all_same : (s : List ℕ) → all f (unescape s) ≡ all f s
  unfolding unescape
  all_same s = all_from false s

-- an LF is in the unescaped text exactly when it is in the raw one
pub no_lf_lem : (s : List ℕ) → all (λ b. not (eqb b 10)) (unescape s) ≡ all (λ b. not (eqb b 10)) s
no_lf_lem s = all_same (λ b. not (eqb b 10)) refl s

-- nor does a test that no punctuation passes: where a backslash is dropped, punctuation stays
module _ (f : ℕ → Bool) (fails : (b : ℕ) → is_punct b ≡ true → f b ≡ false) where
  at_backslash : f 92 ≡ false
  unfolding is_punct within
  at_backslash = fails 92 refl

  after-backslash : (s : List ℕ) → all f (unescape_from true s) ≡ false
  unfolding unescape_from all
  after-backslash [] = rw at_backslash
  after-backslash (b ∷ s) = go (is_punct b) refl
    where
      go : (x : Bool) → is_punct b ≡ x → all f (cond x (b ∷ unescape_from false s) (92 ∷ (b ∷ unescape_from false s))) ≡ false
      go true e = rw (fails b e)
      go false e = rw at_backslash

  pub all-same_off_punct : (s : List ℕ) → all f (unescape s) ≡ all f s
  unfolding unescape unescape_from all
  all-same_off_punct [] = refl
  all-same_off_punct (b ∷ s) = go (eqb b 92) refl (all-same_off_punct s)
    where
      go : (x : Bool) → eqb b 92 ≡ x → all f (unescape_from false s) ≡ all f s → all f (cond x (unescape_from true s) (b ∷ unescape_from false s)) ≡ (f b && all f s)
      go true e q = rw (eqb-true b 92 e, at_backslash, after-backslash s)
      go false e q = rw q

-- whitespace is there and not there as it was in the raw text
pub no_space : (s : List ℕ) → all (λ b. not (is_space b)) (unescape s) ≡ all (λ b. not (is_space b)) s
unfolding is_space is_in
no_space s = all_same (λ b. not (is_space b)) refl s

pub only_space : (s : List ℕ) → all is_space (unescape s) ≡ all is_space s
unfolding is_space is_punct within all
only_space s = all-same_off_punct is_space (none_of is_punct (32 ∷ 9 ∷ 10 ∷ 12 ∷ 13 ∷ []) refl) s
