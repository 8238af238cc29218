-- What a tag is by the run of letters and digits at its front, and how far it goes: what the recursion and the loop ask.
-- Assumes nothing.
use Rattle.std.specs.Prelude.{Err, Ok, Result}
use mathlib.Core.Path.{◌≡◌, refl, sym, ◌∙◌}
use mathlib.Core.Bool.{Bool, true, false, cond, ◌&&◌}
use mathlib.Core.List.{List, [], ◌∷◌}
use Prim.Native.Nat.{ℕ, suc, ◌+◌, ◌-◌, ◌<◌, ◌≤◌, zero-le}
use native.Mathlib.Nat.{zero-add, add-zero, add-suc, suc-add}
use native.Mathlib.Omega.{arith}
use native.Mathlib.Numerals.{add-one}
use lib.Dec.{eqb, leb, ltb}
use lib.ListN.{length, get_or, take, drop, drop_of_length-le, length-drop, length-take}
use lib.Seq.{drop-cons, take_all}
use borrow.Author.Tests.{lt-leb, le-leb, ne_eqb, eq-eqb, lt-ltb, ltb-true, ltb-false}
use Rattle.base_lists.specs.Lists.{run}
use Rattle.base_lists.proofs.Scan.{run_le}
use Rattle.base_bytes.specs.Bytes.{within}
use Rattle.text_names.specs.Tested.{tested}
use Rattle.text_names.specs.Computed.{is_size, tag_from, language_by, tag_passes}

size_false : (k : ℕ) → (k < 1) → is_size k ≡ false
unfolding is_size within
size_false k h = rw (lt-leb 1 k h)

size_false_2 : (k : ℕ) → (8 < k) → is_size k ≡ false
unfolding is_size within
size_false_2 k h = rw (le-leb 1 k (omega arith), lt-leb k 8 h)

size_true : (k : ℕ) → (1 ≤ k) → (k ≤ 8) → is_size k ≡ true
unfolding is_size within
size_true k h l = rw (le-leb 1 k h, le-leb k 8 l)

size_some : (k : ℕ) → k ≤ 8 → ltb 0 k ≡ is_size k
unfolding is_size within
size_some k h = go (ltb 0 k) refl
  where
    go : (x : Bool) → ltb 0 k ≡ x → x ≡ (leb 1 k && leb k 8)
    go true p = rw (le-leb 1 k (ltb-true 0 k p), le-leb k 8 h)
    go false p = rw (lt-leb 1 k (omega (arith, ltb-false 0 k p)))

module _ (f : ℕ → Bool) where
  -- the answer for what follows, where `at` bytes are passed and k of the present subtag are read
  abbrev pub answer : List ℕ → ℕ → ℕ → Result (Unit {0}) ℕ
  answer s k at = tested (tag_from f s k) (at + tag_passes f s k)

  -- what follows the run, where the subtag has k bytes
  tag_end : List ℕ → ℕ → Bool
  tag_end [] k = is_size k
  tag_end (a ∷ s) k = is_size k && (eqb a 45 && tag_from f s 0)

  pass_end : List ℕ → ℕ → ℕ
  pass_end [] k = 0
  pass_end (a ∷ s) k = cond (leb 1 k && eqb a 45) (suc (tag_passes f s 0)) 0

  tag_run : (s : List ℕ) (k : ℕ) → tag_from f s k ≡ tag_end (drop (run f s) s) (k + run f s)
  unfolding tag_from run tag_end
  tag_run [] k = rw add-zero
  tag_run (a ∷ s) k = go (f a) refl (tag_run s (suc k))
    where
      go : (b : Bool) → f a ≡ b → tag_from f s (suc k) ≡ tag_end (drop (run f s) s) (suc k + run f s) → tag_from f (a ∷ s) k ≡ tag_end (drop (run f (a ∷ s)) (a ∷ s)) (k + run f (a ∷ s))
      go true e h = rw (e, h, add-suc, suc-add)
      go false e h = rw (e, add-zero)

  -- a run that a subtag can hold is passed whole; of a longer one as much as a subtag can hold
  pass_run : (s : List ℕ) (k : ℕ) → k + run f s ≤ 8 → tag_passes f s k ≡ run f s + pass_end (drop (run f s) s) (k + run f s)
  unfolding tag_passes run pass_end
  pass_run [] k h = refl
  pass_run (a ∷ s) k h = go (f a) refl h (λ l. pass_run s (suc k) l)
    where
      go : (b : Bool) → f a ≡ b → k + cond b (suc (run f s)) 0 ≤ 8 → (suc k + run f s ≤ 8 → tag_passes f s (suc k) ≡ run f s + pass_end (drop (run f s) s) (suc k + run f s)) → tag_passes f (a ∷ s) k ≡ run f (a ∷ s) + pass_end (drop (run f (a ∷ s)) (a ∷ s)) (k + run f (a ∷ s))
      go true e l ih = rw (e, lt-ltb k 8 (omega arith), ih (omega arith), add-suc, suc-add, suc-add)
      go false e l ih = rw (e, add-zero, zero-add)

  pass_long : (s : List ℕ) (k : ℕ) → k ≤ 8 → 8 < k + run f s → k + tag_passes f s k ≡ 8
  unfolding tag_passes run
  pass_long [] k h l = absurd (omega arith)
  pass_long (a ∷ s) k h l = go (f a) refl (ltb k 8) refl l (λ n m. pass_long s (suc k) n m)
    where
      go : (b : Bool) → f a ≡ b → (c : Bool) → ltb k 8 ≡ c → 8 < k + cond b (suc (run f s)) 0 → (suc k ≤ 8 → 8 < suc k + run f s → suc k + tag_passes f s (suc k) ≡ 8) → k + tag_passes f (a ∷ s) k ≡ 8
      go true e true p m ih = rw (e, p) (omega (arith, ih (omega (arith, ltb-true k 8 p)) (omega arith)))
      go true e false p m ih = rw (e, p) (omega (arith, ltb-false k 8 p))
      go false e c p m ih = absurd (omega arith)

  -- the answer, where the present subtag is the run
  run-answer : (s : List ℕ) (at : ℕ) → run f s ≤ 8 → answer s 0 at ≡ tested (tag_end (drop (run f s) s) (run f s)) (at + (run f s + pass_end (drop (run f s) s) (run f s)))
  run-answer s at h = rw (tag_run s 0, pass_run s 0 (omega arith), zero-add)

  end_none : (s : List ℕ) (k : ℕ) → is_size k ≡ false → tag_end s k ≡ false
  unfolding tag_end
  end_none [] k e = e
  end_none (a ∷ s) k e = rw e

  pass_none : (s : List ℕ) → pass_end s 0 ≡ 0
  unfolding pass_end
  pass_none [] = refl
  pass_none (a ∷ s) = refl

  module _ {n : ℕ} (s : List ℕ) (at : ℕ) (is : n ≡ 0 + run f s) where
    pub short : n < 1 → Err at ≡ answer s 0 at
    short h =
        let z : run f s ≡ 0 = omega arith in
        sym (run-answer s at (omega arith) ∙ (rw (end_none (drop (run f s) s) (run f s) (size_false (run f s) (omega arith)), z, pass_none s, add-zero)))

    pub long : 8 < n → Err (at + 8) ≡ answer s 0 at
    long h =
        let z : tag_passes f s 0 ≡ 8 = rw zero-add at (pass_long s 0 (omega arith) (omega arith)) in
        rw (tag_run s 0, zero-add, end_none (drop (run f s) s) (run f s) (size_false_2 (run f s) (omega arith)), z)

    module _ (l : 1 ≤ n) (m : n ≤ 8) where
      pub one : n ≡ length s → Ok tt ≡ answer s 0 at
      unfolding tag_end
      one e = sym (run-answer s at (omega arith) ∙ (rw (drop_of_length-le s {i = run f s} (omega arith), size_true (run f s) (omega arith) (omega arith))))

      module _ (e : n < length s) where
        -- what stands behind the run
        behind : answer s 0 at ≡ tested (eqb (get_or s n 0) 45 && tag_from f (drop (n + 1) s) 0) (at + (n + cond (eqb (get_or s n 0) 45) (suc (tag_passes f (drop (n + 1) s) 0)) 0))
        unfolding tag_end pass_end
        behind = let z : run f s ≡ n = omega arith in run-answer s at (omega arith) ∙ (rw (z, drop-cons s n 0 e, size_true n l m, le-leb 1 n l, add-one n))

        pub no_hyphen : (get_or s n 0 ≡ 45 → ⊥) → Err (at + n) ≡ answer s 0 at
        no_hyphen q = sym (behind ∙ (rw (ne_eqb (get_or s n 0) 45 q, add-zero)))

        -- the rest of the slice, as the code makes it
        pub next : get_or s n 0 ≡ 45 → answer (take (length s - (n + 1)) (drop (n + 1) s)) 0 (at + n + 1) ≡ answer s 0 at
        next q =
            let z : at + n + 1 + tag_passes f (drop (n + 1) s) 0 ≡ at + (n + suc (tag_passes f (drop (n + 1) s) 0)) = omega arith in
            rw (take_all (length s - (n + 1)) (drop (n + 1) s) (simp length-drop (omega arith)), z) (sym (behind ∙ (rw (eq-eqb (get_or s n 0) 45 q))))

  -- ---- a byte at a time: where k bytes of the present subtag are read before i, and the answer is r
  pub record Reads (s : List ℕ) (r : Result (Unit {0}) ℕ) (i k : ℕ) : Type 0 where
    pub rest : answer (drop i s) k i ≡ r
    pub few : k ≤ 8
    pub within : i ≤ length s

  pub reads_start : (s : List ℕ) → Reads s (tested (tag_from f s 0) (tag_passes f s 0)) 0 0
  reads_start s = record { rest = rw zero-add; few = omega arith; within = omega arith }

  -- a subtag has at most eight
  pub nine : (s : List ℕ) (k : ℕ) → 8 < k → tag_from f s k ≡ false
  nine s k h = tag_run s k ∙ end_none (drop (run f s) s) (k + run f s) (size_false_2 (k + run f s) (omega arith))

  module _ {s : List ℕ} {r : Result (Unit {0}) ℕ} {i k : ℕ} (inv : Reads s r i k) where
    pub reads_end : length s ≤ i → tested (ltb 0 k) (length s) ≡ r
    unfolding tag_from tag_passes
    reads_end h = let z : length s ≡ i = omega (arith, inv.within) in rw (z, size_some k inv.few) (rw (drop_of_length-le s {i = i} h, add-zero) at inv.rest)

    module _ (h : i < length s) where
      ahead : answer (get_or s i 0 ∷ drop (suc i) s) k i ≡ r
      ahead = rw (drop-cons s i 0 h) at inv.rest

      pub reads_more : f (get_or s i 0) ≡ true → (k ≡ 8 → ⊥) → Reads s r (i + 1) (k + 1)
      unfolding tag_from tag_passes
      reads_more e n =
          let p = rw (e, lt-ltb k 8 (omega (arith, inv.few, n)), add-suc) at ahead in
          record { rest = rw (add-one i, add-one k, suc-add) p; few = omega (arith, inv.few, n); within = omega arith }

      pub reads_nine : f (get_or s i 0) ≡ true → k ≡ 8 → Err i ≡ r
      unfolding tag_from tag_passes
      reads_nine e n = rw (e, n, nine (drop (suc i) s) 9 (omega arith), add-zero) at ahead

      module _ (q : f (get_or s i 0) ≡ false) where
        pub reads_other : (get_or s i 0 ≡ 45 → ⊥) → Err i ≡ r
        unfolding tag_from tag_passes
        reads_other n = rw (q, ne_eqb (get_or s i 0) 45 n, neither (is_size k), neither (leb 1 k), add-zero) at ahead
          where
            neither : (x : Bool) → (x && false) ≡ false
            neither true = refl
            neither false = refl

        pub reads_empty : k ≡ 0 → Err i ≡ r
        unfolding tag_from tag_passes is_size within
        reads_empty z = rw (q, z, add-zero) at ahead

        pub reads_hyphen : get_or s i 0 ≡ 45 → (k ≡ 0 → ⊥) → Reads s r (i + 1) 0
        unfolding tag_from tag_passes
        reads_hyphen e n =
            let p = rw (q, eq-eqb (get_or s i 0) 45 e, size_true k (omega (arith, n)) inv.few, le-leb 1 k (omega (arith, n)), add-suc) at ahead in
            record { rest = rw (add-one i, suc-add) p; few = omega arith; within = omega arith }

-- the run lies in the list, whatever the test, and the rest behind it is shorter
pub fits : (f : ℕ → Bool) (s : List ℕ) {n : ℕ} → n ≡ 0 + run f s → n ≤ length s
fits f s is = omega (arith, run_le f s)

pub less : (s : List ℕ) {n t : ℕ} → length s ≡ t → n < length s → length (take (length s - (n + 1)) (drop (n + 1) s)) < t
less s e h = simp (length-take, length-drop) (omega arith)

pub rest_fits : (s : List ℕ) (at n t : ℕ) → at + length s ≤ t → n < length s → at + n + 1 + length (take (length s - (n + 1)) (drop (n + 1) s)) ≤ t
rest_fits s at n t e h = simp (length-take, length-drop) (omega arith)

-- no more is passed than is there
pub pass_le : (f : ℕ → Bool) (s : List ℕ) (k : ℕ) → tag_passes f s k ≤ length s
unfolding tag_passes
pass_le f [] k = zero-le
pass_le f (a ∷ s) k = go (f a) (ltb k 8) (leb 1 k && eqb a 45) (pass_le f s (suc k)) (pass_le f s 0)
  where
    go : (x y z : Bool) → tag_passes f s (suc k) ≤ length s → tag_passes f s 0 ≤ length s → cond x (cond y (suc (tag_passes f s (suc k))) 0) (cond z (suc (tag_passes f s 0)) 0) ≤ suc (length s)
    go true true z h l = omega arith
    go true false z h l = zero-le
    go false y true h l = omega arith
    go false y false h l = zero-le

-- what stands behind `:`: nothing, or a tag
pub language_none : (f : ℕ → Bool) (s : List ℕ) → length s ≡ 0 → Ok tt ≡ tested (language_by f s) (tag_passes f s 0)
unfolding language_by
language_none f [] h = refl
language_none f (a ∷ s) h = absurd (omega arith)

pub language_some : (f : ℕ → Bool) (s : List ℕ) → (length s ≡ 0 → ⊥) → tested (tag_from f s 0) (tag_passes f s 0) ≡ tested (language_by f s) (tag_passes f s 0)
unfolding language_by
language_some f [] h = absurd (h refl)
language_some f (a ∷ s) h = refl

pub from_front : (f : ℕ → Bool) (s : List ℕ) → answer f s 0 0 ≡ tested (tag_from f s 0) (tag_passes f s 0)
from_front f s = rw zero-add

-- tests that are the same answer alike
pub same_tag : {f g : ℕ → Bool} → f ≡ g → (s : List ℕ) → answer f s 0 0 ≡ tested (tag_from g s 0) (tag_passes g s 0)
same_tag {g = g} e s = (λ j. answer (e j) s 0 0) ∙ from_front g s

pub same_language : {f g : ℕ → Bool} → f ≡ g → (s : List ℕ) → tested (language_by f s) (tag_passes f s 0) ≡ tested (language_by g s) (tag_passes g s 0)
same_language e s = λ j. tested (language_by (e j) s) (tag_passes (e j) s 0)
