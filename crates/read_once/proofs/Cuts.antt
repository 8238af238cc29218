-- A text cut at c, where its block closes: what is found before c is found in the cut text too.
-- Assumes nothing.
use Rattle.std.specs.Prelude.{Some}
use mathlib.Core.Path.{◌≡◌, refl, sym, ◌∙◌, ap}
use mathlib.Core.Bool.{Bool, true, false, cond}
use mathlib.Core.List.{List, [], ◌∷◌}
use Prim.Native.Nat.{ℕ, zero, suc, ◌+◌, ◌-◌, ◌<◌, ◌≤◌}
use native.Mathlib.Omega.{arith}
use lib.Dec.{eqb}
use lib.ListN.{length, get_or, take, drop}
use lib.Seq.{take-nil, take-take, length-take-le, get_or-take}
use Rattle.base_lists.specs.Lists.{run, first_is}
use Rattle.base_lists.proofs.More.{contra}
use Rattle.base_lists.proofs.Parts.{drop-take}
use Rattle.base_letters.specs.Classes.{front_run}
use Rattle.block_grammar.specs.Computed.{Shut, later, shut_step, shut_of}
use Rattle.block_tokens.specs.Inner.{part, shut_at}
use Rattle.block_tokens.proofs.Quotes.{Closed, closed}

-- ---- of the front of a list
run_front : (f : ℕ → Bool) (n : ℕ) (l : List ℕ) → run f l ≤ n → run f (take n l) ≡ run f l
unfolding run
run_front f n [] h = rw take-nil
run_front f zero (a ∷ l) h = omega arith
run_front f (suc n) (a ∷ l) h = go (f a) refl h (run_front f n l)
  where
    go : (x : Bool) → f a ≡ x → cond x (suc (run f l)) 0 ≤ suc n → (run f l ≤ n → run f (take n l) ≡ run f l) → cond x (suc (run f (take n l))) 0 ≡ cond x (suc (run f l)) 0
    go true p h ih = ap (λ k. suc k) (ih (omega arith))
    go false p h ih = refl

front_front : (f g : ℕ → Bool) (n : ℕ) (l : List ℕ) → front_run f g l ≤ n → front_run f g (take n l) ≡ front_run f g l
front_front f g n [] h = rw take-nil
front_front f g zero (a ∷ l) h = omega arith
front_front f g (suc n) (a ∷ l) h = go (f a) h
  where
    go : (x : Bool) → cond x (suc (run g l)) 0 ≤ suc n → cond x (suc (run g (take n l))) 0 ≡ cond x (suc (run g l)) 0
    go true h = ap (λ k. suc k) (run_front g n l (omega arith))
    go false h = refl

first_front : (f : ℕ → Bool) (n : ℕ) (l : List ℕ) → 0 < n → first_is f (take n l) ≡ first_is f l
first_front f n [] h = rw take-nil
first_front f zero (a ∷ l) h = absurd (omega arith)
first_front f (suc n) (a ∷ l) h = refl

first_fails : (f : ℕ → Bool) (n : ℕ) (l : List ℕ) → first_is f l ≡ false → first_is f (take n l) ≡ false
first_fails f n [] h = rw take-nil
first_fails f zero (a ∷ l) h = refl
first_fails f (suc n) (a ∷ l) h = h

later_is : (c : Shut) {k : ℕ} → later c ≡ Shut.after k → (j : ℕ) → k ≡ suc j → c ≡ Shut.after j
later_is Shut.never e j p = contra true refl (cc)
later_is (Shut.after i) {k} e j p = let z : suc i ≡ k = cc in ap (λ x. Shut.after x) (omega arith)

later_some : (c : Shut) {k : ℕ} → later c ≡ Shut.after k → k ≡ suc (k - 1)
later_some Shut.never e = contra true refl (cc)
later_some (Shut.after i) {k} e = let z : suc i ≡ k = cc in omega arith

shut_front : (q n : ℕ) (l : List ℕ) (x : Bool) (k : ℕ) → shut_of q l x ≡ Shut.after k → k < n → shut_of q (take n l) x ≡ Shut.after k
unfolding shut_of
shut_front q n [] x k e h = contra true refl (cc)
shut_front q zero (b ∷ l) x k e h = absurd (omega arith)
shut_front q (suc n) (b ∷ l) x k e h = go x (eqb b q) (eqb b 92) e (λ v j. shut_front q n l v j)
  where
    on : (v : Bool) → later (shut_of q l v) ≡ Shut.after k → ((v : Bool) (j : ℕ) → shut_of q l v ≡ Shut.after j → j < n → shut_of q (take n l) v ≡ Shut.after j) → later (shut_of q (take n l) v) ≡ Shut.after k
    on v e ih =
        let z = later_some (shut_of q l v) e in
        ap later (ih v (k - 1) (later_is (shut_of q l v) e (k - 1) z) (omega arith)) ∙ ap (λ j. Shut.after j) (sym z)

    go : (x y z : Bool) → shut_step x y z (λ v. shut_of q l v) ≡ Shut.after k → ((v : Bool) (j : ℕ) → shut_of q l v ≡ Shut.after j → j < n → shut_of q (take n l) v ≡ Shut.after j) → shut_step x y z (λ v. shut_of q (take n l) v) ≡ Shut.after k
    go true y z e ih = on false e ih
    go false true z e ih = e
    go false false z e ih = on z e ih

-- ---- of the text cut at c, behind e
pub record Cut (t : List ℕ) (e c : ℕ) : Type 0 where
  pub low : e ≤ c
  pub high : c < length t

module _ {t : List ℕ} {e c : ℕ} (u : Cut t e c) where
  pub cut-length : length (take c t) ≡ c
  cut-length = length-take-le c t (omega (arith, u.high))

  pub cut_le : {a : ℕ} → a ≤ e → a ≤ length (take c t)
  cut_le h = rw cut-length (omega (arith, u.low))

  pub cut_lt : {a : ℕ} → a < e → a < length (take c t)
  cut_lt h = rw cut-length (omega (arith, u.low))

  pub cut-run : (f : ℕ → Bool) (a : ℕ) → e ≡ a + run f (drop a t) → e ≡ a + run f (drop a (take c t))
  cut-run f a is = is ∙ ap (λ k. a + k) (rw (drop-take a c t) (sym (run_front f (c - a) (drop a t) (omega (arith, u.low)))))

  pub cut_front : (f g : ℕ → Bool) (a : ℕ) → e ≡ a + front_run f g (drop a t) → e ≡ a + front_run f g (drop a (take c t))
  cut_front f g a is = is ∙ ap (λ k. a + k) (rw (drop-take a c t) (sym (front_front f g (c - a) (drop a t) (omega (arith, u.low)))))

  pub cut_first : (f : ℕ → Bool) (a : ℕ) {x : Bool} → a < e → x ≡ first_is f (drop a t) → x ≡ first_is f (drop a (take c t))
  cut_first f a h p = p ∙ (rw (drop-take a c t) (sym (first_front f (c - a) (drop a t) (omega (arith, u.low)))))

  pub cut_fails : (f : ℕ → Bool) (a : ℕ) → first_is f (drop a t) ≡ false → first_is f (drop a (take c t)) ≡ false
  cut_fails f a p = rw (drop-take a c t) (first_fails f (c - a) (drop a t) p)

  pub cut-part : (i k : ℕ) → k ≤ e → part i k (take c t) ≡ part i k t
  cut-part i k h = rw (drop-take i c t) (take-take (k - i) (c - i) (drop i t) (omega (arith, u.low)))

  pub cut_byte : (k : ℕ) → k < e → get_or (take c t) k 0 ≡ get_or t k 0
  cut_byte k h = get_or-take c t k 0 (omega (arith, u.low))

-- a quote that closes before c
pub cut_closed : (q : ℕ) {t : List ℕ} {c : ℕ} (a : ℕ) {e : ℕ} → Cut t (e + 1) c → Some e ≡ shut_at a (shut_of q (drop a t) false) → a ≤ length t → Closed q (take c t) a e
cut_closed q {t} {c} a {e} u h l =
    let d = closed q t a h l in
    record {
      count = d.count;
      found = rw (drop-take a c t) (shut_front q (c - a) (drop a t) false d.count d.found (omega (arith, d.place, u.low)));
      place = d.place;
      within = rw (cut-length u) (omega (arith, u.low));
    }
