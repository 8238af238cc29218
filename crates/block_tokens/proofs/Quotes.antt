-- The loop that looks for the closing quote, and the text in quotes.
-- Assumes nothing.
use Rattle.std.specs.Prelude.{None, Option, Some}
use mathlib.Core.Path.{◌≡◌, refl, ap}
use mathlib.Core.Bool.{Bool, true, false}
use mathlib.Core.List.{List, [], ◌∷◌}
use Prim.Native.Nat.{ℕ, suc, ◌+◌, ◌<◌, ◌≤◌}
use native.Mathlib.Nat.{add-zero}
use native.Mathlib.Omega.{arith}
use native.Mathlib.Numerals.{add-one}
use lib.Dec.{eqb}
use lib.ListN.{length, get_or, drop, drop_of_length-le, length-drop}
use lib.Seq.{drop-cons, drop-drop}
use borrow.Author.Tests.{eq-eqb, ne_eqb}
use Rattle.base_lists.proofs.More.{contra}
use Rattle.block_grammar.specs.Computed.{Shut, later, shut_step, shut_of}
use Rattle.block_tokens.specs.Inner.{shut_at}

at_later : (k : ℕ) (c : Shut) → shut_at k (later c) ≡ shut_at (suc k) c
at_later k Shut.never = refl
at_later k (Shut.after n) = ap (λ x. Some x) (omega arith)

-- a backslash covers the next byte, if there is one
covered : (q : ℕ) (t : List ℕ) → shut_of q t true ≡ later (shut_of q (drop 1 t) false)
unfolding shut_of
covered q [] = refl
covered q (b ∷ t) = refl

-- the loop stands before byte k, which no backslash covers, and the answer is r
pub record Quotes (q : ℕ) (s : List ℕ) (r : Option ℕ) (k : ℕ) : Type 0 where
  pub rest : shut_at k (shut_of q (drop k s) false) ≡ r

pub start : (q : ℕ) (s : List ℕ) (i : ℕ) → Quotes q s (shut_at i (shut_of q (drop i s) false)) i
start q s i = record { rest = refl }

module _ {q : ℕ} {s : List ℕ} {r : Option ℕ} {k : ℕ} (inv : Quotes q s r k) where
  pub end : length s ≤ k → None ≡ r
  unfolding shut_of
  end h = rw (drop_of_length-le s h) at inv.rest

  module _ (h : k < length s) where
    pub shut : get_or s k 0 ≡ q → Some k ≡ r
    unfolding shut_of
    shut e = rw (drop-cons s k 0 h, eq-eqb (get_or s k 0) q e, add-zero) at inv.rest

    pub pair : (get_or s k 0 ≡ q → ⊥) → get_or s k 0 ≡ 92 → Quotes q s r (k + 2)
    unfolding shut_of
    pair n e =
        let two : k + 2 ≡ suc (suc k) = omega arith in
        let p = rw (drop-cons s k 0 h, ne_eqb (get_or s k 0) q n, eq-eqb (get_or s k 0) 92 e, covered q (drop (suc k) s), at_later, at_later, drop-drop 1 (suc k) s, add-one (suc k)) at inv.rest in
        record { rest = rw two p }

    pub byte : (get_or s k 0 ≡ q → ⊥) → (get_or s k 0 ≡ 92 → ⊥) → Quotes q s r (k + 1)
    unfolding shut_of
    byte n e = record { rest = rw add-one (rw (drop-cons s k 0 h, ne_eqb (get_or s k 0) q n, ne_eqb (get_or s k 0) 92 e, at_later) at inv.rest) }

-- ---- the closing quote stands in the text
later-fits : (c : Shut) {n l : ℕ} → later c ≡ Shut.after n → ((k : ℕ) → c ≡ Shut.after k → k < l) → n < suc l
later-fits Shut.never e h = contra true refl (cc)
later-fits (Shut.after k) {n} e h = let z : suc k ≡ n = cc in omega (arith, h k refl)

shut_fits : (q : ℕ) (s : List ℕ) (escaped : Bool) (n : ℕ) → shut_of q s escaped ≡ Shut.after n → n < length s
unfolding shut_of
shut_fits q [] escaped n e = contra true refl (cc)
shut_fits q (b ∷ s) escaped n e = go escaped (eqb b q) (eqb b 92) e (λ x k. shut_fits q s x k)
  where
    go : (x y z : Bool) → shut_step x y z (λ v. shut_of q s v) ≡ Shut.after n → ((v : Bool) (k : ℕ) → shut_of q s v ≡ Shut.after k → k < length s) → n < suc (length s)
    go true y z e ih = later-fits (shut_of q s false) e (ih false)
    go false true z e ih = let w : 0 ≡ n = cc in omega arith
    go false false z e ih = later-fits (shut_of q s z) e (ih z)

-- a quote that closes at e, whose text begins at a
pub record Closed (q : ℕ) (s : List ℕ) (a e : ℕ) : Type 0 where
  pub count : ℕ
  pub found : shut_of q (drop a s) false ≡ Shut.after count
  pub place : e ≡ a + count
  pub within : e < length s

pub closed : (q : ℕ) (s : List ℕ) (a : ℕ) {e : ℕ} → Some e ≡ shut_at a (shut_of q (drop a s) false) → a ≤ length s → Closed q s a e
closed q s a {e} h l = go (shut_of q (drop a s) false) refl h
  where
    go : (c : Shut) → shut_of q (drop a s) false ≡ c → Some e ≡ shut_at a c → Closed q s a e
    go Shut.never p h = contra true refl (cc)
    go (Shut.after n) p h =
        let z : e ≡ a + n = cc in
        record { count = n; found = p; place = z; within = omega (arith, shut_fits q (drop a s) false n p, length-drop a s) }
