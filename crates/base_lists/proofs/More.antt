-- Tests of bytes against lists of them, and parts of lists: what the grammar's proofs ask of `all`, `headed`, `run` and `same`.
-- Assumes nothing.
use mathlib.Core.Path.{◌≡◌, refl, sym, ◌∙◌}
use mathlib.Core.Bool.{Bool, true, false, not, ◌||◌, cond, true≢false}
use mathlib.Core.List.{List, [], ◌∷◌, ◌++◌}
use Prim.Native.Nat.{ℕ, suc, ◌<◌}
use native.Mathlib.Omega.{arith}
use lib.Dec.{eqb}
use lib.ListN.{length, get_or, take, drop}
use lib.Seq.{take-append_seam, drop-append_seam}
use borrow.Author.Tests.{eqb-true, eqb-false, ne_eqb, eq-eqb, not-true}
use Rattle.base_lists.specs.Lists.{all, headed, run, is_in, same}
use Rattle.base_lists.proofs.Scan.{both}

-- a test that passes and fails proves anything
pub contra : {A : Type 0} (a : Bool) → a ≡ true → a ≡ false → A
contra a p q = absurd (true≢false (sym p ∙ q))

pub or_left : (a b : Bool) → a ≡ true → (a || b) ≡ true
or_left true b e = refl
or_left false b e = contra false e refl

pub or_right : (a b : Bool) → b ≡ true → (a || b) ≡ true
or_right true b e = refl
or_right false b e = e

-- ---- a byte and a list of bytes

-- a byte that passes is none that fails
pub apart : (f : ℕ → Bool) (a b : ℕ) → f a ≡ true → f b ≡ false → eqb a b ≡ false
apart f a b p q = ne_eqb a b (λ e. contra (f a) p (rw e q))

-- a byte of the list l has what each byte of l has
pub among : (f : ℕ → Bool) (l : List ℕ) (b : ℕ) → all f l ≡ true → is_in l b ≡ true → f b ≡ true
unfolding is_in all
among f [] b h e = contra false e refl
among f (a ∷ l) b h e = go (eqb b a) refl e (among f l b (both (f a) (all f l) h).1)
  where
    go : (c : Bool) → eqb b a ≡ c → (c || is_in l b) ≡ true → (is_in l b ≡ true → f b ≡ true) → f b ≡ true
    go true q e ih = rw (eqb-true b a q) (both (f a) (all f l) h).0
    go false q e ih = ih e

pub among_not : (f : ℕ → Bool) (l : List ℕ) (b : ℕ) → all (λ x. not (f x)) l ≡ true → is_in l b ≡ true → f b ≡ false
among_not f l b h e = not-true (f b) (among (λ x. not (f x)) l b h e)

-- a byte that passes is in no list whose bytes all fail
pub not_in : (f : ℕ → Bool) (l : List ℕ) (b : ℕ) → all (λ x. not (f x)) l ≡ true → f b ≡ true → is_in l b ≡ false
not_in f l b h e = go (is_in l b) refl
  where
    go : (c : Bool) → is_in l b ≡ c → c ≡ false
    go true q = contra (f b) e (among_not f l b h q)
    go false q = refl

-- ---- all, headed
pub all_parts : {A : Type 0} (f : A → Bool) (s t : List A) → all f (s ++ t) ≡ true → (all f s ≡ true) × (all f t ≡ true)
unfolding all
all_parts f [] t h = (refl, h)
all_parts f (a ∷ s) t h =
    let g = both (f a) (all f (s ++ t)) h in
    let k = all_parts f s t g.1 in
    (rw g.0 k.0, k.1)

pub all_weaker : {A : Type 0} (f g : A → Bool) → ((a : A) → f a ≡ true → g a ≡ true) → (s : List A) → all f s ≡ true → all g s ≡ true
unfolding all
all_weaker f g w [] e = refl
all_weaker f g w (a ∷ s) e = let h = both (f a) (all f s) e in rw (w a h.0) (all_weaker f g w s h.1)

pub headed-all : (f g : ℕ → Bool) → ((b : ℕ) → f b ≡ true → g b ≡ true) → (s : List ℕ) → headed f g s ≡ true → all g s ≡ true
unfolding headed all
headed-all f g w [] e = refl
headed-all f g w (a ∷ s) e = let h = both (f a) (all g s) e in rw (w a h.0) h.1

pub headed_weaker : (f f' g : ℕ → Bool) → ((b : ℕ) → f b ≡ true → f' b ≡ true) → (s : List ℕ) → headed f g s ≡ true → headed f' g s ≡ true
unfolding headed
headed_weaker f f' g w [] e = e
headed_weaker f f' g w (a ∷ s) e = let h = both (f a) (all g s) e in rw (w a h.0) h.1

-- ---- the run at the front: where bytes that pass are followed by none that does, it is just those
abbrev pub stops : (ℕ → Bool) → List ℕ → Bool
stops f [] = true
stops f (b ∷ s) = not (f b)

run_none : (f : ℕ → Bool) (t : List ℕ) → stops f t ≡ true → run f t ≡ 0
unfolding run
run_none f [] h = refl
run_none f (b ∷ t) h = rw (not-true (f b) h)

pub run_is : (f : ℕ → Bool) (k t : List ℕ) → all f k ≡ true → stops f t ≡ true → run f (k ++ t) ≡ length k
unfolding run all
run_is f [] t e h = run_none f t h
run_is f (a ∷ k) t e h = let g = both (f a) (all f k) e in rw (g.0, run_is f k t g.1 h)

pub take-run : (f : ℕ → Bool) (k t : List ℕ) → all f k ≡ true → stops f t ≡ true → take (run f (k ++ t)) (k ++ t) ≡ k
take-run f k t e h = rw (run_is f k t e h) (take-append_seam k t)

pub drop-run : (f : ℕ → Bool) (k t : List ℕ) → all f k ≡ true → stops f t ≡ true → drop (run f (k ++ t)) (k ++ t) ≡ t
drop-run f k t e h = rw (run_is f k t e h) (drop-append_seam k t)

-- the run ends at a byte that fails
pub run_stops : (f : ℕ → Bool) (s : List ℕ) → run f s < length s → f (get_or s (run f s) 0) ≡ false
unfolding run
run_stops f [] h = absurd (omega arith)
run_stops f (a ∷ s) h = go (f a) refl h (run_stops f s)
  where
    go : (c : Bool) → f a ≡ c → cond c (suc (run f s)) 0 < suc (length s) → (run f s < length s → f (get_or s (run f s) 0) ≡ false) → f (get_or (a ∷ s) (cond c (suc (run f s)) 0) 0) ≡ false
    go true p h ih = ih (omega arith)
    go false p h ih = p

-- ---- same
pub eqb_sym : (a b : ℕ) → eqb a b ≡ eqb b a
eqb_sym a b = go (eqb a b) refl
  where
    go : (x : Bool) → eqb a b ≡ x → x ≡ eqb b a
    go true p = sym (eq-eqb b a (sym (eqb-true a b p)))
    go false p = sym (ne_eqb b a (λ e. eqb-false a b p (sym e)))

pub same_sym : (a b : List ℕ) → same a b ≡ same b a
unfolding same
same_sym [] [] = refl
same_sym [] (b ∷ t) = refl
same_sym (a ∷ s) [] = refl
same_sym (a ∷ s) (b ∷ t) = rw (eqb_sym a b, same_sym s t)
