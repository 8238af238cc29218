-- Letter case changes no answer.
-- Assumes nothing.
use mathlib.Core.Path.{◌≡◌, refl, sym, ap}
use mathlib.Core.Bool.{Bool, true, false, cond, not, ◌||◌}
use mathlib.Core.List.{List, [], ◌∷◌, ◌++◌}
use Prim.Native.Nat.{ℕ, ◌+◌}
use native.Mathlib.Omega.{arith}
use lib.Dec.{eqb}
use lib.ListN.{length, replicate}
use Rattle.base_lists.specs.Lists.{all, first_is, same}
use Rattle.base_lists.proofs.Steady.{steady, values}
use Rattle.base_lists.proofs.Scan.{both}
use Rattle.base_lists.proofs.Same.{same_true}
use Rattle.base_bytes.specs.Bytes.{within, is_letter, is_digit, is_alnum}
use Rattle.text_langtags.specs.Letters.{small, smalls, is_x, is_listed}
use Rattle.text_langtags.specs.Computed.{subtag_kind, next_stage, stage_from, is_unlisted, is_well_formed, is_allowed}
use Rattle.text_langtags.specs.declared.Stage.{Stage}
use Rattle.text_langtags.specs.declared.Stage.TheVariants as at
use Rattle.text_langtags.proofs.Subtags.{low, high}

-- two tests agree
abbrev pub agree : Bool → Bool → Bool
agree p q = cond p q (not q)

agree_true : (p q : Bool) → true ≡ agree p q → p ≡ q
agree_true true q e = e
agree_true false true e = sym e
agree_true false false e = refl

-- a test that holds of a large letter as of its small one
pub cased : (f : ℕ → Bool) → values (λ b. agree (f (b + 32)) (f b)) 26 65 ≡ replicate 26 true → (b : ℕ) → f (small b) ≡ f b
unfolding small
cased f e b = go (within 65 90 b) refl
  where
    go : (c : Bool) → within 65 90 b ≡ c → f (cond c (b + 32) b) ≡ f b
    go true q = agree_true (f (b + 32)) (f b) (steady (λ b. agree (f (b + 32)) (f b)) true 65 26 b e (low 65 90 b q) (omega (arith, high 65 90 b q)))
    go false q = refl

pub letter_cased : (b : ℕ) → is_letter (small b) ≡ is_letter b
unfolding is_letter within
letter_cased = cased is_letter refl

pub digit_cased : (b : ℕ) → is_digit (small b) ≡ is_digit b
unfolding is_digit within
digit_cased = cased is_digit refl

pub alnum_cased : (b : ℕ) → is_alnum (small b) ≡ is_alnum b
unfolding is_alnum is_letter is_digit within
alnum_cased = cased is_alnum refl

pub x_cased : (b : ℕ) → is_x (small b) ≡ is_x b
unfolding is_x small within
x_cased = cased is_x refl

pub hyphen_cased : (b : ℕ) → eqb (small b) 45 ≡ eqb b 45
hyphen_cased = cased (λ b. eqb b 45) refl

all_cased : (f : ℕ → Bool) → ((b : ℕ) → f (small b) ≡ f b) → (t : List ℕ) → all f (smalls t) ≡ all f t
unfolding all smalls
all_cased f h [] = refl
all_cased f h (b ∷ t) = rw (h b, all_cased f h t)

pub first_cased : (f : ℕ → Bool) → ((b : ℕ) → f (small b) ≡ f b) → (t : List ℕ) → first_is f (smalls t) ≡ first_is f t
unfolding smalls
first_cased f h [] = refl
first_cased f h (b ∷ t) = h b

size_cased : (t : List ℕ) → length (smalls t) ≡ length t
unfolding smalls
size_cased [] = refl
size_cased (b ∷ t) = rw (size_cased t)

kind_cased : (t : List ℕ) → subtag_kind (smalls t) ≡ subtag_kind t
unfolding subtag_kind
kind_cased t =
    rw (size_cased t, first_cased is_x x_cased t, first_cased is_digit digit_cased t, all_cased is_letter letter_cased t, all_cased is_digit digit_cased t, all_cased is_alnum alnum_cased t)

snoc_cased : (t : List ℕ) (b : ℕ) → smalls (t ++ (b ∷ [])) ≡ smalls t ++ (small b ∷ [])
unfolding smalls
snoc_cased [] b = refl
snoc_cased (a ∷ t) b = ap (λ (l : List ℕ). small a ∷ l) (snoc_cased t b)

stage_cased : (s t : List ℕ) (st : Stage) → stage_from st (smalls t) (smalls s) ≡ stage_from st t s
unfolding stage_from smalls
stage_cased [] t st = rw (kind_cased t)
stage_cased (b ∷ s) t st = rw (hyphen_cased b, kind_cased t) (go (eqb b 45) (stage_cased s [] (next_stage st (subtag_kind t))) (rw (snoc_cased t b) at (stage_cased s (t ++ (b ∷ [])) st)))
  where
    go : (c : Bool) → stage_from (next_stage st (subtag_kind t)) [] (smalls s) ≡ stage_from (next_stage st (subtag_kind t)) [] s
        → stage_from st (smalls t ++ (small b ∷ [])) (smalls s) ≡ stage_from st (t ++ (b ∷ [])) s
        → cond c (stage_from (next_stage st (subtag_kind t)) [] (smalls s)) (stage_from st (smalls t ++ (small b ∷ [])) (smalls s)) ≡ cond c (stage_from (next_stage st (subtag_kind t)) [] s) (stage_from st (t ++ (b ∷ [])) s)
    go true p q = p
    go false p q = q

pub read_cased : (s : List ℕ) → is_unlisted (smalls s) ≡ is_unlisted s
unfolding is_unlisted smalls
read_cased s = rw (stage_cased s [] at.Start)

pub small-small : (b : ℕ) → small (small b) ≡ small b
unfolding small within
small-small b = go (within 65 90 b) refl
  where
    go : (c : Bool) → within 65 90 b ≡ c → small (cond c (b + 32) b) ≡ cond c (b + 32) b
    go true q = sixth (steady (λ b. eqb (small (b + 32)) (b + 32)) true 65 26 b refl (low 65 90 b q) (omega (arith, high 65 90 b q)))
      where
        sixth : true ≡ eqb (small (b + 32)) (b + 32) → small (b + 32) ≡ b + 32
        sixth e = borrow.Author.Tests.eqb-true (small (b + 32)) (b + 32) (sym e)
    go false q = rw q

pub smalls-smalls : (s : List ℕ) → smalls (smalls s) ≡ smalls s
unfolding smalls
smalls-smalls [] = refl
smalls-smalls (b ∷ s) = rw (small-small b, smalls-smalls s)

-- the answer for s and for s in small letters is the same
pub well_formed_cased : (s : List ℕ) → is_well_formed (smalls s) ≡ is_well_formed s
unfolding is_well_formed
well_formed_cased s = rw (read_cased s, smalls-smalls s)

-- what holds of each of a list holds of a listed one
pub listed-all : (f : List ℕ → Bool) (ts : List (List ℕ)) (s : List ℕ) → all f ts ≡ true → is_listed ts s ≡ true → f s ≡ true
unfolding all is_listed
listed-all f [] s a e = Rattle.base_lists.proofs.More.contra false e refl
listed-all f (t ∷ ts) s a e = go (same t s) refl e (listed-all f ts s (both (f t) (all f ts) a).1)
  where
    go : (c : Bool) → same t s ≡ c → (c || is_listed ts s) ≡ true → (is_listed ts s ≡ true → f s ≡ true) → f s ≡ true
    go true q e more = rw (← same_true t s q) (both (f t) (all f ts) a).0
    go false q e more = more e

pub allowed_cased : (s : List ℕ) → is_allowed (smalls s) ≡ is_allowed s
unfolding is_allowed smalls
allowed_cased [] = refl
allowed_cased (b ∷ s) = well_formed_cased (b ∷ s)
