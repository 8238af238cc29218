-- What a subtag of each kind is, and which kind a subtag of the grammar has.
-- Assumes nothing.
use mathlib.Core.Path.{◌≡◌, refl, sym, ◌∙◌}
use mathlib.Core.Bool.{Bool, true, false, not, cond, ◌&&◌, ◌||◌}
use mathlib.Core.List.{List, [], ◌∷◌}
use Prim.Native.Nat.{ℕ, ◌+◌, ◌<◌, ◌≤◌}
use native.Mathlib.Omega.{arith}
use lib.Dec.{eqb, leb}
use lib.ListN.{length}
use borrow.Author.Tests.{eqb-true, eqb-false, ne_eqb, le-leb, leb-true, not-true, not-false}
use Rattle.base_lists.specs.Lists.{all, first_is}
use Rattle.base_lists.proofs.Scan.{both}
use Rattle.base_lists.proofs.More.{contra, all_weaker, or_left, or_right}
use Rattle.base_lists.proofs.Steady.{steady}
use Rattle.base_bytes.specs.Bytes.{within, is_letter, is_digit, is_alnum}
use Rattle.text_langtags.specs.Letters.{small, is_x}
use Rattle.text_langtags.specs.Grammar.{Of, Variant, Singleton, is_singleton}
use Rattle.text_langtags.specs.Computed.{kind_by, subtag_kind, is_part, is_subtag, began, continued}
use Rattle.text_langtags.specs.declared.SubtagKind.{SubtagKind}
use Rattle.text_langtags.specs.declared.SubtagKind.TheVariants as k
use Rattle.text_langtags.specs.declared.Stage.TheVariants as at

-- the single letter x
pub data Xed : List ℕ → Type 0 where
  xed : {b : ℕ} → is_x b ≡ true → Xed (b ∷ [])

abbrev pub Fits : SubtagKind → List ℕ → Type 0
Fits k.Other t = Unit {0}
Fits k.X t = Xed t
Fits k.Single t = Singleton t
Fits k.Two t = Of is_letter 2 2 t
Fits k.Three t = Of is_letter 3 3 t
Fits k.Four t = Of is_letter 4 4 t
Fits k.Long t = Of is_letter 5 8 t
Fits k.Number t = Of is_digit 3 3 t
Fits k.Variant t = Variant t
Fits k.Plain t = Of is_alnum 2 8 t

pub or_case : {A : Type 0} (a b : Bool) → (a || b) ≡ true → (a ≡ true → A) → (b ≡ true → A) → A
or_case true b e f g = f refl
or_case false b e f g = g e

pub high : (lo hi b : ℕ) → within lo hi b ≡ true → b ≤ hi
unfolding within
high lo hi b e = leb-true b hi (both (leb lo b) (leb b hi) e).1

pub low : (lo hi b : ℕ) → within lo hi b ≡ true → lo ≤ b
unfolding within
low lo hi b e = leb-true lo b (both (leb lo b) (leb b hi) e).0

pub alnum_low : (b : ℕ) → is_alnum b ≡ true → b < 123
unfolding is_alnum is_letter is_digit
alnum_low b e =
    or_case (within 65 90 b || within 97 122 b) (within 48 57 b) e
    (λ f. or_case (within 65 90 b) (within 97 122 b) f (λ g. omega (arith, high 65 90 b g)) (λ g. omega (arith, high 97 122 b g)))
    (λ g. omega (arith, high 48 57 b g))

singleton_low : (b : ℕ) → is_singleton b ≡ true → b < 123
unfolding is_singleton is_digit
singleton_low b e =
    or_case (((within 48 57 b || within 65 87 b) || within 89 90 b) || within 97 119 b) (within 121 122 b) e
    (λ f. or_case ((within 48 57 b || within 65 87 b) || within 89 90 b) (within 97 119 b) f
    (λ f. or_case (within 48 57 b || within 65 87 b) (within 89 90 b) f
    (λ f. or_case (within 48 57 b) (within 65 87 b) f (λ g. omega (arith, high 48 57 b g)) (λ g. omega (arith, high 65 87 b g)))
    (λ g. omega (arith, high 89 90 b g)))
    (λ g. omega (arith, high 97 119 b g)))
    (λ g. omega (arith, high 121 122 b g))

-- a singleton is a letter or digit that isn't x
is_singleton_lem : (b : ℕ) → is_alnum b ≡ true → is_x b ≡ false → is_singleton b ≡ true
unfolding is_singleton is_alnum is_letter is_digit is_x small within
is_singleton_lem b e q = sym (rw (e, q) at (steady (λ b. cond (is_alnum b && not (is_x b)) (is_singleton b) true) true 0 123 b refl (omega arith) (alnum_low b e)))

singleton_is : (b : ℕ) → is_singleton b ≡ true → (is_alnum b && not (is_x b)) ≡ true
unfolding is_singleton is_alnum is_letter is_digit is_x small within
singleton_is b e = sym (rw e at (steady (λ b. cond (is_singleton b) (is_alnum b && not (is_x b)) true) true 0 123 b refl (omega arith) (singleton_low b e)))

pub letter_alnum : (b : ℕ) → is_letter b ≡ true → is_alnum b ≡ true
unfolding is_alnum
letter_alnum b e = or_left (is_letter b) (is_digit b) e

pub digit_alnum : (b : ℕ) → is_digit b ≡ true → is_alnum b ≡ true
unfolding is_alnum
digit_alnum b e = or_right (is_letter b) (is_digit b) e

pub letters_alnum : {lo hi : ℕ} {t : List ℕ} → Of is_letter lo hi t → all is_alnum t ≡ true
letters_alnum {t = t} h = all_weaker is_letter is_alnum letter_alnum t h.chars

pub digits_alnum : {lo hi : ℕ} {t : List ℕ} → Of is_digit lo hi t → all is_alnum t ≡ true
digits_alnum {t = t} h = all_weaker is_digit is_alnum digit_alnum t h.chars

-- ---- how long each is
pub variant_of : {t : List ℕ} → Variant t → Of is_alnum 2 8 t
unfolding all
variant_of (Variant.long h) = record { chars = h.chars; least = omega (arith, h.least); most = h.most }
variant_of (Variant.digit {b = b} {s = s} e h) = record { chars = rw (digit_alnum b e) h.chars; least = omega (arith, h.least); most = omega (arith, h.most) }

pub x_alnum : (b : ℕ) → is_x b ≡ true → is_alnum b ≡ true
unfolding is_x small is_alnum is_letter is_digit within
x_alnum b e = go (within 65 90 b) refl (eqb-true (small b) 120 e)
  where
    go : (c : Bool) → within 65 90 b ≡ c → cond c (b + 32) b ≡ 120 → is_alnum b ≡ true
    go true q r = or_left (is_letter b) (is_digit b) (or_left (within 65 90 b) (within 97 122 b) q)
    go false q r = rw r refl

pub x_of : {t : List ℕ} → Xed t → Of is_alnum 1 8 t
unfolding all
x_of (Xed.xed {b = b} e) = record { chars = rw (x_alnum b e); least = omega arith; most = omega arith }

pub single_of : {t : List ℕ} → Singleton t → Of is_alnum 1 8 t
unfolding all
single_of (Singleton.singleton {b = b} e) = record { chars = rw (both (is_alnum b) (not (is_x b)) (singleton_is b e)).0; least = omega arith; most = omega arith }

wider : {t : List ℕ} → Of is_alnum 2 8 t → Of is_alnum 1 8 t
wider h = record { chars = h.chars; least = omega (arith, h.least); most = h.most }

-- ---- what a kind says of a subtag

x_view : (t : List ℕ) → length t ≡ 1 → first_is is_x t ≡ true → Xed t
x_view [] n e = absurd (omega arith)
x_view (b ∷ []) n e = Xed.xed e
x_view (b ∷ (c ∷ t)) n e = absurd (omega arith)

single_view : (t : List ℕ) → all is_alnum t ≡ true → length t ≡ 1 → first_is is_x t ≡ false → Singleton t
unfolding all
single_view [] a n e = absurd (omega arith)
single_view (b ∷ []) a n e = Singleton.singleton (is_singleton_lem b (both (is_alnum b) true a).0 e)
single_view (b ∷ (c ∷ t)) a n e = absurd (omega arith)

digit_view : (t : List ℕ) → all is_alnum t ≡ true → length t ≡ 4 → first_is is_digit t ≡ true → Variant t
unfolding all
digit_view [] a n e = absurd (omega arith)
digit_view (b ∷ t) a n e = Variant.digit {s = t} e (record { chars = (both (is_alnum b) (all is_alnum t) a).1; least = omega arith; most = omega arith })

of : (f : ℕ → Bool) (n : ℕ) (t : List ℕ) → all f t ≡ true → length t ≡ n → Of f n n t
of f n t e l = record { chars = e; least = omega arith; most = omega arith }

module _ (t : List ℕ) where
  pick : (c : Bool) (a b : SubtagKind) → (c ≡ true → Fits a t) → (c ≡ false → Fits b t) → Fits (cond c a b) t
  pick true a b f g = f refl
  pick false a b f g = g refl

  plain : (n : ℕ) → all is_alnum t ≡ true → length t ≡ n → 2 ≤ n → n ≤ 8 → Of is_alnum 2 8 t
  plain n a l p q = record { chars = a; least = omega arith; most = omega arith }

  pub fits : Fits (subtag_kind t) t
  unfolding subtag_kind kind_by
  fits =
      pick (not (all is_alnum t)) k.Other _ (λ e. tt) (λ e. let a = not-false (all is_alnum t) e in
      pick (eqb (length t) 1) _ _ (λ e. let l = eqb-true (length t) 1 e in pick (first_is is_x t) k.X k.Single (x_view t l) (single_view t a l)) (λ e.
      pick (eqb (length t) 2) _ _ (λ e. let l = eqb-true (length t) 2 e in pick (all is_letter t) k.Two k.Plain (λ c. of is_letter 2 t c l) (λ c. plain 2 a l (omega arith) (omega arith))) (λ e.
      pick (eqb (length t) 3) _ _ (λ e. let l = eqb-true (length t) 3 e in pick (all is_letter t) k.Three _ (λ c. of is_letter 3 t c l) (λ c.
      pick (all is_digit t) k.Number k.Plain (λ c. of is_digit 3 t c l) (λ c. plain 3 a l (omega arith) (omega arith)))) (λ e.
      pick (eqb (length t) 4) _ _ (λ e. let l = eqb-true (length t) 4 e in pick (all is_letter t) k.Four _ (λ c. of is_letter 4 t c l) (λ c.
      pick (first_is is_digit t) k.Variant k.Plain (digit_view t a l) (λ c. plain 4 a l (omega arith) (omega arith)))) (λ e.
      pick (within 5 8 (length t)) _ k.Other (λ e. pick (all is_letter t) k.Long k.Variant
      (λ c. record { chars = c; least = low 5 8 (length t) e; most = high 5 8 (length t) e })
      (λ c. Variant.long (record { chars = a; least = low 5 8 (length t) e; most = high 5 8 (length t) e }))) (λ e. tt))))))

  -- ---- the parts that an extension and private use are made of
  pub part_of : (c : SubtagKind) → Fits c t → is_part c ≡ true → Of is_alnum 2 8 t
  part_of k.Other f e = contra false e refl
  part_of k.X f e = contra false e refl
  part_of k.Single f e = contra false e refl
  part_of k.Two f e = record { chars = letters_alnum f; least = f.least; most = omega (arith, f.most) }
  part_of k.Three f e = record { chars = letters_alnum f; least = omega (arith, f.least); most = omega (arith, f.most) }
  part_of k.Four f e = record { chars = letters_alnum f; least = omega (arith, f.least); most = omega (arith, f.most) }
  part_of k.Long f e = record { chars = letters_alnum f; least = omega (arith, f.least); most = f.most }
  part_of k.Number f e = record { chars = digits_alnum f; least = omega (arith, f.least); most = omega (arith, f.most) }
  part_of k.Variant f e = variant_of f
  part_of k.Plain f e = f

  pub subtag_of : (c : SubtagKind) → Fits c t → is_subtag c ≡ true → Of is_alnum 1 8 t
  subtag_of k.Other f e = contra false e refl
  subtag_of k.X f e = x_of f
  subtag_of k.Single f e = single_of f
  subtag_of k.Two f e = wider (part_of k.Two f refl)
  subtag_of k.Three f e = wider (part_of k.Three f refl)
  subtag_of k.Four f e = wider (part_of k.Four f refl)
  subtag_of k.Long f e = wider (part_of k.Long f refl)
  subtag_of k.Number f e = wider (part_of k.Number f refl)
  subtag_of k.Variant f e = wider (part_of k.Variant f refl)
  subtag_of k.Plain f e = wider f

-- ---- the kind of each subtag of the grammar

module _ (t : List ℕ) (a : all is_alnum t ≡ true) where
  size_kind : (n : ℕ) → length t ≡ n → subtag_kind t ≡ kind_by n (first_is is_x t) (first_is is_digit t) (all is_letter t) (all is_digit t) true
  unfolding subtag_kind
  size_kind n l = rw (a, l)

pub two : {t : List ℕ} → Of is_letter 2 2 t → subtag_kind t ≡ k.Two
unfolding kind_by
two {t} h = rw h.chars at (size_kind t (letters_alnum h) 2 (omega (arith, h.least, h.most)))

pub three : {t : List ℕ} → Of is_letter 3 3 t → subtag_kind t ≡ k.Three
unfolding kind_by
three {t} h = rw h.chars at (size_kind t (letters_alnum h) 3 (omega (arith, h.least, h.most)))

pub four : {t : List ℕ} → Of is_letter 4 4 t → subtag_kind t ≡ k.Four
unfolding kind_by
four {t} h = rw h.chars at (size_kind t (letters_alnum h) 4 (omega (arith, h.least, h.most)))

digit_letter : (b : ℕ) → is_digit b ≡ true → is_letter b ≡ false
unfolding is_digit is_letter within
digit_letter b e = sym (steady is_letter false 48 10 b refl (low 48 57 b e) (omega (arith, high 48 57 b e)))

digits_letters : (t : List ℕ) → 1 ≤ length t → first_is is_digit t ≡ true → all is_letter t ≡ false
unfolding all
digits_letters [] l e = absurd (omega arith)
digits_letters (b ∷ t) l e = rw (digit_letter b e)

all_first : (f : ℕ → Bool) (t : List ℕ) → 1 ≤ length t → all f t ≡ true → first_is f t ≡ true
unfolding all
all_first f [] l e = absurd (omega arith)
all_first f (b ∷ t) l e = (both (f b) (all f t) e).0

pub number : {t : List ℕ} → Of is_digit 3 3 t → subtag_kind t ≡ k.Number
unfolding kind_by
number {t} h =
    let l : 1 ≤ length t = omega (arith, h.least) in
    rw (h.chars, digits_letters t l (all_first is_digit t l h.chars)) at (size_kind t (digits_alnum h) 3 (omega (arith, h.least, h.most)))

pub single : {t : List ℕ} → Singleton t → subtag_kind t ≡ k.Single
unfolding subtag_kind kind_by all
single (Singleton.singleton {b = b} e) =
    let h = both (is_alnum b) (not (is_x b)) (singleton_is b e) in
    rw (h.0, not-true (is_x b) h.1)

pub one_x : (b : ℕ) → is_x b ≡ true → subtag_kind (b ∷ []) ≡ k.X
unfolding subtag_kind kind_by all
one_x b e = rw (x_alnum b e, e)

-- five to eight bytes
pub long_by : (n : ℕ) (x d l g : Bool) → 5 ≤ n → n ≤ 8 → kind_by n x d l g true ≡ cond l k.Long k.Variant
unfolding kind_by within
long_by n x d l g p q =
    rw (ne_eqb n 1 (λ e. omega arith), ne_eqb n 2 (λ e. omega arith), ne_eqb n 3 (λ e. omega arith), ne_eqb n 4 (λ e. omega arith), le-leb 5 n p, le-leb n 8 q)

pub long : {t : List ℕ} → Of is_letter 5 8 t → subtag_kind t ≡ k.Long
long {t} h = size_kind t (letters_alnum h) (length t) refl ∙ (rw (long_by (length t) (first_is is_x t) (first_is is_digit t) (all is_letter t) (all is_digit t) h.least h.most, h.chars))

digit_kind : (b : ℕ) (s : List ℕ) → is_digit b ≡ true → Of is_alnum 3 3 s → subtag_kind (b ∷ s) ≡ k.Variant
unfolding kind_by all
digit_kind b s e h =
    let l : length (b ∷ s) ≡ 4 = omega (arith, h.least, h.most) in
    rw (digit_letter b e, e) at (size_kind (b ∷ s) (rw (digit_alnum b e) h.chars) 4 l)

pub variant_on : {t : List ℕ} → Variant t → (n : ℕ) → continued n (subtag_kind t) ≡ at.Body 0
variant_on (Variant.long {s = t} h) n = rw (size_kind t h.chars (length t) refl, long_by (length t) (first_is is_x t) (first_is is_digit t) (all is_letter t) (all is_digit t) h.least h.most) (go (all is_letter t))
  where
    go : (c : Bool) → continued n (cond c k.Long k.Variant) ≡ at.Body 0
    go true = refl
    go false = refl
variant_on (Variant.digit {b = b} {s = s} e h) n = rw (digit_kind b s e h)

part_by : (n : ℕ) (x d l g : Bool) → 2 ≤ n → n ≤ 8 → true ≡ is_part (kind_by n x d l g true)
unfolding kind_by within
part_by n x true true true p q = steady (λ n. is_part (kind_by n x true true true true)) true 2 7 n refl p (omega arith)
part_by n x true true false p q = steady (λ n. is_part (kind_by n x true true false true)) true 2 7 n refl p (omega arith)
part_by n x true false true p q = steady (λ n. is_part (kind_by n x true false true true)) true 2 7 n refl p (omega arith)
part_by n x true false false p q = steady (λ n. is_part (kind_by n x true false false true)) true 2 7 n refl p (omega arith)
part_by n x false true true p q = steady (λ n. is_part (kind_by n x false true true true)) true 2 7 n refl p (omega arith)
part_by n x false true false p q = steady (λ n. is_part (kind_by n x false true false true)) true 2 7 n refl p (omega arith)
part_by n x false false true p q = steady (λ n. is_part (kind_by n x false false true true)) true 2 7 n refl p (omega arith)
part_by n x false false false p q = steady (λ n. is_part (kind_by n x false false false true)) true 2 7 n refl p (omega arith)

pub is_part_lem : {t : List ℕ} → Of is_alnum 2 8 t → is_part (subtag_kind t) ≡ true
is_part_lem {t} h = rw (size_kind t h.chars (length t) refl) (sym (part_by (length t) (first_is is_x t) (first_is is_digit t) (all is_letter t) (all is_digit t) h.least h.most))

part_subtag : (c : SubtagKind) → is_part c ≡ true → is_subtag c ≡ true
part_subtag k.Other e = e
part_subtag k.X e = refl
part_subtag k.Single e = refl
part_subtag k.Two e = refl
part_subtag k.Three e = refl
part_subtag k.Four e = refl
part_subtag k.Long e = refl
part_subtag k.Number e = refl
part_subtag k.Variant e = refl
part_subtag k.Plain e = refl

one_subtag : (t : List ℕ) → all is_alnum t ≡ true → length t ≡ 1 → is_subtag (subtag_kind t) ≡ true
unfolding kind_by
one_subtag t a l = rw (size_kind t a 1 l) (go (first_is is_x t))
  where
    go : (c : Bool) → is_subtag (cond c k.X k.Single) ≡ true
    go true = refl
    go false = refl

pub is_subtag_lem : {t : List ℕ} → Of is_alnum 1 8 t → is_subtag (subtag_kind t) ≡ true
is_subtag_lem {t} h = go (eqb (length t) 1) refl
  where
    go : (c : Bool) → eqb (length t) 1 ≡ c → is_subtag (subtag_kind t) ≡ true
    go true e = one_subtag t h.chars (eqb-true (length t) 1 e)
    go false e = let n = eqb-false (length t) 1 e in part_subtag (subtag_kind t) (is_part_lem (record { chars = h.chars; least = omega (arith, h.least, n); most = h.most }))

-- a language of two or three letters
pub short_on : {t : List ℕ} → Of is_letter 2 3 t → began (subtag_kind t) ≡ at.Body 5
short_on {t} h = go (eqb (length t) 2) refl
  where
    go : (c : Bool) → eqb (length t) 2 ≡ c → began (subtag_kind t) ≡ at.Body 5
    go true e = rw (two (of is_letter 2 t h.chars (eqb-true (length t) 2 e)))
    go false e = let n = eqb-false (length t) 2 e in rw (three (of is_letter 3 t h.chars (omega (arith, h.least, h.most, n))))
