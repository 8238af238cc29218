-- The rule of the table, over all its entries; and what a mask says of a byte.
-- Assumes nothing.
use mathlib.Core.Path.{◌≡◌, refl, sym, ◌∙◌, ap}
use mathlib.Core.Bool.{Bool, true, false, not, cond, ◌&&◌}
use mathlib.Core.List.{List, [], ◌∷◌}
use Prim.Native.Nat.{ℕ, zero, suc, ◌+◌, ◌*◌, ◌/◌, ◌%◌, ◌^◌, ◌<◌, ◌≤◌}
use native.Mathlib.Nat.{zero-div}
use native.Mathlib.Omega.{arith}
use lib.Bits.{bit_and, and_zero_l, and_le_r, and_mod}
use lib.Dec.{eqb, leb}
use lib.ListN.{length, get_or, get_or-eq_default}
use borrow.Author.Tests.{lt-leb, ne_eqb, leb-true, leb-false}
use mathlib.Core.Logic.{inl, inr}
use types.Run.{OneOf}
use Rattle.base_lists.proofs.Steady.{values, length_values, agree}
use Rattle.base_bytes.specs.Bytes.{within, is_letter, is_digit, is_alnum, is_name_start, is_name_part, is_key_start, underscore, hyphen}
use Rattle.base_letters.specs.Classes.{class_of, class_in, TableRule, is_of, TellsBytes}

-- n classes from the byte b on, four bits each
abbrev pub packed : ℕ → ℕ → ℕ
packed zero b = 0
packed (suc n) b = class_of b + packed n (suc b) * 16

-- the words of the table: antt computes them, and finds the table's
abbrev pub classes : List ℕ
classes = values (λ r. packed 16 (r * 16)) 16 0

-- the rule: the entry of a byte is its class
pub rule : TableRule classes
unfolding class_of is_letter is_digit within
rule b h = agree (λ b. class_in classes b % 16) class_of 256 refl b h

-- no number above 255 is in a class
module _ (b : ℕ) (h : 256 ≤ b) where
  out : (lo hi : ℕ) → hi < 256 → within lo hi b ≡ false
  unfolding within
  out lo hi l = go (leb lo b)
    where
      go : (x : Bool) → (x && leb b hi) ≡ false
      go true = lt-leb b hi (omega arith)
      go false = refl

  no_letter : is_letter b ≡ false
  unfolding is_letter
  no_letter = rw (out 65 90 (omega arith), out 97 122 (omega arith))

  no_digit : is_digit b ≡ false
  unfolding is_digit
  no_digit = out 48 57 (omega arith)

  no_alnum : is_alnum b ≡ false
  unfolding is_alnum
  no_alnum = rw (no_letter, no_digit)

  no_key : is_key_start b ≡ false
  unfolding is_key_start
  no_key = rw (no_letter, ne_eqb b underscore (λ e. omega (arith, e)))

  no_start : is_name_start b ≡ false
  unfolding is_name_start
  no_start = rw (no_alnum, ne_eqb b underscore (λ e. omega (arith, e)))

  no_part : is_name_part b ≡ false
  unfolding is_name_part
  no_part = rw (no_alnum, ne_eqb b underscore (λ e. omega (arith, e)), ne_eqb b hyphen (λ e. omega (arith, e)))

-- one law: where a test and a mask agree at all 256 bytes, and the test passes at no greater number, the table's entry under the mask tells the test
told : (f : ℕ → Bool) (mask : ℕ) → values f 256 0 ≡ values (is_of classes mask) 256 0 → ((b : ℕ) → 256 ≤ b → f b ≡ false) → is_of classes mask ≡ f
told f mask e none = λ i b. at b (leb 256 b) refl i
  where
    past : (b : ℕ) → 256 ≤ b → class_in classes b ≡ 0
    past b h = ap (λ x. x / 2 ^ (b % 16 * 4)) (get_or-eq_default classes 0 {n = b / 16} (omega (arith, length_values (λ r. packed 16 (r * 16)) 16 0))) ∙ zero-div (2 ^ (b % 16 * 4))

    at : (b : ℕ) (x : Bool) → leb 256 b ≡ x → is_of classes mask b ≡ f b
    at b true p =
        let h = leb-true 256 b p in
        ap (λ x. not (eqb (bit_and x mask) 0)) (past b h) ∙ (ap (λ x. not (eqb x 0)) (and_zero_l mask) ∙ sym (none b h))
    at b false p = sym (agree f (is_of classes mask) 256 e b (leb-false 256 b p))

-- what each mask tells
pub letter : is_of classes 1 ≡ is_letter
unfolding class_of is_letter is_digit within
letter = told is_letter 1 refl no_letter

pub digit : is_of classes 2 ≡ is_digit
unfolding class_of is_letter is_digit within
digit = told is_digit 2 refl no_digit

pub alnum : is_of classes 3 ≡ is_alnum
unfolding class_of is_alnum is_letter is_digit within
alnum = told is_alnum 3 refl no_alnum

pub key_start : is_of classes 5 ≡ is_key_start
unfolding class_of is_key_start is_letter is_digit within
key_start = told is_key_start 5 refl no_key

pub name_start : is_of classes 7 ≡ is_name_start
unfolding class_of is_name_start is_alnum is_letter is_digit within
name_start = told is_name_start 7 refl no_start

pub name_part : is_of classes 15 ≡ is_name_part
unfolding class_of is_name_part is_alnum is_letter is_digit within
name_part = told is_name_part 15 refl no_part

-- so whoever is lent the table may rely on it
pub tells : TellsBytes classes
tells = record { letter = letter; alnum = alnum; key = key_start; name = name_start; part = name_part }

-- ---- of any table: a byte with a class of a mask has one of each mask that holds the bits of it, since a mask looks at no more than the byte's four bits
abbrev marked : ℕ → ℕ → Bool
marked mask x = not (eqb (bit_and x mask) 0)

low : (x mask : ℕ) → mask < 16 → bit_and x mask ≡ bit_and (x % 16) mask
low x mask h =
    let l : mask % 16 ≡ mask = omega arith in
    let z : bit_and x mask % 16 ≡ bit_and x mask = omega (arith, and_le_r x mask) in
    sym z ∙ (and_mod x mask 4 ∙ ap (bit_and (x % 16)) l)

module _ (mask wide : ℕ) (e : values (λ x. cond (marked mask x) (marked wide x) true) 16 0 ≡ values (λ x. true) 16 0) where
  pub wider : mask < 16 → wide < 16 → (table : List ℕ) (b : ℕ) → is_of table mask b ≡ true → is_of table wide b ≡ true
  wider h l table b q =
      let x = class_in table b in
      let p : marked mask (x % 16) ≡ true = sym (ap (λ y. not (eqb y 0)) (low x mask h)) ∙ q in
      let z = agree (λ x. cond (marked mask x) (marked wide x) true) (λ x. true) 16 e (x % 16) (omega arith) in
      ap (λ y. not (eqb y 0)) (low x wide l) ∙ (rw p at z)

-- a byte has one class or none
pub one_class : (b : ℕ) → OneOf (0 ∷ 1 ∷ 2 ∷ 4 ∷ 8 ∷ []) (class_of b)
unfolding class_of
one_class b = go (is_letter b) (is_digit b) (eqb b underscore) (eqb b hyphen)
  where
    go : (w x y z : Bool) → OneOf (0 ∷ 1 ∷ 2 ∷ 4 ∷ 8 ∷ []) (cond w 1 (cond x 2 (cond y 4 (cond z 8 0))))
    go true x y z = inr (inl refl)
    go false true y z = inr (inr (inl refl))
    go false false true z = inr (inr (inr (inl refl)))
    go false false false true = inr (inr (inr (inr refl)))
    go false false false false = inl refl

-- two classes have no byte in common: each class is told by its own test, whatever is asked first
pub apart : (b : ℕ) → b < 256 → (eqb (class_of b) 1 ≡ is_letter b) × (eqb (class_of b) 2 ≡ is_digit b) × (eqb (class_of b) 4 ≡ eqb b underscore) × (eqb (class_of b) 8 ≡ eqb b hyphen)
unfolding class_of is_letter is_digit within
apart b h = (agree (λ b. eqb (class_of b) 1) is_letter 256 refl b h, agree (λ b. eqb (class_of b) 2) is_digit 256 refl b h, agree (λ b. eqb (class_of b) 4) (λ b. eqb b underscore) 256 refl b h, agree (λ b. eqb (class_of b) 8) (λ b. eqb b hyphen) 256 refl b h)
