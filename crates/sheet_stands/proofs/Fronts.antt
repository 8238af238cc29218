-- Bytes that stand at a place, part by part.
-- Assumes nothing.
use mathlib.Core.Path.{◌≡◌, refl, sym, ◌∙◌, ap}
use mathlib.Core.Bool.{Bool, true, false, not, ◌&&◌}
use mathlib.Core.List.{List, [], ◌∷◌, ◌++◌, append_assoc}
use Prim.Native.Nat.{ℕ, ◌+◌, ◌-◌, ◌^◌, ◌<◌, ◌≤◌}
use native.Mathlib.Numerals.{add-one}
use native.Mathlib.Omega.{arith}
use borrow.Author.Tests.{not-true, not-false, ne_eqb, eq-eqb, le-leb}
use lib.Dec.{eqb}
use lib.ListN.{length, get_or, take, drop, replicate, length-append, length-drop}
use lib.Seq.{slice, drop-cons, drop-drop, take-append_seam}
use Rattle.base_lists.specs.Lists.{same}
use Rattle.base_lists.proofs.Parts.{slice_add}
use Rattle.base_lists.proofs.More.{same_sym}
use Rattle.base_bytes.specs.Bytes.{lf}
use Rattle.sheet_records.specs.Records.{RecordId, no_id, numbers_text, id_field, record_line}
use Rattle.sheet_records.specs.Writing.{line_over}
use Rattle.sheet_records.proofs.Lines.{front_laid, numbers_long}
use Rattle.text_digits.proofs.Decimals.{decimal_le}
use Rattle.sheet_stands.specs.Stands.{is_front, stands_at}

right : (p : Bool) → (p && true) ≡ p
right true = refl
right false = refl

never : (p : Bool) → (p && false) ≡ false
never true = refl
never false = refl

module _ (ys : List ℕ) where
  front_append : (xs t : List ℕ) → is_front (xs ++ ys) t ≡ (is_front xs t && is_front ys (drop (length xs) t))
  unfolding is_front
  front_append [] t = refl
  front_append (x ∷ xs) [] = refl
  front_append (x ∷ xs) (b ∷ t) = rw (front_append xs t) (sym (and_assoc (eqb b x) (is_front xs t) (is_front ys (drop (length xs) t))))
    where
      and_assoc : (p q r : Bool) → ((p && q) && r) ≡ (p && (q && r))
      and_assoc true q r = refl
      and_assoc false q r = refl

-- what is too long stands nowhere
short_front : (xs t : List ℕ) → length t < length xs → is_front xs t ≡ false
unfolding is_front
short_front [] t h = absurd (omega arith)
short_front (x ∷ xs) [] h = refl
short_front (x ∷ xs) (b ∷ t) h = rw (short_front xs t (omega arith)) (never (eqb b x))

pub front_same : (xs t : List ℕ) → length xs ≤ length t → same (take (length xs) t) xs ≡ is_front xs t
unfolding is_front same
front_same [] t h = refl
front_same (x ∷ xs) [] h = absurd (omega arith)
front_same (x ∷ xs) (b ∷ t) h = ap (λ r. eqb b x && r) (front_same xs t (omega arith))

module _ (t : List ℕ) (at : ℕ) where
  pub stands_append : (xs ys : List ℕ) → stands_at t at (xs ++ ys) ≡ (stands_at t at xs && stands_at t (at + length xs) ys)
  stands_append xs ys = rw (← drop-drop (length xs) at t) (front_append ys xs (drop at t))

  stands_short : (xs : List ℕ) → length t < at + length xs → 0 < length xs → stands_at t at xs ≡ false
  stands_short xs h l = short_front xs (drop at t) (omega (arith, length-drop at t))

  stands_same : (xs : List ℕ) → at + length xs ≤ length t → same xs (slice at (at + length xs) t) ≡ stands_at t at xs
  stands_same xs h = rw (slice_add at (length xs) t) (same_sym xs (take (length xs) (drop at t)) ∙ front_same xs (drop at t) (omega (arith, length-drop at t)))

  stands_byte : (b : ℕ) (xs : List ℕ) → at < length t → stands_at t at (b ∷ xs) ≡ (eqb (get_or t at 0) b && stands_at t (at + 1) xs)
  unfolding is_front
  stands_byte b xs h = rw (drop-cons t at 0 h, add-one at)

  pub last_byte : (b : ℕ) → at < length t → eqb (get_or t at 0) b ≡ stands_at t at (b ∷ [])
  unfolding is_front
  last_byte b h = sym (stands_byte b [] h ∙ right (eqb (get_or t at 0) b))

  -- a byte that isn't there, and one that is
  pub no_byte : (b : ℕ) (xs : List ℕ) → at < length t → (get_or t at 0 ≡ b → ⊥) → false ≡ stands_at t at (b ∷ xs)
  no_byte b xs h n = sym (stands_byte b xs h ∙ (rw (ne_eqb (get_or t at 0) b n)))

  pub a_byte : (b : ℕ) (xs : List ℕ) {r : Bool} → at < length t → get_or t at 0 ≡ b → r ≡ stands_at t (at + 1) xs → r ≡ stands_at t at (b ∷ xs)
  a_byte b xs h n e = e ∙ sym (stands_byte b xs h ∙ (rw (eq-eqb (get_or t at 0) b n)))

  -- bytes and one behind them
  module _ (xs : List ℕ) {m : ℕ} (e : m ≡ length xs) where
    pub no_room : at ≤ length t → length t - at ≤ m → false ≡ stands_at t at (xs ++ (lf ∷ []))
    no_room h l = let z = length-append xs (lf ∷ []) in sym (stands_short (xs ++ (lf ∷ [])) (omega (arith, z, e)) (omega (arith, z)))

    module _ (h : at + m < length t) where
      both_are : stands_at t at (xs ++ (lf ∷ [])) ≡ (stands_at t at xs && eqb (get_or t (at + m) 0) 10)
      unfolding is_front
      both_are = stands_append xs (lf ∷ []) ∙ (rw (← e, ← behind))
        where
          behind : eqb (get_or t (at + m) 0) 10 ≡ stands_at t (at + m) (lf ∷ [])
          behind = rw (drop-cons t (at + m) 0 h) (sym (right (eqb (get_or t (at + m) 0) 10)))

      pub no_lf_lem : (get_or t (at + m) 0 ≡ 10 → ⊥) → false ≡ stands_at t at (xs ++ (lf ∷ []))
      no_lf_lem n = sym (both_are ∙ (rw (ne_eqb (get_or t (at + m) 0) 10 n) (never (stands_at t at xs))))

      pub by_bytes : get_or t (at + m) 0 ≡ 10 → {ys : List ℕ} {r : Bool} → ys ≡ slice at (at + m) t → r ≡ same xs ys → r ≡ stands_at t at (xs ++ (lf ∷ []))
      by_bytes n q s = let z = rw (q, e) at s in z ∙ stands_same xs (omega (arith, e)) ∙ sym (both_are ∙ (rw (eq-eqb (get_or t (at + m) 0) 10 n) (right (stands_at t at xs))))

-- ---- the line of a record

pub numbers_le : (l c o : ℕ) → l < 2 ^ 64 → c < 2 ^ 64 → o < 2 ^ 64 → length (numbers_text l c o) ≤ 62
numbers_le l c o hl hc ho = omega (arith, numbers_long l c o, decimal_le l 20 (omega arith) (omega arith), decimal_le c 20 (omega arith) (omega arith), decimal_le o 20 (omega arith) (omega arith))

module _ (t : List ℕ) (at line count offset : ℕ) (i : RecordId) where
  abbrev whole : List ℕ
  whole = record_line (record { line = line; count = count; offset = offset; id = i })

  abbrev numbers : List ℕ
  numbers = numbers_text line count offset

  line_is : stands_at t at whole ≡ (stands_at t at numbers && stands_at t (at + length numbers) (id_field i ++ (lf ∷ [])))
  unfolding record_line
  line_is = stands_append t at numbers (id_field i ++ (lf ∷ []))

  pub past_end : length t < at → false ≡ stands_at t at whole
  unfolding record_line
  past_end h =
      let z = length-append numbers (id_field i ++ (lf ∷ [])) in
      let y = length-append (id_field i) (lf ∷ []) in
      sym (stands_short t at whole (omega arith) (omega (arith, z, y)))

  module _ {n : ℕ} (e : n ≡ length numbers) where
    pub few : at ≤ length t → length t - at ≤ n → false ≡ stands_at t at whole
    unfolding record_line
    few h l =
        let z = length-append numbers (id_field i ++ (lf ∷ [])) in
        let y = length-append (id_field i) (lf ∷ []) in
        sym (stands_short t at whole (omega (arith, z, y, e)) (omega (arith, z, y)))

    module _ (h : at + n < length t) {front xs ys : List ℕ} {r : Bool} (f : front ≡ line_over (replicate 63 0) 0 (record { line = line; count = count; offset = offset; id = no_id }))
        (l : length numbers ≤ 62) (p : xs ≡ slice 0 n front) (q : ys ≡ slice at (at + n) t) (s : r ≡ same xs ys) where
      front_is : slice 0 n front ≡ numbers
      unfolding line_over record_line
      front_is =
          let z : length (numbers ++ (lf ∷ [])) ≡ length numbers + 1 = length-append numbers (lf ∷ []) in
          rw (f, le-leb (0 + length (numbers ++ (lf ∷ []))) 63 (omega (arith, z)), front_laid (replicate 63 0) (numbers ++ (lf ∷ [])) (omega (arith, z)), append_assoc numbers (lf ∷ []) (drop (length (numbers ++ (lf ∷ []))) (replicate 63 0)), e)
          (take-append_seam numbers ((lf ∷ []) ++ drop (length (numbers ++ (lf ∷ []))) (replicate 63 0)))

      told : r ≡ stands_at t at numbers
      told = (rw (p, front_is, q, e) at s) ∙ stands_same t at numbers (omega (arith, e))

      pub differs : not r ≡ true → false ≡ stands_at t at whole
      differs y = sym (line_is ∙ (rw (← told, not-true r y)))

      pub ends : not r ≡ false → {x : Bool} → x ≡ stands_at t (at + n) (id_field i ++ (lf ∷ [])) → x ≡ stands_at t at whole
      ends y w = (rw e at w) ∙ sym (line_is ∙ (rw (← told, not-false r y)))
