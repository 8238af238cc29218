-- The laws of the code's walk over places: numbers, the id's end, the byte at a place.
-- Assumes nothing.
use Rattle.std.specs.Prelude.{None, Option, Some}
use mathlib.Core.Path.{◌≡◌, refl, sym, ◌∙◌}
use mathlib.Core.Bool.{true, false}
use mathlib.Core.List.{List, [], ◌∷◌}
use Prim.Native.Nat.{ℕ, suc, ◌+◌, ◌-◌, ◌*◌, ◌<◌, ◌≤◌}
use native.Mathlib.Nat.{add-zero, add-suc, suc-add}
use native.Mathlib.Numerals.{add-one}
use native.Mathlib.Omega.{arith}
use borrow.Author.Tests.{eq-eqb, ne_eqb, lt-ltb, le-ltb, le-leb, lt-leb}
use lib.Dec.{leb}
use lib.ListN.{length, get_or, take, drop, drop_of_length-le}
use lib.Seq.{drop-cons}
use Rattle.base_lists.specs.Lists.{run, begins}
use Rattle.base_bytes.specs.Bytes.{is_digit, within, tab, lf}
use Rattle.text_digits.specs.Digits.{first_digit, grown, digits_step, digits_from, digits_of, read_out, number_in}
use Rattle.text_digits.specs.declared.Digits as state
use Rattle.text_digits.specs.declared.Digits.TheVariants as digit
use Rattle.text_digits.proofs.Steps.{from_cons, bounded_in, bounded_out, digit_range}
use Rattle.sheet_records.specs.Records.{not_lf, most_number}
use Rattle.sheet_records.specs.Computed.{least_number, field_of, field_at, on_field, behind_tab, id_end, id_at, end_at}
use Rattle.sheet_records.specs.Inner.{onward}
use Rattle.sheet_records.specs.declared.IndexRow.{IndexRow}

-- ---- the byte at a place

pub begins_at : (t : List ℕ) (at b : ℕ) → at < length t → get_or t at 0 ≡ b → begins (drop at t) b ≡ true
begins_at t at b h e = rw (drop-cons t at 0 h) (eq-eqb (get_or t at 0) b e)

pub begins_other : (t : List ℕ) (at b : ℕ) → at < length t → (get_or t at 0 ≡ b → ⊥) → begins (drop at t) b ≡ false
begins_other t at b h e = rw (drop-cons t at 0 h) (ne_eqb (get_or t at 0) b e)

pub begins_past : (t : List ℕ) (at b : ℕ) → length t ≤ at → begins (drop at t) b ≡ false
begins_past t at b h = rw (drop_of_length-le t {i = at} h)

-- ---- digits: d is what those before place i are

onward_go : (least : ℕ) (d : state.Digits) (i b : ℕ) (s : List ℕ) → is_digit b ≡ true → onward least d i (b ∷ s) ≡ onward least (digits_step most_number d b) (suc i) s
unfolding run
onward_go least d i b s e = rw (e, from_cons, add-suc, suc-add)

onward_stop : (least : ℕ) (d : state.Digits) (i b : ℕ) (s : List ℕ) → is_digit b ≡ false → onward least d i (b ∷ s) ≡ least_number least i (read_out d)
unfolding run digits_from
onward_stop least d i b s e = rw (e, add-zero)

onward_none : (least : ℕ) (d : state.Digits) (i : ℕ) → onward least d i [] ≡ least_number least i (read_out d)
unfolding run digits_from
onward_none least d i = rw add-zero

bad_stays : (s : List ℕ) → digits_from most_number digit.Bad s ≡ digit.Bad
unfolding digits_from digits_step
bad_stays [] = refl
bad_stays (b ∷ s) = bad_stays s

onward_bad : (least i : ℕ) (s : List ℕ) → onward least digit.Bad i s ≡ None
unfolding least_number
onward_bad least i s = rw (bad_stays (take (run is_digit s) s))

-- these and those from i on are the number r
pub record Numbers (t : List ℕ) (least : ℕ) (d : state.Digits) (i : ℕ) (r : Option (ℕ × ℕ)) : Type 0 where
  pub rest : onward least d i (drop i t) ≡ r

module _ {t : List ℕ} {least : ℕ} {d : state.Digits} {i : ℕ} {r : Option (ℕ × ℕ)} (inv : Numbers t least d i r) where
  numbers_go : {x : state.Digits} → i < length t → is_digit (get_or t i 0) ≡ true → digits_step most_number d (get_or t i 0) ≡ x → Numbers t least x (i + 1) r
  numbers_go h e f = record { rest = rw (add-one, ← f) (sym (onward_go least d i (get_or t i 0) (drop (suc i) t) e) ∙ (rw (drop-cons t i 0 h) at inv.rest)) }

  pub numbers_stop : i < length t → is_digit (get_or t i 0) ≡ false → least_number least i (read_out d) ≡ r
  numbers_stop h e = sym (onward_stop least d i (get_or t i 0) (drop (suc i) t) e) ∙ (rw (drop-cons t i 0 h) at inv.rest)

  pub numbers_end : length t ≤ i → least_number least i (read_out d) ≡ r
  numbers_end h = sym (onward_none least d i) ∙ (rw (drop_of_length-le t {i = i} h) at inv.rest)

  numbers_bad : i < length t → is_digit (get_or t i 0) ≡ true → digits_step most_number d (get_or t i 0) ≡ digit.Bad → None ≡ r
  numbers_bad h e f = sym (onward_bad least (i + 1) (drop (i + 1) t)) ∙ (numbers_go h e f).rest

-- the loop behind a first digit that is no zero
pub record Reads (t : List ℕ) (least n i : ℕ) (r : Option (ℕ × ℕ)) : Type 0 where
  pub is : Numbers t least (digit.Number n) i r
  pub small : n ≤ most_number

pub reads_start : (t : List ℕ) (least n i : ℕ) → n ≤ most_number → Reads t least n i (onward least (digit.Number n) i (drop i t))
reads_start t least n i h = record { is = record { rest = refl }; small = h }

step_in : (n b : ℕ) → is_digit b ≡ true → n * 10 + (b - 48) ≤ most_number → digits_step most_number (digit.Number n) b ≡ digit.Number (n * 10 + (b - 48))
unfolding digits_step grown
step_in n b e h = rw e (sym (bounded_in most_number (n * 10 + (b - 48)) h))

step_out : (n b : ℕ) → is_digit b ≡ true → most_number < n * 10 + (b - 48) → digits_step most_number (digit.Number n) b ≡ digit.Bad
unfolding digits_step grown
step_out n b e h = rw e (sym (bounded_out most_number (n * 10 + (b - 48)) h))

module _ {t : List ℕ} {least n i : ℕ} {r : Option (ℕ × ℕ)} (inv : Reads t least n i r) (h : i < length t) (e : is_digit (get_or t i 0) ≡ true) where
  pub reads_go : n * 10 + (get_or t i 0 - 48) ≤ most_number → Reads t least (n * 10 + (get_or t i 0 - 48)) (i + 1) r
  reads_go k = record { is = numbers_go inv.is h e (step_in n (get_or t i 0) e k); small = k }

  pub reads_over : most_number < n * 10 + (get_or t i 0 - 48) → None ≡ r
  reads_over k = numbers_bad inv.is h e (step_out n (get_or t i 0) e k)

-- behind a zero
module _ (t : List ℕ) (least i : ℕ) where
  pub zero_starts : Numbers t least digit.Zero i (onward least digit.Zero i (drop i t))
  zero_starts = record { rest = refl }

  pub zero_bad : i < length t → is_digit (get_or t i 0) ≡ true → None ≡ onward least digit.Zero i (drop i t)
  unfolding digits_step
  zero_bad h e = numbers_bad zero_starts h e refl

-- the first digit
module _ (t : List ℕ) (at least : ℕ) where
  starts : Numbers t least digit.NoDigit at (field_at t at least)
  unfolding field_at field_of number_in digits_of
  starts = record { rest = refl }

  pub field_past : length t ≤ at → None ≡ field_at t at least
  unfolding least_number
  field_past h = numbers_end starts h

  module _ (h : at < length t) where
    pub field_other : is_digit (get_or t at 0) ≡ false → None ≡ field_at t at least
    unfolding least_number
    field_other e = numbers_stop starts h e

    module _ (e : is_digit (get_or t at 0) ≡ true) {r : Option (ℕ × ℕ)} where
      pub field_zero : get_or t at 0 ≡ 48 → r ≡ onward least digit.Zero (at + 1) (drop (at + 1) t) → r ≡ field_at t at least
      unfolding digits_step first_digit
      field_zero z q = q ∙ (numbers_go starts h e (rw (e, eq-eqb (get_or t at 0) 48 z))).rest

      pub field_number : (get_or t at 0 ≡ 48 → ⊥) → r ≡ onward least (digit.Number (get_or t at 0 - 48)) (at + 1) (drop (at + 1) t) → r ≡ field_at t at least
      unfolding digits_step first_digit
      field_number z q = q ∙ (numbers_go starts h e (rw (e, ne_eqb (get_or t at 0) 48 z) (sym (bounded_in most_number (get_or t at 0 - 48) (omega (arith, digit_range (get_or t at 0) e)))))).rest

pub digit_below : (b : ℕ) → b < 48 → false ≡ is_digit b
unfolding is_digit within
digit_below b h = rw (lt-leb 48 b h)

pub digit_from : (b : ℕ) → 48 ≤ b → leb b 57 ≡ is_digit b
unfolding is_digit within
digit_from b h = rw (le-leb 48 b h)

-- ---- the loop up to LF

pub record Ends (t : List ℕ) (from i : ℕ) : Type 0 where
  pub rest : i + run not_lf (drop i t) ≡ id_end t from

pub ends-start : (t : List ℕ) (from : ℕ) → Ends t from from
unfolding id_end
ends-start t from = record { rest = refl }

module _ {t : List ℕ} {from i : ℕ} (inv : Ends t from i) where
  pub ends_go : i < length t → (get_or t i 0 ≡ lf → ⊥) → Ends t from (i + 1)
  unfolding run
  ends_go h e =
      let r : i + suc (run not_lf (drop (suc i) t)) ≡ id_end t from = rw (drop-cons t i 0 h, ne_eqb (get_or t i 0) lf e) at inv.rest in
      record { rest = rw add-one (omega arith) }

  pub ends_stop : i < length t → get_or t i 0 ≡ lf → i ≡ id_end t from
  unfolding run
  ends_stop h e = sym (add-zero i) ∙ (rw (drop-cons t i 0 h, eq-eqb (get_or t i 0) lf e) at inv.rest)

  pub ends_end : length t ≤ i → i ≡ id_end t from
  unfolding run
  ends_end h = sym (add-zero i) ∙ (rw (drop_of_length-le t {i = i} h) at inv.rest)

-- ---- the ways of the code, one law for each

pub number_low : (least next n : ℕ) → n < least → None ≡ least_number least next (Some n)
unfolding least_number
number_low least next n h = rw (lt-ltb n least h)

pub number_up : (least next n : ℕ) → least ≤ n → Some (n, next) ≡ least_number least next (Some n)
unfolding least_number
number_up least next n h = rw (le-ltb n least h)

module _ (t : List ℕ) (l c o : ℕ) where
  pub id_no : (from to : ℕ) → to ≡ id_end t from → length t ≤ to → None ≡ id_at t l c o from
  unfolding id_at
  id_no from to e h = rw (← e, le-ltb to (length t) h)

  pub id_yes : (from to : ℕ) → to ≡ id_end t from → to < length t → Some (record { line = l; count = c; offset = o; from = from; to = to; next = to + 1 }) ≡ id_at t l c o from
  unfolding id_at
  id_yes from to e h = rw (← e, lt-ltb to (length t) h, add-one)

  pub end_past : (at : ℕ) → length t ≤ at → None ≡ end_at t l c o at
  unfolding end_at behind_tab
  end_past at h = rw (begins_past t at lf h, begins_past t at tab h)

  pub end_lf : (at : ℕ) → at < length t → get_or t at 0 ≡ lf → Some (record { line = l; count = c; offset = o; from = 0; to = 0; next = at + 1 }) ≡ end_at t l c o at
  unfolding end_at
  end_lf at h e = rw (begins_at t at lf h e, add-one)

  pub end_bad : (at : ℕ) → at < length t → (get_or t at 0 ≡ lf → ⊥) → (get_or t at 0 ≡ tab → ⊥) → None ≡ end_at t l c o at
  unfolding end_at behind_tab
  end_bad at h e g = rw (begins_other t at lf h e, begins_other t at tab h g)

  pub end_tab : (at : ℕ) (r : Option IndexRow) → at < length t → (get_or t at 0 ≡ lf → ⊥) → get_or t at 0 ≡ tab → r ≡ id_at t l c o (at + 1) → r ≡ end_at t l c o at
  unfolding end_at behind_tab
  end_tab at r h e g q = rw (begins_other t at lf h e, begins_at t at tab h g) (rw add-one at q)

module _ (t : List ℕ) (at : ℕ) (k : ℕ → Option IndexRow) where
  pub tab_past : length t ≤ at → None ≡ behind_tab t at k
  unfolding behind_tab
  tab_past h = rw (begins_past t at tab h)

  pub tab_other : at < length t → (get_or t at 0 ≡ tab → ⊥) → None ≡ behind_tab t at k
  unfolding behind_tab
  tab_other h e = rw (begins_other t at tab h e)

  pub tab_yes : (r : Option IndexRow) → at < length t → get_or t at 0 ≡ tab → r ≡ k (at + 1) → r ≡ behind_tab t at k
  unfolding behind_tab
  tab_yes r h e q = rw (begins_at t at tab h e) (rw add-one at q)

pub field_bad : (f : Option (ℕ × ℕ)) (k : ℕ → ℕ → Option IndexRow) → f ≡ None → None ≡ on_field f k
unfolding on_field
field_bad f k e = rw e

pub field_on : (f : Option (ℕ × ℕ)) (k : ℕ → ℕ → Option IndexRow) (n p : ℕ) (r : Option IndexRow) → f ≡ Some (n, p) → r ≡ k n p → r ≡ on_field f k
unfolding on_field
field_on f k n p r e q = rw e q
