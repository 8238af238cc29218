-- Writing a record's line: its numbers, its end, its row; and the row of a lent table.
-- Assumes nothing.
use Rattle.std.specs.Prelude.{Err, None, Ok, Option, Some}
use mathlib.Core.Path.{◌≡◌, refl, sym, ◌∙◌, ap}
use mathlib.Core.Bool.{Bool, true, false, cond, ◌&&◌}
use mathlib.Core.List.{List, [], ◌∷◌, ◌++◌, append-nil}
use Prim.Native.Nat.{ℕ, suc, ◌+◌, ◌-◌, ◌*◌, ◌/◌, ◌^◌, ◌≤◌, ◌<◌}
use native.Mathlib.Numerals.{add-one}
use native.Mathlib.Omega.{arith}
use borrow.Author.Tests.{le-leb, lt-leb, leb-true, leb-false, lt-ltb, le-ltb}
use lib.Dec.{leb, eqb}
use lib.ListN.{length, get_or, take, drop, set, length-append, length-set, replicate, drop_of_length-le}
use lib.Seq.{drop-cons, slice, sets, length-sets, sets-eq, take_all, take-append_seam}
use Rattle.base_lists.proofs.Sets.{sets-append}
use Rattle.base_refusals.specs.Numbers.{outcome_no, passed}
use Rattle.base_refusals.specs.Orders.{in_order, order_no}
use Rattle.base_refusals.proofs.Orders.{order_no_lem}
use Rattle.base_refusals.specs.declared.Refusal.TheVariants.{NotAnIndex, AnotherVersion}
use Rattle.base_bytes.specs.Bytes.{lf, tab}
use Rattle.text_digits.specs.Decimal.{decimal, places, places_in}
use Rattle.text_digits.proofs.Decimals.{decimal_le, decimal-length, fewest_is}
use Rattle.text_escapes.specs.Unescape.{unescape, fits, written_to, content_of}
use Rattle.set_marks.specs.Marks.{bytes_in}
use Rattle.base_lists.specs.Lists.{same}
use Rattle.base_lists.proofs.Same.{same_length}
use Rattle.sheet_records.specs.Records.{RecordId, no_id, an_id, Record, numbers_text, id_field, record_line, index_version, header_of, index_header, row_by, row_at}
use Rattle.sheet_records.specs.Computed.{field_at, is_headed_by, is_headed, head_front, ends_line, is_numbered, is_other, other_told, head_order, head_in, head_of}
use Rattle.sheet_records.specs.Writing.{raw_id, line_fits, put_of, line_over, put_paper, row_over}
use Rattle.sheet_records.specs.Inner.{line_size, end_text, row_to}
use Rattle.sheet_records.specs.declared.IndexRow.{IndexRow}
use Rattle.sheet_records.proofs.Places.{begins_past}

-- an answer, and the same on paper
pub told : {A B : Type 0} (f : A → B) {x y : A} → x ≡ y → (x ≡ y) × (f x ≡ f y)
told f e = (e, ap f e)

-- ---- the first line

pub header_is : index_header ≡ 99 ∷ 97 ∷ 114 ∷ 118 ∷ 101 ∷ 45 ∷ 97 ∷ 116 ∷ 116 ∷ 114 ∷ 45 ∷ 105 ∷ 110 ∷ 100 ∷ 101 ∷ 120 ∷ 9 ∷ 50 ∷ 10 ∷ []
unfolding header_of index_version decimal places places_in
header_is = refl

pub header_long : length index_header ≡ 19
header_long = ap length header_is

pub head_short : (t : List ℕ) → length t < 19 → false ≡ is_headed t
head_short t h = same_length (take (length index_header) t) index_header (λ e. absurd (omega (arith, e, header_long, ap length (take_all (length index_header) t (omega (arith, header_long))))))

-- what is laid at the front
pub front_laid : (buf xs : List ℕ) → length xs ≤ length buf → sets buf 0 xs ≡ xs ++ drop (length xs) buf
front_laid buf xs h = let z : 0 + length xs ≡ length xs = omega arith in rw z at (sets-eq xs buf 0 (omega arith))

-- the bytes that the code compares with: the first line, laid over any nineteen
laid_head : {h : List ℕ} (buf : List ℕ) → length buf ≡ 19 → h ≡ sets buf 0 index_header → h ≡ index_header
laid_head buf l e =
    let d : drop (length index_header) buf ≡ [] = drop_of_length-le buf {i = length index_header} (omega (arith, header_long)) in
    e ∙ (front_laid buf index_header (omega (arith, header_long)) ∙ (ap (λ (x : List ℕ). index_header ++ x) d ∙ append-nil index_header))

pub headed_is : (t buf : List ℕ) {x : Bool} {s h : List ℕ} → length buf ≡ 19 → h ≡ sets buf 0 index_header → s ≡ take 19 t → x ≡ same s h → x ≡ is_headed t
headed_is t buf l e f q = q ∙ rw (f, laid_head buf l e, header_long)

-- the first line of some version: what stands before its number, the number, and the LF
module _ (t : List ℕ) {s : List ℕ} {x : Bool} (e : s ≡ take 17 t) (f : x ≡ same s head_front) where
  pub numbered_no : x ≡ false → false ≡ is_numbered t
  unfolding is_numbered
  numbered_no y = rw (← e, ← f, y)

  module _ (y : x ≡ true) where
    numbered_by : {b : Bool} → b ≡ ends_line t (field_at t 17 0) → b ≡ is_numbered t
    unfolding is_numbered
    numbered_by g = rw (← e, ← f, y) g

    pub numbered_bad : field_at t 17 0 ≡ None → false ≡ is_numbered t
    numbered_bad g = numbered_by (rw g)

    module _ {n p : ℕ} (g : field_at t 17 0 ≡ Some (n, p)) where
      pub numbered_past : length t ≤ p → false ≡ is_numbered t
      numbered_past h = numbered_by (rw (g, begins_past t p lf h))

      pub numbered_byte : p < length t → eqb (get_or t p 0) 10 ≡ is_numbered t
      numbered_byte h = numbered_by (rw (g, drop-cons t p 0 h))

-- some version's, and this one's
pub headed-passes : (v : ℕ) (t : List ℕ) {x : Bool} → x ≡ is_headed_by v t → x ≡ true → Ok tt ≡ head_in v t
unfolding head_in is_other in_order
headed-passes v t e y = rw (← e, y) (go (is_numbered t))
  where
    go : (b : Bool) → passed ≡ cond (b && false) (Err (other_told v)) (Ok tt)
    go true = refl
    go false = refl

module _ (t : List ℕ) where
  pub headed_own : {x : Bool} → x ≡ is_headed t → x ≡ true → false ≡ is_other index_version t
  unfolding is_other
  headed_own e y = rw (← e, y) (go (is_numbered t))
    where
      go : (b : Bool) → false ≡ (b && false)
      go true = refl
      go false = refl

  module _ {x y : Bool} (e : x ≡ is_headed t) (f : x ≡ false) (g : y ≡ is_numbered t) where
    pub numbered_other : y ≡ is_other index_version t
    unfolding is_other
    numbered_other = rw (← e, f) (g ∙ go (is_numbered t))
      where
        go : (b : Bool) → b ≡ (b && true)
        go true = refl
        go false = refl

    pub other_refused : y ≡ true → Err AnotherVersion ≡ head_of t
    unfolding head_in is_other in_order index_version
    other_refused h = rw (← e, f, ← g, h)

    pub head_refused : y ≡ false → Err NotAnIndex ≡ head_of t
    unfolding head_in is_other in_order
    head_refused h = rw (← e, f, ← g, h)

  pub head_no : outcome_no (head_of t) ≡ order_no (head_order index_version t)
  unfolding head_in order_no in_order
  head_no = order_no_lem outcome_no Err (λ r. refl) (head_order index_version t) [] {next = Ok tt} refl

-- ---- the numbers

pub field_le : {n k : ℕ} → k ≡ length (tab ∷ decimal n) → n < 2 ^ 64 → k ≤ 21
field_le {n} e h = omega (arith, e, decimal_le n 20 (omega arith) (omega arith))

pub decimal_short : {n k : ℕ} → k ≡ length (decimal n) → n < 2 ^ 64 → k ≤ 20
decimal_short {n} e h = omega (arith, e, decimal_le n 20 (omega arith) (omega arith))

pub numbers_long : (l c o : ℕ) → length (numbers_text l c o) ≡ length (decimal l) + (length (tab ∷ decimal c) + length (tab ∷ decimal o))
unfolding numbers_text
numbers_long l c o = rw (length-append (decimal l) ((tab ∷ decimal c) ++ (tab ∷ decimal o)), length-append (tab ∷ decimal c) (tab ∷ decimal o))

-- as many digits as there are by the powers of ten on both sides
pub digits_are : (n k : ℕ) → 1 ≤ k → n < 10 ^ k → (1 < k → 10 ^ (k - 1) ≤ n) → k ≤ 20 → (k ≡ length (decimal n)) × (k ≤ 20)
digits_are n k a b d h = (fewest_is n k (a, b, d) ∙ sym (decimal-length n), h)

pub numbers_short : (l c o : ℕ) → l < 2 ^ 64 → c < 2 ^ 64 → o < 2 ^ 64 → length (numbers_text l c o) ≤ 62
numbers_short l c o hl hc ho = omega (arith, numbers_long l c o, decimal_le l 20 (omega arith) (omega arith), decimal_le c 20 (omega arith) (omega arith), decimal_le o 20 (omega arith) (omega arith))

pub numbers_laid : (l c o : ℕ) (buf : List ℕ) {p q r : List ℕ} {i j k : ℕ} → i ≡ length (decimal l) → p ≡ sets buf 0 (decimal l) → j ≡ length (tab ∷ decimal c) → q ≡ sets p i (tab ∷ decimal c)
    → k ≡ length (tab ∷ decimal o) → r ≡ sets q (i + j) (tab ∷ decimal o) → (i + j + k ≡ length (numbers_text l c o)) × (r ≡ sets buf 0 (numbers_text l c o))
unfolding numbers_text
numbers_laid l c o buf {p} {q} {r} {i} {j} {k} a d b e f g = (omega (arith, numbers_long l c o), g ∙ rw (e, d, b, a) (whole ∙ sym first))
  where
    first : sets buf 0 (decimal l ++ ((tab ∷ decimal c) ++ (tab ∷ decimal o))) ≡ sets (sets buf 0 (decimal l)) (length (decimal l)) ((tab ∷ decimal c) ++ (tab ∷ decimal o))
    first = let z : 0 + length (decimal l) ≡ length (decimal l) = omega arith in rw z at (sets-append buf 0 (decimal l) ((tab ∷ decimal c) ++ (tab ∷ decimal o)))

    whole : sets (sets (sets buf 0 (decimal l)) (length (decimal l)) (tab ∷ decimal c)) (length (decimal l) + length (tab ∷ decimal c)) (tab ∷ decimal o) ≡ sets (sets buf 0 (decimal l)) (length (decimal l)) ((tab ∷ decimal c) ++ (tab ∷ decimal o))
    whole = sym (sets-append (sets buf 0 (decimal l)) (length (decimal l)) (tab ∷ decimal c) (tab ∷ decimal o))

-- ---- the id

module _ (quoted : Bool) (s : List ℕ) where
  pub len_quoted : {n : ℕ} → quoted ≡ true → n ≡ length (unescape s) → n ≡ length (bytes_in quoted s)
  len_quoted y e = rw y e

  pub len_plain : quoted ≡ false → length s ≡ length (bytes_in quoted s)
  len_plain y = rw y

  module _ (buf : List ℕ) (at : ℕ) (room : at + length (bytes_in quoted s) ≤ length buf) where
    fit : quoted ≡ true → fits (length buf) at (length (unescape s)) ≡ true
    unfolding fits
    fit y = le-leb (at + length (unescape s)) (length buf) (rw y at room)

    pub id_full : {A : Type 0} {w : Option ℕ} → quoted ≡ true → w ≡ written_to buf at (unescape s) → w ≡ None → A
    unfolding written_to
    id_full y e f = let z : Some (at + length (unescape s)) ≡ None = sym (rw (fit y) at (sym f ∙ e)) in let g : ◌≡◌ {A = ℕ} 0 1 = cc in absurd (omega arith)

    pub id_to : {w : Option ℕ} {e : ℕ} {b : List ℕ} → quoted ≡ true → w ≡ written_to buf at (unescape s) → b ≡ content_of buf at (unescape s) → w ≡ Some e
        → (e ≡ at + length (bytes_in quoted s)) × (b ≡ sets buf at (bytes_in quoted s))
    unfolding written_to content_of
    id_to {e = e} y f g h = let z : Some e ≡ Some (at + length (unescape s)) = rw (fit y) at (sym h ∙ f) in let q : e ≡ at + length (unescape s) = cc in rw y (q, rw (fit y) at g)

    pub id_plain : {b : List ℕ} → quoted ≡ false → b ≡ sets buf at s → (at + length s ≡ at + length (bytes_in quoted s)) × (b ≡ sets buf at (bytes_in quoted s))
    id_plain y g = rw y (refl, g)

-- ---- the end of a line

pub end_long : (i : RecordId) → length (end_text i) ≡ length (id_field i) + 1
end_long i = length-append (id_field i) (lf ∷ [])

module _ (given quoted : Bool) (s buf : List ℕ) (at : ℕ) (room : at + length (end_text (raw_id given quoted s)) ≤ length buf) where
  pub tab_room : given ≡ true → at + (length (bytes_in quoted s) + 2) ≤ length buf
  tab_room y = omega (arith, rw (y, end_long (an_id (bytes_in quoted s))) at room)

  pub lf_room : at < length buf
  lf_room = omega (arith, room, end_long (raw_id given quoted s))

  pub id_behind : {e : ℕ} {b : List ℕ} → given ≡ true → e ≡ at + 1 + length (bytes_in quoted s) → b ≡ sets (set buf at tab) (at + 1) (bytes_in quoted s) → (e < length b) × (length b ≡ length buf)
  id_behind y p q =
      let k = ap length q ∙ (length-sets (set buf at tab) (at + 1) (bytes_in quoted s) ∙ length-set buf at tab) in
      (omega (arith, p, k, tab_room y), k)

  pub end_given : {e : ℕ} {b : List ℕ} → given ≡ true → e ≡ at + 1 + length (bytes_in quoted s) → b ≡ sets (set buf at tab) (at + 1) (bytes_in quoted s)
      → (e + 1 ≡ at + length (end_text (raw_id given quoted s))) × (set b e lf ≡ sets buf at (end_text (raw_id given quoted s)))
  end_given {e} {b} y p q = rw y (omega (arith, p, end_long (an_id (bytes_in quoted s))), rw (q, p, add-one) (sym (sets-append (set buf at tab) (suc at) (bytes_in quoted s) (lf ∷ []))))

  pub end_none : given ≡ false → (at + 1 ≡ at + length (end_text (raw_id given quoted s))) × (set buf at lf ≡ sets buf at (end_text (raw_id given quoted s)))
  end_none y = rw y (refl, refl)

-- ---- whether a line has room

module _ (size at n m : ℕ) (given : Bool) where
  pub room_past : size < at → false ≡ leb (at + line_size n given m) size
  room_past h = sym (lt-leb (at + line_size n given m) size (omega arith))

  pub room_few : size - at ≤ n → false ≡ leb (at + line_size n given m) size
  room_few h = sym (go given)
    where
      go : (g : Bool) → leb (at + line_size n g m) size ≡ false
      go true = lt-leb (at + suc (suc (n + m))) size (omega arith)
      go false = lt-leb (at + suc n) size (omega arith)

  pub room_tab : given ≡ true → size - at - n < 2 → false ≡ leb (at + line_size n given m) size
  room_tab y h = rw y (sym (lt-leb (at + suc (suc (n + m))) size (omega arith)))

  pub room_id : given ≡ true → 2 ≤ size - at - n → leb m (size - at - n - 2) ≡ leb (at + line_size n given m) size
  room_id y h = rw y (go (leb m (size - at - n - 2)) refl)
    where
      go : (x : Bool) → leb m (size - at - n - 2) ≡ x → x ≡ leb (at + suc (suc (n + m))) size
      go true q = sym (le-leb (at + suc (suc (n + m))) size (omega (arith, leb-true m (size - at - n - 2) q)))
      go false q = sym (lt-leb (at + suc (suc (n + m))) size (omega (arith, leb-false m (size - at - n - 2) q)))

  pub room_lf : given ≡ false → n < size - at → true ≡ leb (at + line_size n given m) size
  room_lf y h = rw y (sym (le-leb (at + suc n) size (omega arith)))

-- ---- the line

module _ (l c o : ℕ) (given quoted : Bool) (s : List ℕ) where
  abbrev whole : Record
  whole = record { line = l; count = c; offset = o; id = raw_id given quoted s }

  pub line_long : length (record_line whole) ≡ length (numbers_text l c o) + length (end_text (raw_id given quoted s))
  unfolding record_line
  line_long = length-append (numbers_text l c o) (end_text (raw_id given quoted s))

  pub line_size_lem : length (record_line whole) ≡ line_size (length (numbers_text l c o)) given (length (bytes_in quoted s))
  line_size_lem = line_long ∙ go given
    where
      go : (g : Bool) → length (numbers_text l c o) + length (end_text (raw_id g quoted s)) ≡ line_size (length (numbers_text l c o)) g (length (bytes_in quoted s))
      go true = omega (arith, end_long (an_id (bytes_in quoted s)))
      go false = omega arith

  module _ (buf : List ℕ) (at : ℕ) {n m : ℕ} {x : Bool} (p : n ≡ length (numbers_text l c o)) (q : m ≡ length (bytes_in quoted s)) (f : x ≡ leb (at + line_size n given m) (length buf)) where
    fits_is : x ≡ line_fits (length buf) at whole
    fits_is = f ∙ rw (p, q, line_size_lem)

    pub put_no : x ≡ false → (None ≡ put_of (length buf) at whole) × ((buf ≡ line_over buf at whole) × (put_paper None ≡ put_paper (put_of (length buf) at whole)))
    unfolding put_of line_over
    put_no y = rw (← fits_is, y) (refl, (refl, refl))

    module _ (y : x ≡ true) where
      pub line_room : at + n + length (end_text (raw_id given quoted s)) ≤ length buf
      line_room = omega (arith, line_long, leb-true (at + length (record_line whole)) (length buf) (sym fits_is ∙ y))

      row_is_lem : {r : IndexRow} {next : ℕ} → next ≡ at + n + length (end_text (raw_id given quoted s)) → r ≡ row_to l c o (at + n) given next → r ≡ row_at at whole
      unfolding row_at
      row_is_lem {r} {next} d e = e ∙ rw (← p) (go given d)
        where
          go : (g : Bool) → next ≡ at + n + length (end_text (raw_id g quoted s)) → row_to l c o (at + n) g next ≡ row_by (at + n) (record { line = l; count = c; offset = o; id = raw_id g quoted s }) (raw_id g quoted s)
          go true h =
              let k : next ≡ suc (suc (at + n) + length (bytes_in quoted s)) = omega (arith, h, end_long (an_id (bytes_in quoted s))) in
              let z : suc (suc (at + n) + length (bytes_in quoted s)) - 1 ≡ suc (at + n) + length (bytes_in quoted s) = omega arith in
              rw (k, z)
          go false h =
              let k : next ≡ suc (at + n) = omega (arith, h) in
              rw k

      pub put_yes : {front a b : List ℕ} {r : IndexRow} {next : ℕ} → front ≡ numbers_text l c o → a ≡ sets buf at front → next ≡ at + n + length (end_text (raw_id given quoted s))
          → b ≡ sets a (at + n) (end_text (raw_id given quoted s)) → r ≡ row_to l c o (at + n) given next
          → (Some r ≡ put_of (length buf) at whole) × ((b ≡ line_over buf at whole) × (put_paper (Some r) ≡ put_paper (put_of (length buf) at whole)))
      unfolding put_of line_over record_line
      put_yes g h d e w = rw (← fits_is, y, row_is_lem d w) (refl, (e ∙ rw (h, g, p) (sym (sets-append buf at (numbers_text l c o) (end_text (raw_id given quoted s)))), refl))

-- the numbers, of the bytes that they were laid into
pub front_is : {h : List ℕ} (buf xs : List ℕ) → length xs ≤ length buf → h ≡ sets buf 0 xs → take (length xs) h ≡ xs
front_is buf xs k e = rw (e, front_laid buf xs k) (take-append_seam xs (drop (length xs) buf))

pub laid_numbers : (l c o : ℕ) {n : ℕ} {h s : List ℕ} → ((n ≡ length (numbers_text l c o)) × (n ≤ 62)) × (h ≡ sets (replicate 62 0) 0 (numbers_text l c o)) → s ≡ slice 0 n h → s ≡ numbers_text l c o
laid_numbers l c o (p, q) e = e ∙ rw p.0 (front_is (replicate 62 0) (numbers_text l c o) (omega (arith, p)) q)

-- ---- a row of the table

module _ (t : List ℕ) (k : ℕ) (r : IndexRow) where
  pub row_none : length t / 5 ≤ k → t ≡ row_over t k r
  unfolding row_over
  row_none h = rw (le-ltb k (length t / 5) h)

  pub row_put : k < length t / 5
      → set (set (set (set (set t (k * 5) r.line) (k * 5 + 1) r.count) (k * 5 + 2) r.offset) (k * 5 + 3) r.from) (k * 5 + 4) r.to ≡ row_over t k r
  unfolding row_over
  row_put h =
      let a : k * 5 + 1 ≡ suc (k * 5) = omega arith in
      let b : k * 5 + 2 ≡ suc (suc (k * 5)) = omega arith in
      let c : k * 5 + 3 ≡ suc (suc (suc (k * 5))) = omega arith in
      let d : k * 5 + 4 ≡ suc (suc (suc (suc (k * 5)))) = omega arith in
      rw (lt-ltb k (length t / 5) h, a, b, c, d)

-- ---- where the line behind begins

pub row_next : (at : ℕ) (r : Record) → (row_at at r).next ≡ at + length (record_line r)
unfolding row_at record_line
row_next at r = go r.id
  where
    go : (i : RecordId) → (row_by (at + length (numbers_text r.line r.count r.offset)) r i).next ≡ at + length (numbers_text r.line r.count r.offset ++ end_text i)
    go no_id = omega (arith, length-append (numbers_text r.line r.count r.offset) (end_text no_id))
    go (an_id s) = omega (arith, length-append (numbers_text r.line r.count r.offset) (end_text (an_id s)), end_long (an_id s))
