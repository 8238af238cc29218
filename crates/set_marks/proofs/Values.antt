-- A value byte by byte: its raw text, what that stands for, and its backslashes.
-- Assumes nothing.
use Rattle.std.specs.Prelude.{None, Option, Some}
use mathlib.Core.Path.{◌≡◌, refl, sym, ◌∙◌}
use mathlib.Core.Bool.{Bool, true, false, cond}
use mathlib.Core.List.{List, [], ◌∷◌, ◌++◌, flat_map}
use Prim.Native.Nat.{ℕ, suc, ◌+◌, ◌-◌, ◌<◌, ◌≤◌, zero-le}
use native.Mathlib.Nat.{add-zero}
use native.Mathlib.Numerals.{add-one}
use native.Mathlib.Omega.{arith}
use borrow.Author.Tests.{leb-true, leb-false, eq-eqb, ne_eqb}
use lib.Dec.{leb}
use lib.ListN.{length, get_or, drop, drop_of_length-le, length-append, length-take}
use lib.Seq.{drop-cons}
use Rattle.base_bytes.specs.Bytes.{is_marked}
use Rattle.std.proofs.lemmas.Option.{some_pair_parts}
use Rattle.base_lists.specs.Lists.{same}
use Rattle.base_lists.proofs.Parts.{slice_part}
use Rattle.text_escapes.specs.Unescape.{unescape}
use Rattle.text_escapes.proofs.Pieces.{byte_at, end_at, unescape_le}
use Rattle.set_canon.specs.Canon.{marked, escape}
use Rattle.base_refusals.specs.Numbers.{max_text}
use Rattle.set_table.specs.Types.{Texts, text_at, range_bytes, text_bytes, value_bytes}
use Rattle.set_table.specs.declared.Origin.{Origin}
use Rattle.set_table.specs.declared.Value.{Value}
use Rattle.set_table.specs.declared.Text.{Text}
use Rattle.set_table.specs.declared.Text.TheVariants.{Plain, Quoted, Empty}
use Rattle.set_marks.specs.Marks.{raw_text, raw_bytes, is_quoted_text, is_quoted, bytes_in, piece_in}

-- ---- backslashes

pub marked_yes : (b : ℕ) → is_marked b ≡ true → marked b ≡ 92 ∷ (b ∷ [])
unfolding marked
marked_yes b h = rw h

pub marked_no : (b : ℕ) → is_marked b ≡ false → marked b ≡ b ∷ []
unfolding marked
marked_no b h = rw h

marked_short : (b : ℕ) → length (marked b) ≤ 2
unfolding marked
marked_short b = go (is_marked b)
  where
    go : (x : Bool) → length (cond x (92 ∷ (b ∷ [])) (b ∷ [])) ≤ 2
    go true = omega arith
    go false = omega arith

escape_cons : (b : ℕ) (s : List ℕ) → escape (b ∷ s) ≡ marked b ++ escape s
unfolding escape flat_map
escape_cons b s = refl

pub escape_short : (s : List ℕ) → length (escape s) ≤ length s + length s
unfolding escape flat_map
escape_short [] = zero-le
escape_short (b ∷ s) = rw (escape_cons b s, length-append) (omega (arith, marked_short b, escape_short s))

-- ---- the bytes of a raw text

pub bytes_short : (q : Bool) (s : List ℕ) → length (bytes_in q s) ≤ length s
bytes_short true s = unescape_le s
bytes_short false s = omega arith

-- the byte b is at i, the rest from `next` on
pub record Stands (q : Bool) (s : List ℕ) (i b next : ℕ) : Type 0 where
  pub ahead : i < next
  pub within : next ≤ length s
  pub bytes : bytes_in q (drop i s) ≡ b ∷ bytes_in q (drop next s)
  pub rest : escape (bytes_in q (drop i s)) ≡ marked b ++ escape (bytes_in q (drop next s))
  pub few : length (marked b) ≤ 2

-- nothing is at i or behind it
pub record Ends (q : Bool) (s : List ℕ) (i : ℕ) : Type 0 where
  pub bytes : bytes_in q (drop i s) ≡ []
  pub rest : escape (bytes_in q (drop i s)) ≡ []

module _ {s : List ℕ} {i : ℕ} {r : Option (ℕ × ℕ)} where
  pub byte_in : (q : Bool) {b next : ℕ} → r ≡ piece_in q s i → r ≡ Some (b, next) → Stands q s i b next
  unfolding piece_in
  byte_in true {b} {next} e p =
      let z = byte_at e p in
      record { ahead = z.ahead; within = z.within; bytes = z.rest; rest = rw z.rest (escape_cons b (unescape (drop next s))); few = marked_short b }
  byte_in false {b} {next} e p = go (leb (length s) i) refl (sym e ∙ p)
    where
      go : (x : Bool) → leb (length s) i ≡ x → cond {A = Option (ℕ × ℕ)} x None (Some (get_or s i 0, i + 1)) ≡ Some (b, next) → Stands false s i b next
      go true h z = let z : ◌≡◌ {A = ℕ} 0 1 = cc in absurd (omega arith)
      go false h z =
          let l = leb-false (length s) i h in
          let n : next ≡ i + 1 = sym (some_pair_parts _ _ _ _ z).1 in
          let v : b ≡ get_or s i 0 = sym (some_pair_parts _ _ _ _ z).0 in
          record { ahead = omega arith; within = omega arith; bytes = rw (drop-cons s i 0 l, v, n, add-one); rest = rw (drop-cons s i 0 l, v, n, add-one) (escape_cons (get_or s i 0) (drop (suc i) s)); few = marked_short b }

  pub end_in : (q : Bool) → r ≡ piece_in q s i → r ≡ None → Ends q s i
  unfolding piece_in escape flat_map
  end_in true e p = record { bytes = (end_at e p).rest; rest = rw (end_at e p).rest }
  end_in false e p = go (leb (length s) i) refl (sym e ∙ p)
    where
      go : (x : Bool) → leb (length s) i ≡ x → cond {A = Option (ℕ × ℕ)} x None (Some (get_or s i 0, i + 1)) ≡ None → Ends false s i
      go true h z = record { bytes = drop_of_length-le s (leb-true (length s) i h); rest = rw (drop_of_length-le s (leb-true (length s) i h)) }
      go false h z = let z : ◌≡◌ {A = ℕ} 0 1 = cc in absurd (omega arith)

-- ---- counting: n bytes were counted, the others stand from i on
pub record Counts (q : Bool) (s : List ℕ) (n i : ℕ) : Type 0 where
  pub within : i ≤ length s
  pub few : n ≤ i + i
  pub rest : n + length (escape (bytes_in q (drop i s))) ≡ length (escape (bytes_in q s))

pub counts_start : (q : Bool) (s : List ℕ) → Counts q s 0 0
counts_start q s = record { within = zero-le; few = zero-le; rest = omega arith }

module _ {q : Bool} {s : List ℕ} {n i : ℕ} (inv : Counts q s n i) where
  pub counts_go : {b next : ℕ} → Stands q s i b next → Counts q s (n + length (marked b)) next
  counts_go {b} {next} p =
      record {
        within = p.within;
        few = omega (arith, p.ahead, p.few, inv.few);
        rest = omega (arith, rw (p.rest, length-append (marked b) (escape (bytes_in q (drop next s)))) at inv.rest);
      }

  pub counts_end : Ends q s i → n ≡ length (escape (bytes_in q s))
  counts_end p = sym (add-zero n) ∙ (rw p.rest at inv.rest)

-- ---- comparing: the answer for the rests, from i and from j on, is the answer for the whole
pub record Equals (p : Bool) (s : List ℕ) (q : Bool) (t : List ℕ) (i j : ℕ) : Type 0 where
  pub rest : same (bytes_in p (drop i s)) (bytes_in q (drop j t)) ≡ same (bytes_in p s) (bytes_in q t)

pub equals-start : (p : Bool) (s : List ℕ) (q : Bool) (t : List ℕ) → Equals p s q t 0 0
equals-start p s q t = record { rest = refl }

module _ {p : Bool} {s : List ℕ} {q : Bool} {t : List ℕ} {i j : ℕ} (inv : Equals p s q t i j) where
  pub equals_end : Ends p s i → Ends q t j → true ≡ same (bytes_in p s) (bytes_in q t)
  unfolding same
  equals_end e f = rw (e.bytes, f.bytes) at inv.rest

  pub equals_shorter : {b next : ℕ} → Ends p s i → Stands q t j b next → false ≡ same (bytes_in p s) (bytes_in q t)
  unfolding same
  equals_shorter e f = rw (e.bytes, f.bytes) at inv.rest

  module _ {b next : ℕ} (e : Stands p s i b next) where
    pub equals-longer : Ends q t j → false ≡ same (bytes_in p s) (bytes_in q t)
    unfolding same
    equals-longer f = rw (e.bytes, f.bytes) at inv.rest

    module _ {c after : ℕ} (f : Stands q t j c after) where
      pub equals_stop : (b ≡ c → ⊥) → false ≡ same (bytes_in p s) (bytes_in q t)
      unfolding same
      equals_stop n = rw (e.bytes, f.bytes, ne_eqb b c n) at inv.rest

      pub equals_go : b ≡ c → Equals p s q t next after
      unfolding same
      equals_go n = record { rest = rw (e.bytes, f.bytes, eq-eqb b c n) at inv.rest }

-- ---- a value of a set

pub raw_value : (t : Texts) (v : Value) → bytes_in (is_quoted v) (raw_bytes t v) ≡ value_bytes t v
unfolding is_quoted raw_bytes value_bytes
raw_value t v = go v.text
  where
    go : (x : Text) → bytes_in (is_quoted_text x) (raw_text t x) ≡ text_bytes t x
    go (Plain o from to) = refl
    go (Quoted o from to) = refl
    go Empty = refl

-- a range isn't longer than the place where it ends
pub range_short : (t : Texts) (o : Origin) (from to : ℕ) → length (range_bytes t o from to) ≤ to
unfolding range_bytes
range_short t o from to = rw (slice_part from to (text_at t o)) (omega (arith, length-take (to - from) (drop from (text_at t o))))

pub range_fits : (t : Texts) (o : Origin) (from to : ℕ) {s : List ℕ} → s ≡ range_bytes t o from to → to ≤ max_text → length s ≤ max_text
range_fits t o from to e h = rw e (omega (arith, range_short t o from to))

-- two values by their raw texts
module _ (t : Texts) (a b : Value) {x y : List ℕ} {p q r : Bool} (e : x ≡ raw_bytes t a) (f : y ≡ raw_bytes t b) (g : p ≡ is_quoted a) (h : q ≡ is_quoted b) where
  pub by_pieces : r ≡ same (bytes_in p x) (bytes_in q y) → r ≡ same (value_bytes t a) (value_bytes t b)
  by_pieces z = z ∙ (rw (e, f, g, h, raw_value t a, raw_value t b))

  pub by_bytes : p ≡ false → q ≡ false → r ≡ same x y → r ≡ same (value_bytes t a) (value_bytes t b)
  by_bytes i j z = by_pieces (z ∙ (rw (i, j)))
