-- The ranges a byte at a time: how they go on behind what `piece_in` answers.
-- Assumes nothing.
use Rattle.std.proofs.lemmas.Option.{some_pair_parts}
use Rattle.std.specs.Prelude.{None, Option, Some}
use mathlib.Core.Path.{◌≡◌, refl, sym, ◌∙◌}
use mathlib.Core.Bool.{Bool, true, false, cond, ◌&&◌}
use mathlib.Core.List.{List, [], ◌∷◌}
use Prim.Native.Nat.{ℕ, suc, ◌+◌, ◌<◌, ◌≤◌}
use native.Mathlib.Nat.{add-zero}
use native.Mathlib.Numerals.{add-one}
use native.Mathlib.Omega.{arith}
use borrow.Author.Tests.{eqb-true, leb-true, leb-false}
use lib.Dec.{eqb, leb}
use lib.ListN.{length, get_or, drop, drop_of_length-le}
use lib.Seq.{drop-cons, get_or-drop, drop-drop}
use Rattle.base_lists.proofs.Scan.{both}
use Rattle.base_lists.proofs.More.{contra}
use Rattle.base_bytes.specs.Bytes.{is_punct, within}
use Rattle.text_escapes.specs.Unescape.{unescape, unescape_from, is_pair, piece_at}
use Rattle.text_escapes.proofs.Pieces.{punct_not, pair_within, byte_at}
use Rattle.set_marks.specs.Marks.{bytes_in, piece_in}
use Rattle.block_grammar.specs.Meaning.{PieceAt}
use Rattle.set_commas.specs.Commas.{cut_range, cuts_from}

-- ---- at the front of a text

-- a byte b of the value that ends before `next`, where `s` is what stands from there on
abbrev pub turn : Bool → ℕ → ℕ → ℕ → ℕ → List ℕ → List PieceAt
turn q from at b next s = cond (eqb b 44) (cut_range from at ∷ cuts_from q false next next s) (cuts_from q false from next s)

-- a comma is punctuation
not_comma : (b : ℕ) → is_punct b ≡ false → eqb b 44 ≡ false
unfolding is_punct within
not_comma b h = go (eqb b 44) refl
  where
    go : (x : Bool) → eqb b 44 ≡ x → x ≡ false
    go true e = contra true refl (rw (eqb-true b 44 e) at h)
    go false e = refl

pair_front : (b : ℕ) (t : List ℕ) (from at : ℕ) → (eqb b 92 && is_punct (get_or t 0 0)) ≡ true → cuts_from true false from at (b ∷ t) ≡ turn true from at (get_or t 0 0) (at + 2) (drop 1 t)
unfolding cuts_from is_punct within
pair_front b [] from at h = contra false (both (eqb b 92) false h).1 refl
pair_front b (a ∷ t) from at h = let g = eqb-true b 92 (both (eqb b 92) (is_punct a) h).0 in rw g

byte_front : (b : ℕ) (t : List ℕ) (from at : ℕ) → (eqb b 92 && is_punct (get_or t 0 0)) ≡ false → cuts_from true false from at (b ∷ t) ≡ turn true from at b (suc at) t
unfolding cuts_from
byte_front b t from at h = go (eqb b 92) refl h t refl
  where
    go : (x : Bool) → eqb b 92 ≡ x → (x && is_punct (get_or t 0 0)) ≡ false → (u : List ℕ) → t ≡ u
        → cond (eqb b 44) (cut_range from at ∷ cuts_from true false (suc at) (suc at) u) (cond x (cuts_from true true from at u) (cuts_from true false from (suc at) u)) ≡ turn true from at b (suc at) u
    go true e q [] z = rw (eqb-true b 92 e)
    go true e q (a ∷ u) z =
        let p : is_punct a ≡ false = rw z at q in
        let n : at + 2 ≡ suc (suc at) = omega arith in
        rw (eqb-true b 92 e, not_comma a p, punct_not a p, n)
    go false e q u z = refl

-- ---- at a place

-- the byte b of the value is at i, the rest from `next` on
pub record Turns (q : Bool) (s : List ℕ) (i b next : ℕ) : Type 0 where
  pub ahead : i < next
  pub inside : next ≤ length s
  pub bytes : bytes_in q (drop i s) ≡ b ∷ bytes_in q (drop next s)
  pub cuts : (from : ℕ) → cuts_from q false from i (drop i s) ≡ turn q from i b next (drop next s)

-- nothing is at i or behind it
pub record Stops (q : Bool) (s : List ℕ) (i : ℕ) : Type 0 where
  pub past : length s ≤ i
  pub bytes : bytes_in q (drop i s) ≡ []
  pub cuts : (from : ℕ) → cuts_from q false from i (drop i s) ≡ cut_range from i ∷ []

stops : (q : Bool) (s : List ℕ) (i : ℕ) → length s ≤ i → Stops q s i
unfolding cuts_from unescape unescape_from
stops true s i h = record { past = h; bytes = rw (drop_of_length-le s h); cuts = λ from. rw (drop_of_length-le s h) }
stops false s i h = record { past = h; bytes = drop_of_length-le s h; cuts = λ from. rw (drop_of_length-le s h) }

plain_turn : (s : List ℕ) (i : ℕ) {b next : ℕ} → cond {A = Option (ℕ × ℕ)} (leb (length s) i) None (Some (get_or s i 0, i + 1)) ≡ Some (b, next) → Turns false s i b next
unfolding cuts_from
plain_turn s i {b} {next} q = go (leb (length s) i) refl q
  where
    go : (x : Bool) → leb (length s) i ≡ x → cond {A = Option (ℕ × ℕ)} x None (Some (get_or s i 0, i + 1)) ≡ Some (b, next) → Turns false s i b next
    go true h z = let z : ◌≡◌ {A = ℕ} 0 1 = cc in absurd (omega arith)
    go false h z =
        let l = leb-false (length s) i h in
        let n : next ≡ i + 1 = sym (some_pair_parts _ _ _ _ z).1 in
        let v : b ≡ get_or s i 0 = sym (some_pair_parts _ _ _ _ z).0 in
        record { ahead = omega arith; inside = omega arith; bytes = rw (drop-cons s i 0 l, v, n, add-one) refl; cuts = λ from. rw (drop-cons s i 0 l, v, n, add-one) refl }

module _ {s : List ℕ} {i : ℕ} {r : Option (ℕ × ℕ)} where
  quoted_turn : {b next : ℕ} → r ≡ piece_at s i → r ≡ Some (b, next) → Turns true s i b next
  unfolding piece_at is_pair
  quoted_turn {b} {next} e q = go (leb (length s) i) (is_pair s i) refl refl (sym e ∙ q)
    where
      behind : get_or (drop (suc i) s) 0 0 ≡ get_or s (i + 1) 0
      behind = get_or-drop (suc i) s 0 0 ∙ rw (add-zero, add-one)

      go : (x y : Bool) → leb (length s) i ≡ x → is_pair s i ≡ y → cond {A = Option (ℕ × ℕ)} x None (cond y (Some (get_or s (i + 1) 0, i + 2)) (Some (get_or s i 0, i + 1))) ≡ Some (b, next) → Turns true s i b next
      go true y p h z = let z : ◌≡◌ {A = ℕ} 0 1 = cc in absurd (omega arith)
      go false true p h z =
          let l = leb-false (length s) i p in
          let w = pair_within s i h in
          let n : next ≡ i + 2 = sym (some_pair_parts _ _ _ _ z).1 in
          let v : b ≡ get_or s (i + 1) 0 = sym (some_pair_parts _ _ _ _ z).0 in
          let d : suc i + 1 ≡ i + 2 = omega arith in
          record { ahead = omega arith; inside = omega arith; bytes = (byte_at e q).rest; cuts = λ from. rw (drop-cons s i 0 l, v, n) (pair_front (get_or s i 0) (drop (suc i) s) from i (rw behind h) ∙ rw (behind, drop-drop 1 (suc i) s, d)) }
      go false false p h z =
          let l = leb-false (length s) i p in
          let n : next ≡ i + 1 = sym (some_pair_parts _ _ _ _ z).1 in
          let v : b ≡ get_or s i 0 = sym (some_pair_parts _ _ _ _ z).0 in
          record { ahead = omega arith; inside = omega arith; bytes = (byte_at e q).rest; cuts = λ from. rw (drop-cons s i 0 l, v, n, add-one) (byte_front (get_or s i 0) (drop (suc i) s) from i (rw behind h)) }

  pub turn_at : (q : Bool) {b next : ℕ} → r ≡ piece_in q s i → r ≡ Some (b, next) → Turns q s i b next
  unfolding piece_in
  turn_at true e p = quoted_turn e p
  turn_at false e p = plain_turn s i (sym e ∙ p)

  pub stop_at : (q : Bool) → r ≡ piece_in q s i → r ≡ None → Stops q s i
  unfolding piece_in piece_at
  stop_at true e p = go (leb (length s) i) refl (is_pair s i) (sym e ∙ p)
    where
      go : (x : Bool) → leb (length s) i ≡ x → (y : Bool) → cond {A = Option (ℕ × ℕ)} x None (cond y (Some (get_or s (i + 1) 0, i + 2)) (Some (get_or s i 0, i + 1))) ≡ None → Stops true s i
      go true h y z = stops true s i (leb-true (length s) i h)
      go false h true z = let z : ◌≡◌ {A = ℕ} 0 1 = cc in absurd (omega arith)
      go false h false z = let z : ◌≡◌ {A = ℕ} 0 1 = cc in absurd (omega arith)
  stop_at false e p = go (leb (length s) i) refl (sym e ∙ p)
    where
      go : (x : Bool) → leb (length s) i ≡ x → cond {A = Option (ℕ × ℕ)} x None (Some (get_or s i 0, i + 1)) ≡ None → Stops false s i
      go true h z = stops false s i (leb-true (length s) i h)
      go false h z = let z : ◌≡◌ {A = ℕ} 0 1 = cc in absurd (omega arith)
