-- The three loops over the pieces of a text: how each goes on behind a byte, and what it has at the end.
-- Assumes nothing.
use Rattle.std.specs.Prelude.{None, Option, Some}
use mathlib.Core.Path.{◌≡◌, refl, sym, ◌∙◌, ap}
use mathlib.Core.Bool.{false}
use mathlib.Core.List.{List, ◌++◌}
use Prim.Native.Nat.{ℕ, ◌+◌, ◌-◌, ◌<◌, ◌≤◌, zero-le}
use native.Mathlib.Nat.{add-zero, zero-add}
use native.Mathlib.Omega.{arith}
use native.Mathlib.Numerals.{add-one}
use borrow.Author.Tests.{eq-eqb, ne_eqb, le-leb, lt-leb}
use lib.Dec.{eqb}
use lib.ListN.{length, get_or, drop, set, drop_of_length-le, length-set}
use lib.Seq.{drop-cons, sets}
use Rattle.base_lists.specs.Lists.{same}
use Rattle.base_lists.proofs.Same.{same_nil}
use Rattle.text_escapes.specs.Unescape.{unescape, fits, written_to, written_paper, content_of}
use Rattle.text_escapes.proofs.Pieces.{Stands, Ends}

-- ---- counting: n bytes of the unescaped text were passed, the others stand from i on
pub record Counts (s : List ℕ) (n i : ℕ) : Type 0 where
  pub within : i ≤ length s
  pub few : n ≤ i
  pub rest : n + length (unescape (drop i s)) ≡ length (unescape s)

pub counts_start : (s : List ℕ) → Counts s 0 0
counts_start s = record { within = zero-le; few = zero-le; rest = zero-add (length (unescape s)) }

module _ {s : List ℕ} {n i : ℕ} (inv : Counts s n i) where
  pub counts_go : {b next : ℕ} → Stands s i b next → Counts s (n + 1) next
  counts_go p = record { within = p.within; few = omega (arith, p.ahead, inv.few); rest = omega (arith, rw p.rest at inv.rest) }

  pub counts_end : Ends s i → n ≡ length (unescape s)
  counts_end p = sym (add-zero n) ∙ (rw p.rest at inv.rest)

-- ---- comparing: the answer for the rest is the answer for the whole
pub record Compares (s t : List ℕ) (k i : ℕ) : Type 0 where
  pub within : k ≤ length t
  pub rest : same (unescape (drop i s)) (drop k t) ≡ same (unescape s) t

pub compares_start : (s t : List ℕ) → Compares s t 0 0
compares_start s t = record { within = zero-le; rest = refl }

module _ {s t : List ℕ} {k i : ℕ} (inv : Compares s t k i) where
  pub compares_end : Ends s i → eqb k (length t) ≡ same (unescape s) t
  compares_end p = same_nil k t inv.within ∙ (rw p.rest at inv.rest)

  module _ {b next : ℕ} (p : Stands s i b next) where
    pub compares_short : length t ≤ k → false ≡ same (unescape s) t
    unfolding same
    compares_short h = rw (p.rest, drop_of_length-le t h) at inv.rest

    pub compares_stop : k < length t → (b ≡ get_or t k 0 → ⊥) → false ≡ same (unescape s) t
    unfolding same
    compares_stop h e = rw (p.rest, drop-cons t k 0 h, ne_eqb b (get_or t k 0) e) at inv.rest

    pub compares_go : k < length t → b ≡ get_or t k 0 → Compares s t (k + 1) next
    unfolding same
    compares_go h e = record { within = omega arith; rest = rw add-one (rw (p.rest, drop-cons t k 0 h, eq-eqb b (get_or t k 0) e) at inv.rest) }

-- ---- writing: what is still to be written, written onto the memory as it is, gives the memory as it is to be
pub record Writes (buf₀ : List ℕ) (at : ℕ) (s buf : List ℕ) (k i : ℕ) : Type 0 where
  pub long : length buf ≡ length buf₀
  pub room : at + length (unescape s) ≤ length buf₀
  pub left : k + length (unescape (drop i s)) ≡ at + length (unescape s)
  pub rest : sets buf k (unescape (drop i s)) ≡ sets buf₀ at (unescape s)

pub writes_start : (buf : List ℕ) (at : ℕ) (s : List ℕ) → at + length (unescape s) ≤ length buf → Writes buf at s buf at 0
writes_start buf at s h = record { long = refl; room = h; left = refl; rest = refl }

module _ {buf₀ : List ℕ} {at : ℕ} {s buf : List ℕ} {k i : ℕ} (inv : Writes buf₀ at s buf k i) where
  -- a byte is to be written, and there is room for it
  pub writes_some : {b next : ℕ} → Stands s i b next → k < length buf
  writes_some p = omega (arith, rw p.rest at inv.left, inv.long, inv.room)

  pub writes_go : {b next : ℕ} → Stands s i b next → Writes buf₀ at s (set buf k b) (k + 1) next
  writes_go {b} p =
      record {
        long = length-set buf k b ∙ inv.long;
        room = inv.room;
        left = omega (arith, rw p.rest at inv.left);
        rest = rw (add-one k) (rw p.rest at inv.rest);
      }

  pub writes_end : Ends s i → (k ≡ at + length (unescape s)) × (buf ≡ sets buf₀ at (unescape s))
  writes_end p = (sym (add-zero k) ∙ (rw p.rest at inv.left), rw p.rest at inv.rest)

-- ---- room
module _ (buf : List ℕ) (at : ℕ) (xs : List ℕ) where
  abbrev pub Answers : Option ℕ → List ℕ → Type 0
  Answers r b = (r ≡ written_to buf at xs) × ((b ≡ content_of buf at xs) × (written_paper r ≡ written_paper (written_to buf at xs)))

  answers : {r : Option ℕ} {b : List ℕ} → r ≡ written_to buf at xs → b ≡ content_of buf at xs → Answers r b
  answers p q = (p, (q, ap written_paper p))

  pub none_before : length buf < at → Answers None buf
  unfolding fits written_to content_of
  none_before h = let e = lt-leb (at + length xs) (length buf) (omega (arith, h)) in answers (rw e) (rw e)

  pub none_behind : at ≤ length buf → length buf - at < length xs → Answers None buf
  unfolding fits written_to content_of
  none_behind h l = let e = lt-leb (at + length xs) (length buf) (omega (arith, h, l)) in answers (rw e) (rw e)

  pub room : at ≤ length buf → length xs ≤ length buf - at → {k : ℕ} {b : List ℕ} → k ≡ at + length xs → b ≡ sets buf at xs → Answers (Some k) b
  unfolding fits written_to content_of
  room h l p q = let e = le-leb (at + length xs) (length buf) (omega (arith, h, l)) in answers (rw (e, p)) (rw (e, q))
