-- What is measured against the lesser of two bounds is measured against both; then the answer and the content are as promised.
-- Assumes nothing.
use Rattle.std.specs.Prelude.{Err, Ok, Result}
use mathlib.Core.Path.{◌≡◌, refl, sym, ◌∙◌}
use mathlib.Core.Bool.{Bool, true, false, cond, ◌&&◌}
use mathlib.Core.List.{List, ◌++◌}
use Prim.Native.Nat.{ℕ, ◌≤◌, ◌<◌, min}
use native.Mathlib.Nat.{zero-add}
use native.Mathlib.Omega.{arith}
use borrow.Author.Tests.{le-leb, lt-leb, leb-true, leb-false}
use lib.Dec.{leb}
use lib.ListN.{length, drop}
use lib.Seq.{sets, sets-eq}
use Rattle.base_refusals.specs.Numbers.{max_text}
use Rattle.base_refusals.specs.declared.Refusal.{Refusal}
use Rattle.base_refusals.specs.declared.Refusal.TheVariants.{CanonTooLong}
use Rattle.set_writer.specs.Write.{has_room, wrote_of, content_after}
use Rattle.set_writer.specs.Inner.{put_if, wrote_to}

-- measured with no buffer, as with one of 65,535 bytes
pub measured : (xs : List ℕ) → wrote_to max_text (length xs) ≡ wrote_of xs max_text
unfolding wrote_to wrote_of has_room
measured xs = go (leb (length xs) max_text)
  where
    go : (x : Bool) → cond x (Ok (length xs)) (Err CanonTooLong) ≡ cond (x && x) (Ok (length xs)) (Err CanonTooLong)
    go true = refl
    go false = refl

module _ (xs buf : List ℕ) {cap : ℕ} (e : cap ≡ min (length buf) max_text) where
  room_yes : length xs ≤ cap → has_room (length buf) (length xs) ≡ true
  unfolding has_room
  room_yes h = rw (le-leb (length xs) max_text (omega arith), le-leb (length xs) (length buf) (omega arith))

  room_no : cap < length xs → has_room (length buf) (length xs) ≡ false
  unfolding has_room
  room_no h = go (leb (length xs) max_text) refl
    where
      go : (x : Bool) → leb (length xs) max_text ≡ x → (x && leb (length xs) (length buf)) ≡ false
      go true p = lt-leb (length xs) (length buf) (omega (arith, leb-true (length xs) max_text p))
      go false p = refl

  front : length xs ≤ length buf → sets buf 0 xs ≡ xs ++ drop (length xs) buf
  front h = rw (zero-add (length xs)) at (sets-eq xs buf 0 (omega arith))

  -- the text was measured, and nothing written
  module _ {r : Result ℕ Refusal} {b : List ℕ} (m : r ≡ wrote_to cap (length xs)) (f : b ≡ put_if false buf 0 xs) where
    pub same_yet : b ≡ buf
    unfolding put_if
    same_yet = f

    pub fits : {k : ℕ} → r ≡ Ok k → length xs ≤ cap
    unfolding wrote_to
    fits {k} q = go (leb (length xs) cap) refl (sym m ∙ q)
      where
        go : (x : Bool) → leb (length xs) cap ≡ x → cond x (Ok (length xs)) (Err CanonTooLong) ≡ Ok k → length xs ≤ cap
        go true p z = leb-true (length xs) cap p
        go false p z = let z : ◌≡◌ {A = ℕ} 0 1 = cc in absurd (omega arith)

    pub refused : {why : Refusal} → r ≡ Err why → (Err why ≡ wrote_of xs (length buf)) × (b ≡ content_after buf xs)
    unfolding wrote_to wrote_of content_after
    refused {why} q = go (leb (length xs) cap) refl (sym m ∙ q)
      where
        go : (x : Bool) → leb (length xs) cap ≡ x → cond x (Ok (length xs)) (Err CanonTooLong) ≡ Err why
            → (Err why ≡ cond (has_room (length buf) (length xs)) (Ok (length xs)) (Err CanonTooLong)) × (b ≡ cond (has_room (length buf) (length xs)) (xs ++ drop (length xs) buf) buf)
        go true p z = let z : ◌≡◌ {A = ℕ} 0 1 = cc in absurd (omega arith)
        go false p z = rw (room_no (leb-false (length xs) cap p)) (sym z, same_yet)

    pub written : length xs ≤ cap → {w : Result ℕ Refusal} {b' : List ℕ} → w ≡ wrote_to cap (length xs) → b' ≡ put_if true b 0 xs → (w ≡ wrote_of xs (length buf)) × (b' ≡ content_after buf xs)
    unfolding wrote_to wrote_of content_after put_if
    written h p q = rw (room_yes h) (rw (le-leb (length xs) cap h) at p, (rw same_yet at q) ∙ front (omega arith))
