-- For callers: what an answer of a test says.
-- Assumes nothing.
use Rattle.std.specs.Prelude.{Err, Ok}
use mathlib.Core.Path.{◌≡◌, refl}
use mathlib.Core.Bool.{Bool, true, false, cond, ◌&&◌}
use mathlib.Core.List.{List, [], ◌∷◌}
use Prim.Native.Nat.{ℕ, suc, ◌≤◌}
use native.Mathlib.Omega.{arith}
use borrow.Author.Tests.{ltb-true, ltb-false}
use lib.Dec.{eqb, ltb, leb}
use lib.ListN.{length}
use Rattle.base_lists.proofs.Scan.{both}
use Rattle.base_lists.proofs.More.{contra}
use Rattle.base_bytes.specs.Bytes.{within}
use Rattle.text_names.specs.Tested.{tested, says_whole}
use Rattle.text_names.specs.Computed.{is_size, tag_from, language_by, tag_passes}
use Rattle.text_names.proofs.Tag.{nine}

pub says : (ok : Bool) (n : ℕ) → says_whole (tested ok n) ≡ ok
says true n = refl
says false n = refl

pub whole_is : (ok : Bool) (n : ℕ) → Ok tt ≡ tested ok n → ok ≡ true
whole_is true n e = refl
whole_is false n e = contra true refl (cc)

pub stops_is : (ok : Bool) (n : ℕ) {k : ℕ} → Err k ≡ tested ok n → (ok ≡ false) × (k ≡ n)
stops_is true n e = contra true refl (cc)
stops_is false n e = (refl, cc)

-- a whole tag is passed whole
whole_passes : (f : ℕ → Bool) (s : List ℕ) (k : ℕ) → k ≤ 8 → tag_from f s k ≡ true → tag_passes f s k ≡ length s
unfolding tag_from tag_passes is_size within
whole_passes f [] k h e = refl
whole_passes f (a ∷ s) k h e = go (f a) (ltb k 8) refl e (whole_passes f s (suc k)) (whole_passes f s 0 (omega arith))
  where
    go : (x y : Bool) → ltb k 8 ≡ y → cond x (tag_from f s (suc k)) (is_size k && (eqb a 45 && tag_from f s 0)) ≡ true → (suc k ≤ 8 → tag_from f s (suc k) ≡ true → tag_passes f s (suc k) ≡ length s) → (tag_from f s 0 ≡ true → tag_passes f s 0 ≡ length s)
        → cond x (cond y (suc (tag_passes f s (suc k))) 0) (cond (leb 1 k && eqb a 45) (suc (tag_passes f s 0)) 0) ≡ suc (length s)
    go true true p e more rest = rw (more (omega (arith, ltb-true k 8 p)) e)
    go true false p e more rest = contra (tag_from f s (suc k)) e (nine f s (suc k) (omega (arith, ltb-false k 8 p)))
    go false y p e more rest =
        let g = both (is_size k) (eqb a 45 && tag_from f s 0) e in
        let z = both (eqb a 45) (tag_from f s 0) g.1 in
        rw ((both (leb 1 k) (leb k 8) g.0).0, z.0, rest z.1)

pub whole_language : (f : ℕ → Bool) (s : List ℕ) → language_by f s ≡ true → tag_passes f s 0 ≡ length s
unfolding language_by tag_passes
whole_language f [] e = refl
whole_language f (a ∷ s) e = whole_passes f (a ∷ s) 0 (omega arith) e
