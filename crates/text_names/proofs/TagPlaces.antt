-- How far bytes can be continued to a tag, and to what stands behind `:`.
-- Assumes nothing.
use mathlib.Core.Path.{◌≡◌, refl}
use mathlib.Core.Bool.{Bool, true, false, cond, ◌&&◌}
use mathlib.Core.List.{List, [], ◌∷◌, ◌++◌}
use Prim.Native.Nat.{ℕ, zero, suc, ◌≤◌, zero-le}
use native.Mathlib.Omega.{arith}
use borrow.Author.Tests.{ltb-true, ltb-false, le-leb}
use lib.Dec.{eqb, ltb, leb}
use lib.ListN.{length, take}
use Rattle.base_lists.proofs.Scan.{both}
use Rattle.base_lists.proofs.More.{contra}
use Rattle.base_bytes.specs.Bytes.{is_letter, is_digit, is_alnum, within}
use Rattle.text_names.specs.Longest.{CanGoOn, Longest}
use Rattle.text_names.specs.Grammar.{Tag, Language}
use Rattle.text_names.specs.Computed.{is_size, tag_from, is_tag, tag_passes, tag_place}
use Rattle.text_names.proofs.Tag.{nine, pass_le}
use Rattle.text_names.proofs.Grammar.{sound, complete}

-- the rest of a tag, where k bytes of its present subtag are read
Rest : ℕ → List ℕ → Type 0
Rest k t = tag_from is_alnum t k ≡ true

-- a subtag can always be ended
ended : (k : ℕ) → k ≤ 8 → CanGoOn (Rest k) []
unfolding Rest tag_from is_size is_alnum is_letter is_digit within
ended zero h = record { rest = 97 ∷ []; good = refl }
ended (suc k) h = record { rest = []; good = rw (le-leb 1 (suc k) (omega arith), le-leb (suc k) 8 h) }

at_least_one : (k : ℕ) → is_size k ≡ true → leb 1 k ≡ true
unfolding is_size within
at_least_one k e = (both (leb 1 k) (leb k 8) e).0

goes : (s : List ℕ) (k : ℕ) → k ≤ 8 → CanGoOn (Rest k) (take (tag_passes is_alnum s k) s)
unfolding Rest tag_passes tag_from is_size within
goes [] k h = ended k h
goes (a ∷ s) k h = go (is_alnum a) refl (ltb k 8) refl (leb 1 k && eqb a 45) refl (λ l. goes s (suc k) l) (goes s 0 (omega arith))
  where
    go : (x : Bool) → is_alnum a ≡ x → (y : Bool) → ltb k 8 ≡ y → (z : Bool) → (leb 1 k && eqb a 45) ≡ z → (suc k ≤ 8 → CanGoOn (Rest (suc k)) (take (tag_passes is_alnum s (suc k)) s)) → CanGoOn (Rest 0) (take (tag_passes is_alnum s 0) s)
        → CanGoOn (Rest k) (take (cond x (cond y (suc (tag_passes is_alnum s (suc k))) 0) (cond z (suc (tag_passes is_alnum s 0)) 0)) (a ∷ s))
    go true e true p z q more rest = let c = more (omega (arith, ltb-true k 8 p)) in record { rest = c.rest; good = rw e c.good }
    go true e false p z q more rest = ended k h
    go false e y p true q more rest = let w = both (leb 1 k) (eqb a 45) q in record { rest = rest.rest; good = rw (e, w.0, le-leb k 8 h, w.1) rest.good }
    go false e y p false q more rest = ended k h

no_further : (s : List ℕ) (k n : ℕ) → n ≤ length s → CanGoOn (Rest k) (take n s) → n ≤ tag_passes is_alnum s k
unfolding Rest tag_passes tag_from
no_further s k zero h c = zero-le
no_further [] k (suc n) h c = absurd (omega arith)
no_further (a ∷ s) k (suc n) h c = go (is_alnum a) (ltb k 8) refl c.good (λ g. no_further s (suc k) n (omega arith) (record { rest = c.rest; good = g })) (λ g. no_further s 0 n (omega arith) (record { rest = c.rest; good = g }))
  where
    go : (x y : Bool) → ltb k 8 ≡ y → cond x (tag_from is_alnum (take n s ++ c.rest) (suc k)) (is_size k && (eqb a 45 && tag_from is_alnum (take n s ++ c.rest) 0)) ≡ true
        → (tag_from is_alnum (take n s ++ c.rest) (suc k) ≡ true → n ≤ tag_passes is_alnum s (suc k)) → (tag_from is_alnum (take n s ++ c.rest) 0 ≡ true → n ≤ tag_passes is_alnum s 0)
        → suc n ≤ cond x (cond y (suc (tag_passes is_alnum s (suc k))) 0) (cond (leb 1 k && eqb a 45) (suc (tag_passes is_alnum s 0)) 0)
    go true true p g more rest = omega (arith, more g)
    go true false p g more rest = contra (tag_from is_alnum (take n s ++ c.rest) (suc k)) g (nine is_alnum (take n s ++ c.rest) (suc k) (omega (arith, ltb-false k 8 p)))
    go false y p g more rest =
        let w = both (is_size k) (eqb a 45 && tag_from is_alnum (take n s ++ c.rest) 0) g in
        let v = both (eqb a 45) (tag_from is_alnum (take n s ++ c.rest) 0) w.1 in
        rw (at_least_one k w.0, v.0) (omega (arith, rest v.1))

-- what goes on to a tag, and what to a language: an empty front goes on to both
tag_on : {p : List ℕ} → CanGoOn (Rest 0) p → CanGoOn Tag p
unfolding Rest is_tag
tag_on {p} c = record { rest = c.rest; good = sound (p ++ c.rest) c.good }

on_tag : {p : List ℕ} → CanGoOn Tag p → CanGoOn (Rest 0) p
unfolding Rest is_tag
on_tag c = record { rest = c.rest; good = complete c.good }

on_language : (p : List ℕ) → CanGoOn Language p → CanGoOn (Rest 0) p
on_language p c = go (p ++ c.rest) refl c.good
  where
    front : (p r : List ℕ) → p ++ r ≡ [] → p ≡ []
    front [] r e = refl
    front (a ∷ p) r e = contra true refl (cc)

    go : (t : List ℕ) → p ++ c.rest ≡ t → Language t → CanGoOn (Rest 0) p
    go t e (Language.tag h) = on_tag (record { rest = c.rest; good = rw e h })
    go t e Language.nothing = rw (front p c.rest e) (ended 0 (omega arith))

pub tag_longest : (s : List ℕ) → Longest Tag s (tag_place s)
unfolding tag_place
tag_longest s = record { within = pass_le is_alnum s 0; goes = tag_on (goes s 0 (omega arith)); longest = λ k h g. no_further s 0 k h (on_tag g) }

pub language_longest : (s : List ℕ) → Longest Language s (tag_place s)
unfolding tag_place
language_longest s =
    let c = tag_on (goes s 0 (omega arith)) in
    record { within = pass_le is_alnum s 0; goes = record { rest = c.rest; good = Language.tag c.good }; longest = λ k h g. no_further s 0 k h (on_language (take k s) g) }
