-- The rules go by bytes, document 01 by characters. Where a backslash takes a byte with it, the rest of that byte's character stands for itself,
-- so it takes "the next character with it".
-- Assumes nothing.
use mathlib.Core.Path.{◌≡◌, refl}
use mathlib.Core.Bool.{Bool, true, false}
use mathlib.Core.List.{List, [], ◌∷◌, ◌++◌}
use Prim.Native.Nat.{ℕ}
use lib.Dec.{eqb}
use borrow.Author.Tests.{eqb-true, eqb-false}
use Rattle.base_lists.specs.Lists.{all, is_in}
use Rattle.base_lists.proofs.Scan.{both}
use Rattle.base_lists.proofs.More.{contra, apart, not_in}
use Rattle.base_bytes.specs.Bytes.{is_tail, is_quote, within}
use Rattle.block_grammar.specs.Grammar.{Inside}
use Rattle.proved_grammar.specs.Characters.{TakesCharacter, TookCharacter}

-- a byte that goes on a character is no backslash and no quote
tail_apart : (c q : ℕ) → is_tail c ≡ true → is_quote q ≡ true → (eqb c 92 ≡ false) × (eqb c q ≡ false)
unfolding is_tail within is_quote all
tail_apart c q h k = (apart is_tail c 92 h refl, go (eqb c q) refl)
  where
    go : (x : Bool) → eqb c q ≡ x → x ≡ false
    go true e = contra (is_in (34 ∷ 39 ∷ []) q) k (rw (← eqb-true c q e) (not_in is_tail (34 ∷ 39 ∷ []) c refl h))
    go false e = refl

module _ {q : ℕ} (k : is_quote q ≡ true) where
  longer : {s : List ℕ} (tail : List ℕ) → all is_tail tail ≡ true → Inside q s → Inside q (tail ++ s)
  unfolding all
  longer [] h i = i
  longer (c ∷ tail) h i =
      let g = both (is_tail c) (all is_tail tail) h in
      let a = tail_apart c q g.0 k in
      Inside.byte (eqb-false c q a.1) (eqb-false c 92 a.0) (longer tail g.1 i)

  -- one byte less in front
  less : {u : List ℕ} → Inside q u → (c : ℕ) (t : List ℕ) → u ≡ c ∷ t → eqb c 92 ≡ false → Inside q t
  less Inside.end c t e h = contra true refl (cc)
  less (Inside.byte {s = s} p r i) c t e h = let z : s ≡ t = cc in rw (← z) i
  less (Inside.pair i) c t e h = let z : c ≡ 92 = cc in contra (eqb 92 92) refl (rw z at h)

  shorter : {s : List ℕ} (tail : List ℕ) → all is_tail tail ≡ true → Inside q (tail ++ s) → Inside q s
  unfolding all
  shorter [] h i = i
  shorter {s} (c ∷ tail) h i =
      let g = both (is_tail c) (all is_tail tail) h in
      shorter tail g.1 (less i c (tail ++ s) refl (tail_apart c q g.0 k).0)

  pair_less : {u : List ℕ} → Inside q u → (b : ℕ) (t : List ℕ) → u ≡ 92 ∷ (b ∷ t) → Inside q t
  pair_less Inside.end b t e = contra true refl (cc)
  pair_less (Inside.byte {b = c} p r i) b t e = let z : c ≡ 92 = cc in absurd (r z)
  pair_less (Inside.pair {s = s} i) b t e = let z : s ≡ t = cc in rw (← z) i

-- the character b ∷ tail behind a backslash
pub takes_character : {q : ℕ} {s : List ℕ} → TakesCharacter q s
takes_character k b tail h i = Inside.pair (longer k tail h i)

pub took_character : {q : ℕ} {s : List ℕ} → TookCharacter q s
took_character {q} {s} k b tail h i = shorter k tail h (pair_less k i b (tail ++ s) refl)
