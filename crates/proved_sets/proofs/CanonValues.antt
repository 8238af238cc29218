-- Escaped values: text in double quotes by the grammar, and unescaped they are what they were. Classes stay whole.
-- Assumes nothing.
use mathlib.Core.Path.{◌≡◌, refl}
use mathlib.Core.Bool.{Bool, true, false, not, ◌||◌, cond}
use mathlib.Core.List.{List, [], ◌∷◌, ◌++◌, append-nil, append_assoc, flat_map}
use Prim.Native.Nat.{ℕ}
use lib.Dec.{eqb}
use borrow.Author.Tests.{eqb-true, eqb-false, not-true}
use Rattle.base_lists.specs.Lists.{all, is_in}
use Rattle.base_lists.proofs.Scan.{both}
use Rattle.base_bytes.specs.Bytes.{is_punct, is_space, within, is_marked}
use Rattle.text_escapes.specs.Unescape.{unescape_from, unescape}
use Rattle.block_grammar.specs.Grammar.{Inside}
use Rattle.block_grammar.specs.Meaning.{or_whole, is_class}
use Rattle.proved_grammar.specs.Meaning.{flush, pieces_from, classes_of, values_of}
use Rattle.set_canon.specs.Canon.{marked, escape, is_class_value}

pub inside_escape : (v : List ℕ) → Inside 34 (escape v)
unfolding escape flat_map marked is_marked is_in
inside_escape [] = Inside.end
inside_escape (b ∷ v) = go (eqb b 34) (eqb b 92) refl refl (inside_escape v)
  where
    go : (x y : Bool) → eqb b 34 ≡ x → eqb b 92 ≡ y → Inside 34 (escape v) → Inside 34 (cond (x || (y || false)) (92 ∷ (b ∷ [])) (b ∷ []) ++ escape v)
    go true y p q h = Inside.pair h
    go false true p q h = Inside.pair h
    go false false p q h = Inside.byte (eqb-false b 34 p) (eqb-false b 92 q) h

pub unescape-escape : (v : List ℕ) → unescape (escape v) ≡ v
unfolding escape flat_map marked is_marked is_in unescape unescape_from is_punct within
unescape-escape [] = refl
unescape-escape (b ∷ v) = go (eqb b 34) (eqb b 92) refl refl (unescape-escape v)
  where
    go : (x y : Bool) → eqb b 34 ≡ x → eqb b 92 ≡ y → unescape_from false (escape v) ≡ v → unescape_from false (cond (x || (y || false)) (92 ∷ (b ∷ [])) (b ∷ []) ++ escape v) ≡ b ∷ v
    go true y p q h = rw (eqb-true b 34 p, h)
    go false true p q h = rw (eqb-true b 92 q, h)
    go false false p q h = rw (q, h)

-- a test that a backslash passes
pub all-escape : (f : ℕ → Bool) → f 92 ≡ true → (v : List ℕ) → all f v ≡ true → all f (escape v) ≡ true
unfolding escape flat_map marked all
all-escape f w [] h = refl
all-escape f w (b ∷ v) h =
    let g = both (f b) (all f v) h in
    go (is_marked b) g.0 (all-escape f w v g.1)
  where
    go : (x : Bool) → f b ≡ true → all f (escape v) ≡ true → all f (cond x (92 ∷ (b ∷ [])) (b ∷ []) ++ escape v) ≡ true
    go true p h = rw (w, p) h
    go false p h = rw p h

-- ---- classes
solid_piece : (c s : List ℕ) → all (λ b. not (is_space b)) s ≡ true → pieces_from c s ≡ flush (c ++ s) []
unfolding pieces_from all
solid_piece c [] h = rw append-nil
solid_piece c (b ∷ s) h =
    let g = both (not (is_space b)) (all (λ b. not (is_space b)) s) h in
    rw (not-true (is_space b) g.0, solid_piece (c ++ (b ∷ [])) s g.1, append_assoc)

white_piece : (s : List ℕ) → all is_space s ≡ true → pieces_from [] s ≡ []
unfolding pieces_from all
white_piece [] h = refl
white_piece (b ∷ s) h = let g = both (is_space b) (all is_space s) h in rw (g.0, white_piece s g.1)

whole_flush : (v : List ℕ) → or_whole v (flush v []) ≡ v ∷ []
whole_flush [] = refl
whole_flush (a ∷ v) = refl

pub class_whole : (v : List ℕ) → is_class_value v ≡ true → classes_of v ≡ v ∷ []
unfolding is_class_value classes_of
class_whole v h = go (all (λ b. not (is_space b)) v) refl h
  where
    go : (x : Bool) → all (λ b. not (is_space b)) v ≡ x → (x || all is_space v) ≡ true → or_whole v (pieces_from [] v) ≡ v ∷ []
    go true p h = rw (solid_piece [] v p) (whole_flush v)
    go false p h = rw (white_piece v h)

-- a value that stands for itself under its name
pub values_whole : (n v : List ℕ) → (is_class n ≡ true → is_class_value v ≡ true) → values_of n v ≡ v ∷ []
unfolding values_of
values_whole n v h = go (is_class n) refl
  where
    go : (x : Bool) → is_class n ≡ x → cond x (classes_of v) (v ∷ []) ≡ v ∷ []
    go true p = class_whole v (h p)
    go false p = refl
