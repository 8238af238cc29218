-- The computing definition and the rules of CommonMark 2.4 say the same: a raw text stands for its unescaping, and for nothing else. And so byte by byte.
-- Assumes nothing.
use mathlib.Core.Path.{◌≡◌, refl, ◌∙◌, ap}
use mathlib.Core.Bool.{Bool, true, false, cond}
use mathlib.Core.List.{List, [], ◌∷◌}
use Prim.Native.Nat.{ℕ}
use borrow.Author.Tests.{eqb-true, eqb-false, ne_eqb}
use lib.Dec.{eqb}
use Rattle.base_bytes.specs.Bytes.{is_punct}
use Rattle.text_escapes.specs.Unescape.{unescape, unescape_from}
use Rattle.proved_texts.specs.EscapeRules.{Other, StandsFor}
use Rattle.text_escapes.proofs.Pieces.{punct_not, byte_at, end_at}
use Rattle.proved_texts.specs.Escapes.{StandsForUnescaped, StandsForNoOther, PieceIsNext, PieceIsLast}

-- with a backslash just before that is open, or not
from : (m : Bool) (s : List ℕ) → StandsFor (cond m (92 ∷ s) s) (unescape_from m s)
unfolding unescape_from
from false [] = StandsFor.end
from true [] = StandsFor.other Other.end StandsFor.end
from false (b ∷ s) = go (eqb b 92) refl (from true s) (from false s)
  where
    go : (x : Bool) → eqb b 92 ≡ x → StandsFor (92 ∷ s) (unescape_from true s) → StandsFor s (unescape_from false s) → StandsFor (b ∷ s) (cond x (unescape_from true s) (b ∷ unescape_from false s))
    go true e p q = rw (eqb-true b 92 e) p
    go false e p q = StandsFor.byte (eqb-false b 92 e) q
from true (b ∷ s) = go (is_punct b) refl (from false s)
  where
    go : (x : Bool) → is_punct b ≡ x → StandsFor s (unescape_from false s) → StandsFor (92 ∷ (b ∷ s)) (cond x (b ∷ unescape_from false s) (92 ∷ (b ∷ unescape_from false s)))
    go true e q = StandsFor.escaped e q
    go false e q = StandsFor.other (Other.byte e) (StandsFor.byte (eqb-false b 92 (punct_not b e)) q)

pub stands : StandsForUnescaped
unfolding unescape
stands s = from false s

literal : {s : List ℕ} → Other s → unescape_from true s ≡ 92 ∷ unescape s
unfolding unescape unescape_from
literal Other.end = refl
literal {s = b ∷ s} (Other.byte p) = rw (p, punct_not b p)

pub only : {s t : List ℕ} → StandsForNoOther s t
unfolding unescape unescape_from
only StandsFor.end = refl
only (StandsFor.escaped {b} p r) = rw p (ap (λ u. b ∷ u) (only r))
only (StandsFor.other o r) = literal o ∙ ap (λ u. 92 ∷ u) (only r)
only (StandsFor.byte {b} n r) = rw (ne_eqb b 92 n) (ap (λ u. b ∷ u) (only r))

-- a byte at a time
pub piece_next : PieceIsNext
piece_next s i b next e = (byte_at {s = s} {i = i} refl e).rest

pub piece_last : PieceIsLast
piece_last s i e = (end_at {s = s} {i = i} refl e).rest
