-- The count of characters is that of the grammar: each is counted at its first byte, and none at its tails.
-- Assumes nothing.
use mathlib.Core.Path.{◌≡◌, refl, ap, ◌∙◌}
use mathlib.Core.Bool.{true}
use mathlib.Core.List.{List, [], ◌∷◌, ◌++◌}
use Prim.Native.Nat.{ℕ, suc}
use native.Mathlib.Omega.{arith}
use borrow.Author.Tests.{not-true}
use Rattle.base_lists.specs.Lists.{all, headed}
use Rattle.base_lists.proofs.Scan.{both}
use Rattle.base_bytes.specs.Bytes.{is_tail}
use Rattle.proved_texts.specs.Utf8Rules.{none, more}
use Rattle.text_utf8.specs.Utf8.{char_count}
use Rattle.proved_texts.specs.Utf8.{CountsCharacters}
use Rattle.proved_texts.proofs.Utf8Shape.{starts, shape}

tails : (k s : List ℕ) → all is_tail k ≡ true → char_count (k ++ s) ≡ char_count s
unfolding char_count all
tails [] s e = refl
tails (b ∷ k) s e = let h = both (is_tail b) (all is_tail k) e in rw h.0 (tails k s h.1)

one_more : (k s : List ℕ) → headed starts is_tail k ≡ true → char_count (k ++ s) ≡ suc (char_count s)
unfolding char_count headed
one_more [] s e = let z : ◌≡◌ {A = ℕ} 0 1 = cc in absurd (omega arith)
one_more (a ∷ k) s e =
    let h = both (starts a) (all is_tail k) e in
    rw (not-true (is_tail a) h.0) (ap suc (tails k s h.1))

pub count : {ks : List (List ℕ)} {s : List ℕ} → CountsCharacters ks s
unfolding char_count
count none = refl
count (more {k} {s} c o) = one_more k s (shape c) ∙ ap suc (count o)
