-- What the two lists add to the grammar: the regular tags nothing, each irregular tag itself.
-- Assumes nothing.
use mathlib.Core.Path.{◌≡◌, refl, sym, ◌∙◌}
use mathlib.Core.Bool.{true, false, not}
use mathlib.Core.List.{List, ◌∷◌}
use Prim.Native.Nat.{ℕ}
use borrow.Author.Tests.{not-true}
use Rattle.base_lists.specs.Lists.{all, first_is}
use Rattle.base_lists.proofs.More.{contra}
use Rattle.base_bytes.specs.Bytes.{within}
use Rattle.text_langtags.specs.Letters.{small, smalls, is_x, is_listed, irregulars, regulars}
use Rattle.text_langtags.specs.Grammar.{Privateuse, Langtag}
use Rattle.text_langtags.specs.Computed.{is_unlisted}
use Rattle.text_langtags.proofs.Tables.{irregular_not}
use Rattle.text_langtags.proofs.Cases.{first_cased, x_cased, read_cased, listed-all}
use Rattle.text_langtags.proofs.Sound.{Read, read_sound}
use Rattle.text_langtags.proofs.Complete.{langtag_complete, private_complete, regular_complete}

-- private use begins with x
begins_x : {s : List ℕ} → Privateuse s → first_is is_x s ≡ true
begins_x (Privateuse.privateuse e m) = e

no_regular_x : all (λ t. not (first_is is_x t)) regulars ≡ true
unfolding all regulars is_x small within
no_regular_x = refl

-- each of the nine regular tags is a langtag, in any letter case
pub regular_langtag : (s : List ℕ) → is_listed regulars (smalls s) ≡ true → Langtag s
regular_langtag s e = go (read_sound s (regular_complete s e))
  where
    go : Read (45 ∷ s) → Langtag s
    go (Read.langtag h) = h
    go (Read.private h) =
        contra (first_is is_x s) (begins_x h)
        (sym (first_cased is_x x_cased s) ∙ not-true (first_is is_x (smalls s)) (listed-all (λ t. not (first_is is_x t)) regulars (smalls s) no_regular_x e))

irregular_unread : (s : List ℕ) → is_listed irregulars (smalls s) ≡ true → is_unlisted s ≡ false
irregular_unread s e = sym (read_cased s) ∙ not-true (is_unlisted (smalls s)) (listed-all (λ t. not (is_unlisted t)) irregulars (smalls s) irregular_not e)

-- none of the 17 irregular tags is a langtag or private use, in any letter case
pub irregular_no_langtag : (s : List ℕ) → is_listed irregulars (smalls s) ≡ true → Langtag s → ⊥
irregular_no_langtag s e h = contra (is_unlisted s) (langtag_complete h) (irregular_unread s e)

pub irregular_no_private : (s : List ℕ) → is_listed irregulars (smalls s) ≡ true → Privateuse s → ⊥
irregular_no_private s e h = contra (is_unlisted s) (private_complete h) (irregular_unread s e)
