-- The pieces of a text follow the rule of a split, and no other list does.
-- Assumes nothing.
use mathlib.Core.Path.{◌≡◌, refl, sym, ◌∙◌, ap}
use mathlib.Core.Bool.{Bool, true, false, cond, not, ◌&&◌}
use mathlib.Core.List.{List, [], ◌∷◌, ◌++◌, flat_map}
use Prim.Native.Nat.{ℕ, suc}
use borrow.Author.Tests.{eqb-true, not-true}
use lib.Dec.{eqb}
use lib.ListN.{length}
use Rattle.base_lists.specs.Lists.{all, is_some}
use Rattle.base_lists.proofs.Scan.{both}
use Rattle.base_lists.proofs.More.{contra}
use Rattle.set_commas.specs.Commas.{on_head, comma_pieces}
use Rattle.set_commas.specs.Rules.{comma_joined, is_commaless, Split, commas_in}

-- one more than commas
pub pieces_count : (s : List ℕ) → length (comma_pieces s) ≡ suc (commas_in s)
unfolding comma_pieces commas_in
pieces_count [] = refl
pieces_count (b ∷ s) = go (eqb b 44) (comma_pieces s) (pieces_count s)
  where
    go : (x : Bool) (ps : List (List ℕ)) → length ps ≡ suc (commas_in s) → length (cond x ([] ∷ ps) (on_head b ps)) ≡ suc (cond x (suc (commas_in s)) (commas_in s))
    go true ps e = ap suc e
    go false [] e = e
    go false (p ∷ ps) e = e

-- the pieces are a split
pub pieces_split : (s : List ℕ) → Split s (comma_pieces s)
unfolding comma_pieces all flat_map
pieces_split [] = record { some = refl; bare = refl; back = refl }
pieces_split (b ∷ s) = go (eqb b 44) refl (comma_pieces s) (pieces_split s)
  where
    go : (x : Bool) → eqb b 44 ≡ x → (ps : List (List ℕ)) → Split s ps → Split (b ∷ s) (cond x ([] ∷ ps) (on_head b ps))
    go x e [] h = contra false h.some refl
    go true e (p ∷ ps) h = record { some = refl; bare = h.bare; back = rw (eqb-true b 44 e, h.back) }
    go false e (p ∷ ps) h = record { some = refl; bare = rw e h.bare; back = ap (λ t. b ∷ t) h.back }

-- and the only one
bare_front : (p t : List ℕ) (ps : List (List ℕ)) → is_commaless p ≡ true → comma_pieces t ≡ [] ∷ ps → comma_pieces (p ++ t) ≡ p ∷ ps
unfolding comma_pieces all
bare_front [] t ps h e = e
bare_front (b ∷ p) t ps h e =
    let g = both (not (eqb b 44)) (is_commaless p) h in
    rw (not-true (eqb b 44) g.0, bare_front p t ps g.1 e)

only : (ps : List (List ℕ)) (p : List ℕ) → all is_commaless (p ∷ ps) ≡ true → comma_pieces (p ++ flat_map (λ q. 44 ∷ q) ps) ≡ p ∷ ps
unfolding comma_pieces all flat_map
only [] p h = bare_front p [] [] (both (is_commaless p) true h).0 refl
only (q ∷ ps) p h =
    let g = both (is_commaless p) (all is_commaless (q ∷ ps)) h in
    bare_front p (44 ∷ (q ++ flat_map (λ q. 44 ∷ q) ps)) (q ∷ ps) g.0 (ap (λ r. [] ∷ r) (only ps q g.1))

pub split_only : (s : List ℕ) (ps : List (List ℕ)) → Split s ps → comma_pieces s ≡ ps
split_only s [] h = contra false h.some refl
split_only s (p ∷ ps) h = ap comma_pieces (sym h.back) ∙ only ps p h.bare
