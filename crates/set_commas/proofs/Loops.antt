-- The two loops over a value: how each goes on behind a byte, and what it has at the end.
-- Assumes nothing.
use mathlib.Core.Path.{◌≡◌, refl, sym, ◌∙◌, ap}
use mathlib.Core.Bool.{Bool, true, false, cond, ◌&&◌}
use mathlib.Core.List.{List, [], ◌∷◌}
use Prim.Native.Nat.{ℕ, suc, ◌+◌, ◌<◌, ◌≤◌, zero-le}
use native.Mathlib.Omega.{arith}
use borrow.Author.Tests.{eq-eqb, ne_eqb}
use lib.Dec.{eqb}
use lib.ListN.{length, drop}
use Rattle.set_marks.specs.Marks.{bytes_in}
use Rattle.block_grammar.specs.Meaning.{PieceAt}
use Rattle.set_commas.specs.declared.Cut.{Cut}
use Rattle.set_commas.specs.declared.Cut.TheVariants.{Last, Comma}
use Rattle.set_commas.specs.Commas.{cut_range, comma_pieces, cuts_from, first_cut, cut_at}
use Rattle.set_commas.specs.Rules.{commas_in}
use Rattle.set_commas.proofs.Steps.{Turns, Stops}
use Rattle.set_commas.proofs.Splits.{pieces_count}

-- ---- to the next comma

-- the ranges from a place on begin with the piece that was begun
pub begun : (q m : Bool) (r : PieceAt) (from at : ℕ) (s : List ℕ) → first_cut (r ∷ cuts_from q m from at s) ≡ Comma r.to from
unfolding cuts_from first_cut
begun q false r from at [] = refl
begun q true r from at [] = refl
begun q false r from at (b ∷ s) = go (eqb b 44) (q && eqb b 92) (begun q true r from at s) (begun q false r from (suc at) s)
  where
    go : (x y : Bool) → first_cut (r ∷ cuts_from q true from at s) ≡ Comma r.to from → first_cut (r ∷ cuts_from q false from (suc at) s) ≡ Comma r.to from
        → first_cut (r ∷ cond x (cut_range from at ∷ cuts_from q false (suc at) (suc at) s) (cond y (cuts_from q true from at s) (cuts_from q false from (suc at) s))) ≡ Comma r.to from
    go true y p o = refl
    go false true p o = p
    go false false p o = o
begun q true r from at (b ∷ s) = go (eqb b 44) (begun q false r from (at + 2) s)
  where
    go : (x : Bool) → first_cut (r ∷ cuts_from q false from (at + 2) s) ≡ Comma r.to from
        → first_cut (r ∷ cond x (cut_range from at ∷ cuts_from q false (at + 2) (at + 2) s) (cuts_from q false from (at + 2) s)) ≡ Comma r.to from
    go true p = refl
    go false p = p

-- the ranges from i on are those of the piece that began at `at`
pub record Seeks (q : Bool) (s : List ℕ) (at i : ℕ) : Type 0 where
  pub rest : cuts_from q false at i (drop i s) ≡ cuts_from q false at at (drop at s)

pub seeks_start : (q : Bool) (s : List ℕ) (at : ℕ) → Seeks q s at at
seeks_start q s at = record { rest = refl }

module _ {q : Bool} {s : List ℕ} {at i : ℕ} (inv : Seeks q s at i) where
  pub seeks_end : Stops q s i → Last i ≡ cut_at q s at
  unfolding cut_at first_cut
  seeks_end p = rw (p.cuts at) at (ap first_cut inv.rest)

  module _ {b next : ℕ} (p : Turns q s i b next) where
    pub seeks_comma : b ≡ 44 → Comma i next ≡ cut_at q s at
    unfolding cut_at
    seeks_comma e =
        let z : cuts_from q false at i (drop i s) ≡ cut_range at i ∷ cuts_from q false next next (drop next s) = rw (p.cuts at, eq-eqb b 44 e) in
        sym (begun q false (cut_range at i) next next (drop next s)) ∙ ap first_cut (sym z ∙ inv.rest)

    pub seeks_go : (b ≡ 44 → ⊥) → Seeks q s at next
    seeks_go e = record { rest = (rw (ne_eqb b 44 e) at (sym (p.cuts at))) ∙ inv.rest }

-- ---- counting: n pieces were begun, the commas of the others stand from i on
pub record Counts (q : Bool) (s : List ℕ) (n i : ℕ) : Type 0 where
  pub inside : i ≤ length s
  pub few : n ≤ i + 1
  pub rest : n + commas_in (bytes_in q (drop i s)) ≡ suc (commas_in (bytes_in q s))

pub counts_start : (q : Bool) (s : List ℕ) → Counts q s 1 0
counts_start q s = record { inside = zero-le; few = omega arith; rest = omega arith }

module _ {q : Bool} {s : List ℕ} {n i : ℕ} (inv : Counts q s n i) where
  pub counts_end : Stops q s i → n ≡ length (comma_pieces (bytes_in q s))
  unfolding commas_in
  counts_end p = rw (pieces_count (bytes_in q s)) (omega (arith, rw p.bytes at inv.rest))

  module _ {b next : ℕ} (p : Turns q s i b next) where
    pub counts_comma : b ≡ 44 → Counts q s (n + 1) next
    unfolding commas_in
    counts_comma e = record { inside = p.inside; few = omega (arith, p.ahead, inv.few); rest = omega (arith, rw (p.bytes, eq-eqb b 44 e) at inv.rest) }

    pub counts_go : (b ≡ 44 → ⊥) → Counts q s n next
    unfolding commas_in
    counts_go e = record { inside = p.inside; few = omega (arith, p.ahead, inv.few); rest = rw (p.bytes, ne_eqb b 44 e) at inv.rest }
