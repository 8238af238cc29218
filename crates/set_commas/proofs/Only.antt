-- The raw ranges follow the rule of a cutting, and no others do.
-- Assumes nothing.
use mathlib.Core.Path.{◌≡◌, refl, sym, ◌∙◌, ap}
use mathlib.Core.Bool.{Bool, true, false, cond, not, ◌&&◌}
use mathlib.Core.List.{List, [], ◌∷◌, ◌++◌}
use Prim.Native.Nat.{ℕ, suc, ◌+◌, ◌-◌, ◌<◌}
use native.Mathlib.Numerals.{add-one}
use native.Mathlib.Omega.{arith}
use borrow.Author.Tests.{eqb-true, not-true}
use lib.Dec.{eqb}
use lib.ListN.{length, get_or, drop, drop_of_length-le}
use lib.Seq.{slice, slice_empty, drop-cons}
use Rattle.base_lists.specs.Lists.{all}
use Rattle.base_lists.proofs.Parts.{part_end, seam}
use Rattle.base_lists.proofs.Scan.{both, all_append}
use Rattle.base_lists.proofs.More.{contra}
use Rattle.block_grammar.specs.Meaning.{PieceAt}
use Rattle.set_commas.specs.Commas.{cut_range, cuts_from, cuts_of}
use Rattle.set_commas.specs.Rules.{is_commaless, ends_open, PieceIn, ShutIn, Parted}
use Rattle.set_commas.proofs.Pieces.{Spot, spot_next, spot_new, spot_byte, spot_more, ahead, whole}

open_append : (q m : Bool) (s t : List ℕ) → ends_open q m (s ++ t) ≡ ends_open q (ends_open q m s) t
unfolding ends_open
open_append q m [] t = refl
open_append q false (b ∷ s) t = open_append q (q && eqb b 92) s t
open_append q true (b ∷ s) t = open_append q false s t

-- ---- the ranges follow the rule

-- one byte more of a piece without a comma
module _ {w : List ℕ} {from at b : ℕ} {s : List ℕ} (h : Spot w from at (b ∷ s)) (e : eqb b 44 ≡ false) where
  bare_more : is_commaless (slice from at w) ≡ true → is_commaless (slice from (suc at) w) ≡ true
  unfolding all
  bare_more g = rw (spot_more h) (all_append (λ c. not (eqb c 44)) (slice from at w) (b ∷ []) g (rw e))

-- the piece that was begun, up to `at`
record Begun (q : Bool) (w : List ℕ) (from at : ℕ) : Type 0 where
  bare : is_commaless (slice from at w) ≡ true
  shut : ends_open q false (slice from at w) ≡ false

begun_new : (q : Bool) (w : List ℕ) (at : ℕ) → Begun q w at at
unfolding all ends_open
begun_new q w at = record { bare = rw (slice_empty at w); shut = rw (slice_empty at w) }

begun_byte : {q : Bool} {w : List ℕ} {from at b : ℕ} {s : List ℕ} → Spot w from at (b ∷ s) → eqb b 44 ≡ false → (q && eqb b 92) ≡ false → Begun q w from at → Begun q w from (suc at)
unfolding ends_open
begun_byte {q} {w} {from} {at} {b} h e f g = record { bare = bare_more h e g.bare; shut = rw (spot_more h, open_append q false (slice from at w) (b ∷ []), g.shut) f }

begun_pair : {q : Bool} {w : List ℕ} {from at b : ℕ} {s : List ℕ} → q ≡ true → Spot w from at (92 ∷ b ∷ s) → eqb b 44 ≡ false → Begun q w from at → Begun q w from (suc (suc at))
unfolding ends_open
begun_pair {q} {w} {from} {at} {b} y h e g =
    record {
      bare = bare_more (spot_next h) e (bare_more h refl g.bare);
      shut = rw (spot_more (spot_next h), spot_more h, open_append q false (slice from at w ++ (92 ∷ [])) (b ∷ []), open_append q false (slice from at w) (92 ∷ []), g.shut, y);
    }

module _ {q : Bool} {w : List ℕ} {from at : ℕ} {s : List ℕ} (h : Spot w from at s) (g : Begun q w from at) where
  shut_in : ShutIn q w from at
  shut_in = record { piece = record { ordered = h.before; inside = omega (arith, h.long); bare = g.bare }; shut = g.shut }

order : (q m : Bool) (w : List ℕ) (from at : ℕ) (s : List ℕ) → (m ≡ true → q ≡ true) → Spot w from at (ahead m s) → Begun q w from at → Parted q w from (cuts_from q m from at s)
unfolding cuts_from
order q false w from at [] y h g = let n : at ≡ length w = omega (arith, h.long) in rw n (Parted.last (rw n at (shut_in h g).piece))
order q true w from at [] y h g =
    let n : suc at ≡ length w = omega (arith, h.long) in
    let p : PieceIn w from (suc at) = record { ordered = omega (arith, h.before); inside = omega (arith, n); bare = bare_more h refl g.bare } in
    rw n (Parted.last (rw n at p))
order q false w from at (b ∷ s) y h g =
    go (eqb b 44) (q && eqb b 92) refl refl (order q false w (suc at) (suc at) s (λ z. contra false z refl) (spot_new h) (begun_new q w (suc at)))
    (λ f. let z = both q (eqb b 92) f in order q true w from at s (λ x. z.0) (rw (eqb-true b 92 z.1) at h) g)
    (λ e f. order q false w from (suc at) s (λ z. contra false z refl) (spot_next h) (begun_byte h e f g))
  where
    go : (x z : Bool) → eqb b 44 ≡ x → (q && eqb b 92) ≡ z → Parted q w (suc at) (cuts_from q false (suc at) (suc at) s)
        → ((q && eqb b 92) ≡ true → Parted q w from (cuts_from q true from at s))
        → (eqb b 44 ≡ false → (q && eqb b 92) ≡ false → Parted q w from (cuts_from q false from (suc at) s))
        → Parted q w from (cond x (cut_range from at ∷ cuts_from q false (suc at) (suc at) s) (cond z (cuts_from q true from at s) (cuts_from q false from (suc at) s)))
    go true z e f p i o =
        let n : Parted q w (at + 1) (cuts_from q false (suc at) (suc at) s) = rw (add-one at) p in
        Parted.comma (shut_in h g) (omega (arith, h.long)) (spot_byte h ∙ eqb-true b 44 e) n
    go false true e f p i o = i f
    go false false e f p i o = o e f
order q true w from at (b ∷ s) y h g =
    let n : suc (suc at) ≡ at + 2 = omega arith in
    go (eqb b 44) refl (order q false w (at + 2) (at + 2) s (λ z. contra false z refl) (rw n at (spot_new (spot_next h))) (begun_new q w (at + 2)))
    (λ e. order q false w from (at + 2) s (λ z. contra false z refl) (rw n at (spot_next (spot_next h))) (rw n at (begun_pair (y refl) h e g)))
  where
    go : (x : Bool) → eqb b 44 ≡ x → Parted q w (at + 2) (cuts_from q false (at + 2) (at + 2) s) → (eqb b 44 ≡ false → Parted q w from (cuts_from q false from (at + 2) s))
        → Parted q w from (cond x (cut_range from at ∷ cuts_from q false (at + 2) (at + 2) s) (cuts_from q false from (at + 2) s))
    go true e p o = Parted.escaped (y refl) (shut_in h g) (omega (arith, h.long)) (spot_byte h) (rw (add-one at) (spot_byte (spot_next h)) ∙ eqb-true b 44 e) p
    go false e p o = o e

-- the ranges ascend from the value's front to its end, and between two of them stands a comma with at most one backslash before it
pub cuts_order : (q : Bool) (s : List ℕ) → Parted q s 0 (cuts_of q s)
unfolding cuts_of
cuts_order q s = order q false s 0 0 s (λ z. contra false z refl) (whole s) (begun_new q s 0)

-- ---- nothing else does

-- over a text without a comma no range ends
through : (q m : Bool) (p t : List ℕ) (from at at' : ℕ) → is_commaless p ≡ true → at + length (ahead m p) ≡ at' + length (ahead (ends_open q m p) []) → cuts_from q m from at (p ++ t) ≡ cuts_from q (ends_open q m p) from at' t
unfolding cuts_from ends_open all
through q m [] t from at at' h k = let n : at ≡ at' = omega (arith, k) in rw n
through q false (b ∷ p) t from at at' h k =
    let g = both (not (eqb b 44)) (is_commaless p) h in
    rw (not-true (eqb b 44) g.0) (go (q && eqb b 92) k (through q true p t from at at' g.1) (through q false p t from (suc at) at' g.1))
  where
    go : (y : Bool) → at + suc (length p) ≡ at' + length (ahead (ends_open q y p) [])
        → (at + suc (length p) ≡ at' + length (ahead (ends_open q true p) []) → cuts_from q true from at (p ++ t) ≡ cuts_from q (ends_open q true p) from at' t)
        → (suc at + length p ≡ at' + length (ahead (ends_open q false p) []) → cuts_from q false from (suc at) (p ++ t) ≡ cuts_from q (ends_open q false p) from at' t)
        → cond y (cuts_from q true from at (p ++ t)) (cuts_from q false from (suc at) (p ++ t)) ≡ cuts_from q (ends_open q y p) from at' t
    go true k i o = i k
    go false k i o = o (omega (arith, k))
through q true (b ∷ p) t from at at' h k =
    let g = both (not (eqb b 44)) (is_commaless p) h in
    rw (not-true (eqb b 44) g.0) (through q false p t from (at + 2) at' g.1 (omega (arith, k)))

open_some : (q : Bool) (p : List ℕ) → ends_open q false p ≡ true → 0 < length p
unfolding ends_open
open_some q [] e = contra false e refl
open_some q (b ∷ p) e = omega arith

module _ (q : Bool) (s : List ℕ) where
  -- behind a piece that leaves no backslash open
  behind : {from to : ℕ} → ShutIn q s from to → cuts_from q false from from (drop from s) ≡ cuts_from q false from to (drop to s)
  behind {from} {to} h =
      let n : from + length (slice from to s) ≡ to + length (ahead (ends_open q false (slice from to s)) []) = rw h.shut (omega (arith, part_end s from to h.piece.ordered h.piece.inside)) in
      rw (seam s from to h.piece.ordered) (through q false (slice from to s) (drop to s) from from to h.piece.bare n ∙ rw h.shut)

  at_last : {from : ℕ} → PieceIn s from (length s) → cuts_from q false from from (drop from s) ≡ cut_range from (length s) ∷ []
  unfolding cuts_from
  at_last {from} h = rw (seam s from (length s) h.ordered) (go (ends_open q false p) refl)
    where
      p : List ℕ
      p = slice from (length s) s

      go : (m : Bool) → ends_open q false p ≡ m → cuts_from q false from from (p ++ drop (length s) s) ≡ cut_range from (length s) ∷ []
      go false e =
          through q false p (drop (length s) s) from from (length s) h.bare (rw e (omega (arith, part_end s from (length s) h.ordered h.inside)))
          ∙ rw (e, drop_of_length-le s {i = length s} (omega arith))
      go true e =
          let k = part_end s from (length s) h.ordered h.inside in
          let n : suc (length s - 1) ≡ length s = omega (arith, k, open_some q p e) in
          through q false p (drop (length s) s) from from (length s - 1) h.bare (rw e (omega (arith, k, n)))
          ∙ rw (e, drop_of_length-le s {i = length s} (omega arith), n)

  step : {b : ℕ} (i : ℕ) → i < length s → get_or s i 0 ≡ b → drop i s ≡ b ∷ drop (i + 1) s
  step {b} i l e = drop-cons s i 0 l ∙ ap (λ x. x ∷ drop (suc i) s) e ∙ ap (λ k. b ∷ drop k s) (sym (add-one i))

  only : {from : ℕ} {rs : List PieceAt} → Parted q s from rs → cuts_from q false from from (drop from s) ≡ rs
  unfolding cuts_from
  only (Parted.last h) = at_last h
  only (Parted.comma {from} {to} {rs} h l e p) = behind h ∙ rw (step to l e, ← add-one to) (ap (λ z. cut_range from to ∷ z) (only p))
  only (Parted.escaped {from} {to} {rs} y h l d e p) =
      let a = step to (omega (arith, l)) d in
      let b = step (to + 1) l e in
      let n : to + 1 + 1 ≡ to + 2 = omega arith in
      behind h ∙ rw (a, y, b, n) (ap (λ z. cut_range from to ∷ z) (only p))

pub cuts_only : (q : Bool) (s : List ℕ) (rs : List PieceAt) → Parted q s 0 rs → cuts_of q s ≡ rs
unfolding cuts_of
cuts_only q s rs h = only q s h
