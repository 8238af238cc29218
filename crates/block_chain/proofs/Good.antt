-- Whether blocks are good, place by place, as the code asks it.
-- Assumes nothing.
use Rattle.std.specs.Prelude.{None, Option, Some}
use mathlib.Core.Path.{◌≡◌, refl, sym, ◌∙◌, ap}
use mathlib.Core.Bool.{Bool, true, false, ◌&&◌}
use mathlib.Core.List.{List, [], ◌∷◌}
use Prim.Native.Nat.{ℕ, zero, suc, ◌+◌, ◌-◌, ◌<◌, ◌≤◌}
use native.Mathlib.Omega.{arith}
use lib.ListN.{length, get_or, take, drop, drop_of_length-le}
use lib.Seq.{slice}
use Rattle.base_lists.proofs.Parts.{slice_part}
use Rattle.base_bytes.specs.declared.Mode.{Mode}
use Rattle.base_bytes.specs.declared.Mode.TheVariants.{Loose}
use Rattle.base_bytes.specs.Bytes.{is_blank}
use Rattle.block_grammar.specs.Grammar.{Placed, Reading}
use Rattle.block_grammar.specs.Computed.{First, text, tail_of, token_of, also, turn, read_from, one_or_more, read_payload}
use Rattle.block_grammar.specs.ComputedClose.{find_close}
use Rattle.block_tokens.specs.Shown.{accepted}
use Rattle.block_chain.specs.Chain.{good_line}
use Rattle.block_chain.specs.Computed.{joined, blocks_from, read_blocks}
use Rattle.block_chain.specs.Inner.{blocks_ok, WentPast}
use Rattle.block_chain.proofs.Blocks as blocks

-- ---- where a payload stands changes nothing

-- whether there is an item
abbrev is_some : Reading → Bool
is_some Reading.refused = false
is_some (Reading.items []) = false
is_some (Reading.items (p ∷ is)) = true

abbrev Alike : Reading → Reading → Type 0
Alike r q = (accepted r ≡ accepted q) × (is_some r ≡ is_some q)

also_alike : (p q : Placed) (r s : Reading) → Alike r s → Alike (also p r) (also q s)
also_alike p q Reading.refused Reading.refused h = h
also_alike p q Reading.refused (Reading.items is) h = (h.0, h.0)
also_alike p q (Reading.items is) Reading.refused h = (h.0, h.0)
also_alike p q (Reading.items is) (Reading.items js) h = (refl, refl)

from_alike : (m : Mode) (s : List ℕ) (k a b : ℕ) → Alike (read_from m s k a) (read_from m s k b)
unfolding read_from
from_alike m [] k a b = (refl, refl)
from_alike m (c ∷ s) (suc k) a b = from_alike m s k (suc a) (suc b)
from_alike m (c ∷ s) zero a b = go (is_blank m c) (token_of m (c ∷ s)) (λ k. from_alike m s k (suc a) (suc b))
  where
    go : (x : Bool) (t : First) → ((k : ℕ) → Alike (read_from m s k (suc a)) (read_from m s k (suc b))) → Alike (turn x a t (λ n. read_from m s n (suc a))) (turn x b t (λ n. read_from m s n (suc b)))
    go true t ih = ih 0
    go false First.none ih = (refl, refl)
    go false (First.token i) ih = also_alike (record { at = a; item = i }) (record { at = b; item = i }) (read_from m s (tail_of (text i)) (suc a)) (read_from m s (tail_of (text i)) (suc b)) (ih (tail_of (text i)))

one_some : (r : Reading) → accepted (one_or_more r) ≡ is_some r
one_some Reading.refused = refl
one_some (Reading.items []) = refl
one_some (Reading.items (p ∷ is)) = refl

pub anywhere : (m : Mode) (s : List ℕ) (a b : ℕ) → accepted (read_payload m a s) ≡ accepted (read_payload m b s)
unfolding read_payload
anywhere m s a b = one_some (read_from m s 0 a) ∙ (from_alike m s 0 a b).1 ∙ sym (one_some (read_from m s 0 b))

-- ---- a block
both : (r q : Reading) → accepted (joined r q) ≡ accepted r && accepted q
both Reading.refused q = refl
both (Reading.items is) Reading.refused = refl
both (Reading.items is) (Reading.items js) = refl

module _ (m : Mode) (s : List ℕ) (i : ℕ) (h : i < length s) where
  pub no_brace : (get_or s i 0 ≡ 123 → ⊥) → WentPast m s i None
  no_brace n = record { told = rw (blocks.no_brace m s i h n) }

  module _ (b : get_or s i 0 ≡ 123) {p : Option ℕ} (f : p ≡ find_close s (i + 1)) where
    pub no_close : p ≡ None → WentPast m s i None
    no_close q = record { told = rw (blocks.no_close m s i h b f q) }

    module _ {e : ℕ} (q : p ≡ Some e) where
      pub within : (i < e) × (e < length s)
      within = blocks.within m s i h b f q

      -- whether the block's payload is good
      module _ {x : Bool} (g : x ≡ accepted (read_payload m 0 (take (e - (i + 1)) (drop (i + 1) s)))) where
        good : blocks_ok m s i ≡ x && blocks_ok m s (e + 1)
        good =
            let z : accepted (read_payload m (i + 1) (slice (i + 1) e s)) ≡ x = rw (slice_part (i + 1) e s) (anywhere m (take (e - (i + 1)) (drop (i + 1) s)) (i + 1) 0 ∙ sym g) in
            rw (blocks.block m s i h b f q, both (read_payload m (i + 1) (slice (i + 1) e s)) (blocks_from m (drop (e + 1) s) 0 (e + 1)), z)

        pub bad_payload : x ≡ false → WentPast m s i None
        bad_payload y = record { told = rw y at good }

        pub good_payload : x ≡ true → WentPast m s i (Some e)
        good_payload y = record { told = (within.0, within.1, rw y at good) }

-- ---- the loop stands before the block at i, and the answer is r
pub record Walks (m : Mode) (s : List ℕ) (r : Bool) (i : ℕ) : Type 0 where
  pub within : i ≤ length s
  pub rest : blocks_ok m s i ≡ r

pub start : (m : Mode) (s : List ℕ) (i : ℕ) → i ≤ length s → Walks m s (blocks_ok m s i) i
start m s i h = record { within = h; rest = refl }

module _ {m : Mode} {s : List ℕ} {r : Bool} {i : ℕ} (inv : Walks m s r i) where
  pub end : length s ≤ i → true ≡ r
  unfolding blocks_from
  end h = rw (drop_of_length-le s h) at inv.rest

  module _ {p : Option ℕ} (y : WentPast m s i p) where
    pub stop : p ≡ None → false ≡ r
    stop q = sym (rw q at y.told) ∙ inv.rest

    pub ahead : {e : ℕ} → p ≡ Some e → (i < e) × (e < length s)
    ahead {e} q = let t : (i < e) × (e < length s) × (blocks_ok m s i ≡ blocks_ok m s (e + 1)) = rw q at y.told in (t.0, t.1)

    pub go : {e : ℕ} → p ≡ Some e → Walks m s r (e + 1)
    go {e} q =
        let t : (i < e) × (e < length s) × (blocks_ok m s i ≡ blocks_ok m s (e + 1)) = rw q at y.told in
        record { within = omega (arith, t.1); rest = sym t.2 ∙ inv.rest }

-- ---- the line
module _ (t : List ℕ) (from to : ℕ) {s : List ℕ} (q : s ≡ take to t) where
  pub empty : length s ≤ from → false ≡ good_line t from to
  unfolding good_line read_blocks blocks_from
  empty h = rw (← q, drop_of_length-le s h)

  -- where a byte stands, an accepted line has an item
  pub whole : {r : Bool} → from < length s → r ≡ blocks_ok Loose s from → r ≡ good_line t from to
  unfolding good_line read_blocks
  whole h g = rw (← q) (g ∙ sym (ap accepted (blocks.some_read Loose s from h)))
