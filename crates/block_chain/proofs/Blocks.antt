-- `read_blocks` reads what the rules' `Blocks` derive, and nothing else; so there is at most one reading. And how the reader goes on at a place of a text.
-- Assumes nothing.
use Rattle.std.specs.Prelude.{None, Option, Some}
use mathlib.Core.Path.{◌≡◌, refl, ap, sym, ◌∙◌}
use mathlib.Core.Bool.{Bool, true, false, cond}
use mathlib.Core.List.{List, [], ◌∷◌, ◌++◌, append_assoc, append-nil}
use Prim.Native.Nat.{ℕ, zero, suc, ◌+◌, ◌-◌, ◌<◌}
use native.Mathlib.Nat.{add-zero, add-suc, suc-add}
use native.Mathlib.Numerals.{add-one}
use native.Mathlib.Omega.{arith}
use borrow.Author.Tests.{eqb-true, ne_eqb}
use lib.Dec.{eqb}
use lib.ListN.{length, get_or, take, drop, length-append, length-drop}
use lib.Seq.{drop-nil, drop-cons, drop-drop, take_at, slice}
use Rattle.base_lists.proofs.More.{contra}
use Rattle.base_lists.proofs.Parts.{slice_part, drop-behind}
use Rattle.base_bytes.specs.declared.Mode.{Mode}
use Rattle.block_grammar.specs.Grammar.{Placed, Payload, Reading}
use Rattle.block_grammar.specs.Computed.{read_from, one_or_more, read_payload}
use Rattle.block_grammar.specs.Close.{Closes, fresh}
use Rattle.block_grammar.specs.ComputedClose.{close_from, find_close}
use Rattle.block_grammar.proofs.Close.{close_found, found}
use Rattle.block_grammar.proofs.Payload as payload
use Rattle.block_chain.specs.Chain.{OneBlock, Blocks}
use Rattle.block_chain.specs.Computed.{joined, block_to, blocks_from, read_blocks}

-- ---- what a block took is skipped
skipped : (m : Mode) (s : List ℕ) (k at : ℕ) → blocks_from m s k at ≡ blocks_from m (drop k s) 0 (at + k)
unfolding blocks_from
skipped m [] k at = rw (drop-nil k)
skipped m (b ∷ s) zero at = rw add-zero
skipped m (b ∷ s) (suc k) at = rw (add-suc, ← suc-add at k) (skipped m s k (suc at))

-- ---- a brace and its close
pub block_at : (m : Mode) (s : List ℕ) (at : ℕ) {e : ℕ} → close_from s fresh (suc at) ≡ Some e → blocks_from m (123 ∷ s) 0 at ≡ joined (read_payload m (suc at) (take (e - suc at) s)) (blocks_from m (drop (suc (e - suc at)) s) 0 (suc e))
unfolding blocks_from
block_at m s at {e} h =
    let z : suc at + suc (e - suc at) ≡ suc e = omega (arith, (close_found s (suc at) e h).place) in
    rw (h, skipped m s (suc (e - suc at)) (suc at), z)

-- a block has an item
kept : (r : Reading) (is js : List Placed) → one_or_more r ≡ Reading.items is → one_or_more (Reading.items (is ++ js)) ≡ Reading.items (is ++ js)
kept Reading.refused is js e = contra true refl (cc)
kept (Reading.items []) is js e = contra true refl (cc)
kept (Reading.items (p ∷ ks)) [] js e = contra true refl (cc)
kept (Reading.items (p ∷ ks)) (q ∷ is) js e = refl

pub block_some : {m : Mode} {at : ℕ} {b : List ℕ} {is : List Placed} → OneBlock m at b is → (js : List Placed) → one_or_more (Reading.items (is ++ js)) ≡ Reading.items (is ++ js)
unfolding read_payload
block_some {m} {at} {is = is} (OneBlock.block {inside = a} c f p) js = kept (read_from m a 0 (suc at)) is js (payload.complete p)

-- ======== nothing else is read

-- none or more blocks
data Row (m : Mode) : ℕ → List ℕ → List Placed → Type 0 where
  none : {at : ℕ} → Row m at [] []
  and : {at : ℕ} {b s : List ℕ} {is js : List Placed} → OneBlock m at b is → Row m (at + length b) s js → Row m at (b ++ s) (is ++ js)

joined_of : (r q : Reading) (is : List Placed) → joined r q ≡ Reading.items is → (hs : List Placed) × (js : List Placed) × (r ≡ Reading.items hs) × (q ≡ Reading.items js) × (is ≡ hs ++ js)
joined_of Reading.refused q is e = contra true refl (cc)
joined_of (Reading.items hs) Reading.refused is e = contra true refl (cc)
joined_of (Reading.items hs) (Reading.items js) is e = (hs, js, refl, refl, cc)

-- a block, where the induction hypothesis knows the rest
block_row : (m : Mode) (s : List ℕ) (at e : ℕ) (hs js : List Placed) → Closes s (suc at) e → read_payload m (suc at) (take (e - suc at) s) ≡ Reading.items hs → Row m (suc at + suc (e - suc at)) (drop (suc (e - suc at)) s) js → Row m at (123 ∷ s) (hs ++ js)
block_row m s at e hs js c p r =
    let a = c.inside in
    let n : e - suc at ≡ length a = omega (arith, c.place) in
    let l : suc at + suc (length a) ≡ at + suc (length (a ++ (125 ∷ []))) = omega (arith, length-append a (125 ∷ [])) in
    let q : Payload m (suc at) a hs = payload.sound m (suc at) a hs (rw (n, c.whole, take_at a (125 ∷ c.rest) (length a) refl) at p) in
    let t : Row m (at + suc (length (a ++ (125 ∷ [])))) c.rest js = rw (n, c.whole, drop-behind a 125 c.rest, l) at r in
    rw (c.whole, ← append_assoc a (125 ∷ []) c.rest) (Row.and (OneBlock.block c.covered c.flat q) t)

sound_from : (m : Mode) (s : List ℕ) (k at : ℕ) (is : List Placed) → blocks_from m s k at ≡ Reading.items is → Row m (at + k) (drop k s) is
unfolding blocks_from
sound_from m [] k at is e = let z : [] ≡ is = cc in rw (← z, drop-nil k) Row.none
sound_from m (b ∷ s) (suc k) at is e = rw (add-suc, ← suc-add at k) (sound_from m s k (suc at) is e)
sound_from m (b ∷ s) zero at is e = rw add-zero (go (eqb b 123) (close_from s fresh (suc at)) refl refl e (λ k js. sound_from m s k (suc at) js))
  where
    go : (x : Bool) (p : Option ℕ) → eqb b 123 ≡ x → close_from s fresh (suc at) ≡ p → cond x (block_to m s (suc at) p (λ n. blocks_from m s n (suc at))) Reading.refused ≡ Reading.items is → ((k : ℕ) (js : List Placed) → blocks_from m s k (suc at) ≡ Reading.items js → Row m (suc at + k) (drop k s) js) → Row m at (b ∷ s) is
    go false p h c e ih = contra true refl (cc)
    go true None h c e ih = contra true refl (cc)
    go true (Some a) h c e ih =
        let w = joined_of (read_payload m (suc at) (take (a - suc at) s)) (blocks_from m s (suc (a - suc at)) (suc at)) is e in
        rw (eqb-true b 123 h, w.4) (block_row m s at a w.0 w.1 (close_found s (suc at) a c) w.2 (ih (suc (a - suc at)) w.1 w.3))

one_of : (r : Reading) (is : List Placed) → one_or_more r ≡ Reading.items is → (r ≡ Reading.items is) × (is ≡ [] → ⊥)
one_of Reading.refused is e = contra true refl (cc)
one_of (Reading.items []) is e = contra true refl (cc)
one_of (Reading.items (p ∷ js)) is e = (e, λ q. contra true refl (cc))

row_blocks_at : {m : Mode} {at v : ℕ} {b s : List ℕ} {is js : List Placed} → OneBlock m at b is → Row m v s js → v ≡ at + length b → Blocks m at (b ++ s) (is ++ js)
row_blocks_at {b = b} {is = is} x Row.none e = rw (append-nil b, append-nil is) (Blocks.one x)
row_blocks_at {at = at} x (Row.and {at = at'} y r) e = Blocks.more x (rw (← e) (row_blocks_at {at = at'} y r refl))

row_blocks : {m : Mode} {at : ℕ} {b s : List ℕ} {is js : List Placed} → OneBlock m at b is → Row m (at + length b) s js → Blocks m at (b ++ s) (is ++ js)
row_blocks x r = row_blocks_at x r refl

of_row : {m : Mode} {at : ℕ} {s : List ℕ} {is : List Placed} → Row m at s is → (is ≡ [] → ⊥) → Blocks m at s is
of_row Row.none n = absurd (n refl)
of_row (Row.and x r) n = row_blocks x r

-- ======== the theorems
pub sound : (m : Mode) (at : ℕ) (s : List ℕ) (is : List Placed) → read_blocks m at s ≡ Reading.items is → Blocks m at s is
unfolding read_blocks
sound m at s is e = let h = one_of (blocks_from m s 0 at) is e in of_row (rw add-zero at (sound_from m s 0 at is h.0)) h.1

-- ======== how the reader goes on at a place i of a text
module _ (m : Mode) (w : List ℕ) (i : ℕ) (h : i < length w) where
  pub no_brace : (get_or w i 0 ≡ 123 → ⊥) → blocks_from m (drop i w) 0 i ≡ Reading.refused
  unfolding blocks_from
  no_brace n = rw (drop-cons w i 0 h, ne_eqb (get_or w i 0) 123 n)

  module _ (b : get_or w i 0 ≡ 123) {p : Option ℕ} (f : p ≡ find_close w (i + 1)) where
    pub no_close : p ≡ None → blocks_from m (drop i w) 0 i ≡ Reading.refused
    unfolding blocks_from find_close
    no_close q =
        let z : close_from (drop (suc i) w) fresh (suc i) ≡ None = rw add-one at (sym f ∙ q) in
        rw (drop-cons w i 0 h, b, z)

    pub within : {e : ℕ} → p ≡ Some e → (i < e) × (e < length w)
    within {e} q = let z = found w (i + 1) e (sym f ∙ q) in omega (arith, z.from, z.to)

    pub block : {e : ℕ} → p ≡ Some e → blocks_from m (drop i w) 0 i ≡ joined (read_payload m (i + 1) (slice (i + 1) e w)) (blocks_from m (drop (e + 1) w) 0 (e + 1))
    unfolding find_close
    block {e} q =
        let z : close_from (drop (suc i) w) fresh (suc i) ≡ Some e = rw add-one at (sym f ∙ q) in
        let y : suc i + suc (e - suc i) ≡ suc e = omega (arith, within q) in
        rw (drop-cons w i 0 h, b, add-one i, add-one e, slice_part (suc i) e w) (rw (drop-drop (suc (e - suc i)) (suc i) w, y) at (block_at m (drop (suc i) w) i z))

-- where a byte stands, what is read has an item
no_items : {m : Mode} {at : ℕ} {s : List ℕ} {is : List Placed} → Row m at s is → is ≡ [] → s ≡ []
no_items Row.none e = refl
no_items (Row.and {js = js} x r) e = contra true refl (let z = block_some x js in let y : Reading.refused ≡ Reading.items [] = rw e at z in cc)

pub some_read : (m : Mode) (w : List ℕ) (i : ℕ) → i < length w → one_or_more (blocks_from m (drop i w) 0 i) ≡ blocks_from m (drop i w) 0 i
some_read m w i h = go (blocks_from m (drop i w) 0 i) refl
  where
    go : (r : Reading) → blocks_from m (drop i w) 0 i ≡ r → one_or_more r ≡ r
    go Reading.refused e = refl
    go (Reading.items (p ∷ is)) e = refl
    go (Reading.items []) e = absurd (omega (arith, length-drop i w, ap length (no_items (sound_from m (drop i w) 0 i [] e) refl)))
