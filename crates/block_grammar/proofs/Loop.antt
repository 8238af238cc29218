-- How the reader goes on from byte i: what a loop over tokens asks, one law for each way on, for any state that the loop fills.
-- Assumes nothing.
use mathlib.Core.Path.{◌≡◌, refl, ap, sym, ◌∙◌}
use mathlib.Core.Bool.{Bool, true, false, cond}
use mathlib.Core.List.{List, [], ◌∷◌}
use Prim.Native.Nat.{ℕ, suc, ◌+◌, ◌<◌, ◌≤◌, zero-le}
use native.Mathlib.Nat.{add-zero, add-suc, suc-add}
use native.Mathlib.Omega.{arith}
use lib.ListN.{length, get_or, drop, drop_of_length-le, length-drop, length-append}
use lib.Seq.{drop-cons, drop-drop, drop-append_seam, get_or-drop}
use Rattle.base_lists.specs.Lists.{run}
use Rattle.base_lists.proofs.Scan.{run_le}
use Rattle.base_lists.proofs.More.{run_stops}
use Rattle.base_bytes.specs.declared.Mode.{Mode}
use Rattle.base_bytes.specs.Bytes.{is_blank}
use Rattle.block_grammar.specs.Grammar.{Item, Placed, Reading}
use Rattle.block_grammar.specs.Computed.{First, text, token_of, also, read_from}
use Rattle.block_grammar.proofs.Tokens.{token_sound}
use Rattle.block_grammar.proofs.Payload.{blank_step, token_step}

-- blanks passed at once
passed : (m : Mode) (s : List ℕ) (at : ℕ) → read_from m (drop (run (is_blank m) s) s) 0 (at + run (is_blank m) s) ≡ read_from m s 0 at
unfolding run
passed m [] at = rw add-zero
passed m (b ∷ s) at = go (is_blank m b) refl (passed m s (suc at))
  where
    go : (x : Bool) → is_blank m b ≡ x → read_from m (drop (run (is_blank m) s) s) 0 (suc at + run (is_blank m) s) ≡ read_from m s 0 (suc at) → read_from m (drop (cond x (suc (run (is_blank m) s)) 0) (b ∷ s)) 0 (at + cond x (suc (run (is_blank m) s)) 0) ≡ read_from m (b ∷ s) 0 at
    go true p h = rw (add-suc, ← suc-add at (run (is_blank m) s), h) (sym (blank_step m b s at p))
    go false p h = rw add-zero

-- each item goes into the state by `step`; the answer is `bad`, or `out` of the last state
module _ {S R : Type 0} (step : S → Placed → S) (bad : R) (out : S → R) where
  abbrev pub steps : S → List Placed → S
  steps st [] = st
  steps st (p ∷ is) = steps (step st p) is

  abbrev pub fill : S → Reading → R
  fill st Reading.refused = bad
  fill st (Reading.items is) = out (steps st is)

  also_fill : (st : S) (p : Placed) (r : Reading) → fill st (also p r) ≡ fill (step st p) r
  also_fill st p Reading.refused = refl
  also_fill st p (Reading.items is) = refl

  -- the loop stands before byte i of s, whose first byte stands at `at`; st is filled so far, and the answer is r
  pub record Reads (m : Mode) (s : List ℕ) (at : ℕ) (r : R) (i : ℕ) (st : S) : Type 0 where
    pub within : i ≤ length s
    pub rest : fill st (read_from m (drop i s) 0 (at + i)) ≡ r

  pub start : (m : Mode) (s : List ℕ) (at : ℕ) (st : S) → Reads m s at (fill st (read_from m s 0 at)) 0 st
  start m s at st = record { within = zero-le; rest = rw add-zero }

  module _ {m : Mode} {s : List ℕ} {at : ℕ} {r : R} {i : ℕ} {st : S} (inv : Reads m s at r i st) where
    pub end : length s ≤ i → out st ≡ r
    unfolding read_from
    end h = rw (drop_of_length-le s h) at inv.rest

    pub none : i < length s → is_blank m (get_or s i 0) ≡ false → token_of m (drop i s) ≡ First.none → bad ≡ r
    unfolding read_from
    none h b t =
        let t' : token_of m (get_or s i 0 ∷ drop (suc i) s) ≡ First.none = rw (drop-cons s i 0 h) at t in
        rw (drop-cons s i 0 h, b, t') at inv.rest

    -- the token's text stands in s
    pub fits : (j : Item) → token_of m (drop i s) ≡ First.token j → i + length (text j) ≤ length s
    fits j t =
        let f = token_sound m (drop i s) j t in
        omega (arith, length-drop i s, inv.within, simp length-append at (ap length f.whole))

    pub token : (j : Item) → token_of m (drop i s) ≡ First.token j → Reads m s at r (i + length (text j)) (step st (record { at = at + i; item = j }))
    token j t =
        let f = token_sound m (drop i s) j t in
        let d : drop (i + length (text j)) s ≡ f.rest = sym (drop-drop (length (text j)) i s) ∙ ap (λ l. drop (length (text j)) l) (sym f.whole) ∙ drop-append_seam (text j) f.rest in
        let z : at + i + length (text j) ≡ at + (i + length (text j)) = omega arith in
        let e = rw (← f.whole, token_step m f.token f.rest (at + i) f.ended, also_fill, z) at inv.rest in
        record { within = fits j t; rest = rw d e }

    -- behind all the blanks that stand here
    module _ {a : ℕ} (behind : a ≡ i + run (is_blank m) (drop i s)) where
      pub between : (i ≤ a) × (a ≤ length s)
      between = omega (arith, run_le (is_blank m) (drop i s), length-drop i s, inv.within)

      pub blanks : Reads m s at r a st
      blanks =
          let n = run (is_blank m) (drop i s) in
          let z : at + (i + n) ≡ at + i + n = omega arith in
          let e : read_from m (drop a s) 0 (at + a) ≡ read_from m (drop i s) 0 (at + i) = rw (behind, ← drop-drop n i s, z) (passed m (drop i s) (at + i)) in
          record { within = between.1; rest = ap (λ x. fill st x) e ∙ inv.rest }

      pub solid : a < length s → is_blank m (get_or s a 0) ≡ false
      solid h = rw (behind, ← get_or-drop i s (run (is_blank m) (drop i s)) 0) (run_stops (is_blank m) (drop i s) (omega (arith, length-drop i s)))
