-- The loop of `payload_test`.
-- Assumes nothing.
use Rattle.std.specs.Prelude.{Err, Ok, Result, Some}
use mathlib.Core.Path.{◌≡◌, refl, sym, ◌∙◌, ap}
use mathlib.Core.Bool.{Bool, true, false}
use mathlib.Core.List.{List, [], ◌∷◌}
use Prim.Native.Nat.{ℕ, suc, ◌+◌, ◌<◌, ◌≤◌, zero-le}
use native.Mathlib.Nat.{add-zero, zero-add}
use native.Mathlib.Omega.{arith}
use lib.ListN.{length, get_or, drop, drop_of_length-le}
use lib.Seq.{drop-cons, drop-drop}
use Rattle.base_lists.specs.Lists.{run}
use Rattle.base_lists.proofs.More.{contra}
use Rattle.base_lists.proofs.Parts.{drop_past}
use Rattle.base_bytes.specs.declared.Mode.{Mode}
use Rattle.base_bytes.specs.Bytes.{is_blank}
use Rattle.text_names.specs.Tested.{tested, says_whole}
use Rattle.text_names.proofs.Told.{says}
use Rattle.block_grammar.specs.Grammar.{Placed, Reading}
use Rattle.block_grammar.specs.Computed.{First, text, token_of, also, read_from, one_or_more, read_payload}
use Rattle.block_grammar.proofs.Tokens.{token_sound}
use Rattle.block_places.specs.Computed.{Spot, walk_passes, payload_place, token_place}
use Rattle.block_places.proofs.Tokens.{blanks_over, over, bad_place}
use Rattle.block_tokens.specs.Shown.{shown, token_at, accepted, payload_tested}
use Rattle.block_tokens.specs.Inner.{behind_of}
use Rattle.block_tokens.proofs.Steps as steps

-- whether the rest is accepted, where `some` says that a token was read
abbrev accepts : Bool → Reading → Bool
accepts some Reading.refused = false
accepts some (Reading.items []) = some
accepts some (Reading.items (p ∷ is)) = true

accepts_first : (r : Reading) → accepts false r ≡ accepted (one_or_more r)
accepts_first Reading.refused = refl
accepts_first (Reading.items []) = refl
accepts_first (Reading.items (p ∷ is)) = refl

accepts_also : (some : Bool) (p : Placed) (r : Reading) → accepts some (also p r) ≡ accepts true r
accepts_also some p Reading.refused = refl
accepts_also some p (Reading.items []) = refl
accepts_also some p (Reading.items (q ∷ is)) = refl

-- for callers that ask for yes or no alone
pub yes_or_no : (m : Mode) (s : List ℕ) {t : Result (Unit {0}) ℕ} {w : Bool} → t ≡ payload_tested m s → w ≡ says_whole t → w ≡ accepted (read_payload m 0 s)
yes_or_no m s e q = q ∙ (ap says_whole e ∙ says (accepted (read_payload m 0 s)) (payload_place m s))

-- the answer, where the loop stands before byte i
abbrev answer : Mode → List ℕ → ℕ → Bool → Result (Unit {0}) ℕ
answer m s i some = tested (accepts some (read_from m (drop i s) 0 i)) (i + walk_passes (is_blank m) (Spot.edge some) (drop i s))

-- the loop stands before byte i, and the answer is r
pub record Reads (m : Mode) (s : List ℕ) (r : Result (Unit {0}) ℕ) (i : ℕ) (some : Bool) : Type 0 where
  pub within : i ≤ length s
  pub rest : answer m s i some ≡ r

pub start : (m : Mode) (s : List ℕ) → Reads m s (payload_tested m s) 0 false
unfolding read_payload payload_place
start m s = record { within = zero-le; rest = rw (accepts_first (read_from m s 0 0), zero-add) }

module _ {m : Mode} {s : List ℕ} {r : Result (Unit {0}) ℕ} {i : ℕ} {some : Bool} (inv : Reads m s r i some) {a : ℕ} (is : a ≡ i + run (is_blank m) (drop i s)) where
  -- the place, behind the blanks
  place : i + walk_passes (is_blank m) (Spot.edge some) (drop i s) ≡ a + walk_passes (is_blank m) (Spot.edge some) (drop a s)
  place =
      let z : drop (run (is_blank m) (drop i s)) (drop i s) ≡ drop a s = rw (drop-drop (run (is_blank m) (drop i s)) i s, ← is) in
      rw (blanks_over m some (drop i s), z) (omega (arith, is))

  here : {q : Reading} → read_from m (drop i s) 0 i ≡ q → tested (accepts some q) (a + walk_passes (is_blank m) (Spot.edge some) (drop a s)) ≡ r
  here e = rw (e, place) at inv.rest

  pub end : a ≡ length s → tested some a ≡ r
  unfolding walk_passes
  end h = rw (drop_of_length-le s {i = a} (omega arith), add-zero) at (here (steps.at_end m s inv.within is h))

  pub stop : {n : ℕ} → (a ≡ length s → ⊥) → Err n ≡ behind_of (token_at m s a) → Err n ≡ r
  unfolding shown
  stop {n} h q = go (token_of m (drop a s)) refl q
    where
      l : a < length s
      l = omega (arith, h, steps.between m s inv.within is)

      go : (x : First) → token_of m (drop a s) ≡ x → Err n ≡ behind_of (shown a (a + token_place (drop a s)) x) → Err n ≡ r
      go First.none p q =
          let z : n ≡ a + token_place (drop a s) = cc in
          let b : walk_passes (is_blank m) (Spot.edge some) (drop a s) ≡ token_place (drop a s) = (rw (drop-cons s a 0 l) (bad_place m some (get_or s a 0) (drop (suc a) s) (steps.no_blank m s inv.within is l) (rw (drop-cons s a 0 l) at p))) in
          rw (z, ← b) (here (steps.none_refused m s inv.within is l p))
      go (First.token j) p q = contra true refl (cc (steps.item_next a j))

  pub go : {e : ℕ} → Ok e ≡ behind_of (token_at m s a) → Reads m s r e true × (i < e)
  unfolding shown
  go {e} q = on (token_of m (drop a s)) refl q
    where
      on : (x : First) → token_of m (drop a s) ≡ x → Ok e ≡ behind_of (shown a (a + token_place (drop a s)) x) → Reads m s r e true × (i < e)
      on First.none p q = contra true refl (cc)
      on (First.token j) p q =
          let w : a + length (text j) ≡ e = cc (steps.item_next a j) in
          let t = steps.token_stepped m s inv.within is p (sym (steps.item_behind a j ∙ ap (λ x. Some x) w)) in
          let f = token_sound m (drop a s) j p in
          let d : drop e s ≡ f.rest = drop_past s (text j) f.rest a e (sym f.whole) (sym w) in
          let o : a + walk_passes (is_blank m) (Spot.edge some) (drop a s) ≡ e + walk_passes (is_blank m) (Spot.edge true) (drop e s) = (rw (← f.whole, over m some f.rest f.token f.ended, d) (omega (arith, w))) in
          (record { within = t.within; rest = rw (accepts_also, o) at (here t.next) }, omega (arith, steps.between m s inv.within is, t.ahead))
