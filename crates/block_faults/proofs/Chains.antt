-- The loop of `chain_fault`.
-- Assumes nothing.
use Rattle.std.specs.Prelude.{Err, None, Ok, Option, Result, Some}
use mathlib.Core.Path.{◌≡◌, refl, sym, ◌∙◌, ap}
use mathlib.Core.Bool.{Bool, true, false, cond, ◌&&◌}
use mathlib.Core.List.{List, [], ◌∷◌}
use Prim.Native.Nat.{ℕ, zero, suc, ◌+◌, ◌-◌, ◌<◌, ◌≤◌}
use native.Mathlib.Nat.{add-zero, add-suc, suc-add}
use native.Mathlib.Numerals.{add-one}
use native.Mathlib.Omega.{arith}
use borrow.Author.Tests.{ne_eqb}
use lib.Dec.{eqb}
use lib.ListN.{length, get_or, take, drop, drop_of_length-le, length-take}
use lib.Seq.{drop-nil, drop-cons, drop-drop}
use Rattle.base_bytes.specs.declared.Mode.TheVariants.{Loose}
use Rattle.block_grammar.specs.Close.{fresh}
use Rattle.block_grammar.specs.Computed.{read_payload}
use Rattle.block_grammar.specs.ComputedClose.{close_from, find_close}
use Rattle.block_grammar.proofs.Close.{found}
use Rattle.block_places.specs.Computed.{payload_place}
use Rattle.block_places.proofs.Place.{place_longest}
use Rattle.block_tokens.specs.Shown.{accepted, payload_tested}
use Rattle.block_faults.specs.declared.Fault.{Fault}
use Rattle.block_faults.specs.declared.Fault.TheVariants.{Behind, Open, Wrong}
use Rattle.block_faults.specs.Faults.{payload_fault, block_fault, fault_from}

-- what a block took is skipped
skipped : (s : List ℕ) (k at : ℕ) → fault_from s k at ≡ fault_from (drop k s) 0 (at + k)
unfolding fault_from
skipped [] k at = rw (drop-nil k)
skipped (b ∷ s) zero at = rw add-zero
skipped (b ∷ s) (suc k) at = rw (add-suc, ← suc-add at k) (skipped s k (suc at))

-- a place that is told lies within the payload
stops_within : (s : List ℕ) (ok : Bool) {n : ℕ} → cond {A = Result (Unit {0}) ℕ} ok (Ok tt) (Err (payload_place Loose s)) ≡ Err n → n ≤ length s
stops_within s true e = let z : ◌≡◌ {A = ℕ} 0 1 = cc in absurd (omega arith)
stops_within s false {n} e = let z : payload_place Loose s ≡ n = cc in rw z at (place_longest Loose s).within

-- the loop stands before the block at i, and the answer is r
pub record Chains (s : List ℕ) (r : Option Fault) (i : ℕ) : Type 0 where
  pub rest : fault_from (drop i s) 0 i ≡ r

pub chains_start : (s : List ℕ) (i : ℕ) → Chains s (fault_from (drop i s) 0 i) i
chains_start s i = record { rest = refl }

module _ {s : List ℕ} {r : Option Fault} {i : ℕ} (inv : Chains s r i) where
  pub chains_end : length s ≤ i → None ≡ r
  unfolding fault_from
  chains_end h = rw (drop_of_length-le s h) at inv.rest

  module _ (h : i < length s) where
    pub chains_text : (get_or s i 0 ≡ 123 → ⊥) → Some (Behind i) ≡ r
    unfolding fault_from
    chains_text n = rw (drop-cons s i 0 h, ne_eqb (get_or s i 0) 123 n) at inv.rest

    module _ (b : get_or s i 0 ≡ 123) {p : Option ℕ} (f : p ≡ find_close s (i + 1)) where
      pub chains_open : p ≡ None → Some (Open i) ≡ r
      unfolding fault_from find_close
      chains_open q =
          let z : close_from (drop (suc i) s) fresh (suc i) ≡ None = rw add-one at (sym f ∙ q) in
          rw (drop-cons s i 0 h, b, z) at inv.rest

      module _ {e : ℕ} (q : p ≡ Some e) where
        pub within : (i < e) × (e < length s)
        within = let z = found s (i + 1) e (sym f ∙ q) in omega (arith, z.from, z.to)

        abbrev payload : List ℕ
        payload = take (e - (i + 1)) (drop (i + 1) s)

        there : payload_fault (i + 1) (payload_tested Loose payload) (fault_from (drop (e + 1) s) 0 (e + 1)) ≡ r
        unfolding fault_from find_close
        there =
            let z : close_from (drop (suc i) s) fresh (suc i) ≡ Some e = rw add-one at (sym f ∙ q) in
            let y : suc i + suc (e - suc i) ≡ suc e = omega (arith, within) in
            rw (add-one i, add-one e) (rw (drop-cons s i 0 h, b, z, skipped (drop (suc i) s) (suc (e - suc i)) (suc i), drop-drop (suc (e - suc i)) (suc i) s, y) at inv.rest)

        module _ {t : Result (Unit {0}) ℕ} (g : t ≡ payload_tested Loose payload) where
          pub short : {n : ℕ} → t ≡ Err n → i + 1 + n ≤ e
          short {n} w = omega (arith, within, stops_within payload (accepted (read_payload Loose 0 payload)) (sym g ∙ w), length-take (e - (i + 1)) (drop (i + 1) s))

          pub chains_wrong : {n : ℕ} → t ≡ Err n → Some (Wrong (i + 1 + n)) ≡ r
          chains_wrong w = rw (← g, w) at there

          pub chains_on : t ≡ Ok tt → Chains s r (e + 1)
          chains_on w = record { rest = rw (← g, w) at there }
