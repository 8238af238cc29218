-- How the quick test goes on from byte i, and what a byte does to it between tokens.
-- Assumes nothing.
use mathlib.Core.Path.{◌≡◌, refl, ◌∙◌}
use mathlib.Core.Bool.{Bool, true, false, cond}
use mathlib.Core.List.{List, [], ◌∷◌}
use Prim.Native.Nat.{ℕ, suc, ◌+◌, ◌-◌, ◌<◌, ◌≤◌, zero-le}
use native.Mathlib.Omega.{arith}
use native.Mathlib.Numerals.{add-one}
use lib.ListN.{length, get_or, take, drop, length-drop, drop_of_length-le}
use lib.Seq.{drop-cons, take_all}
use types.Run.{OneOf}
use borrow.Author.Tests.{lt-leb}
use Rattle.base_lists.specs.Lists.{is_in}
use Rattle.base_lists.proofs.Steady.{missed}
use Rattle.base_bytes.specs.Bytes.{is_key_start}
use Rattle.block_grammar.specs.Quick as quick
use Rattle.block_grammar.specs.declared.Walk.{Walk}
use Rattle.block_grammar.specs.declared.Walk.TheVariants.{Edge}
use Rattle.block_quick.specs.declared.Turn.{Turn}
use Rattle.block_quick.specs.declared.Turn.TheVariants.{On}
use Rattle.block_quick.specs.Inner.{answer, Leads}

-- a byte between tokens that is none of those which `edge` names
pub other : (c : ℕ) (rest : Walk → Bool) → c < 128 → (OneOf (10 ∷ 34 ∷ 39 ∷ 58 ∷ 92 ∷ 125 ∷ []) c → ⊥) → (OneOf (9 ∷ 13 ∷ 32 ∷ []) c → ⊥) → (OneOf (35 ∷ 46 ∷ []) c → ⊥)
    → {key : Bool} → key ≡ is_key_start c → cond key (rest Walk.Word) true ≡ quick.edge c rest
unfolding is_in
other c rest l p q r e =
    let leave = missed (is_in (125 ∷ 10 ∷ 34 ∷ 39 ∷ 92 ∷ 58 ∷ [])) false (10 ∷ 34 ∷ 39 ∷ 58 ∷ 92 ∷ 125 ∷ []) 0 128 c p refl zero-le (omega arith) in
    let edge = missed (is_in (32 ∷ 9 ∷ 13 ∷ [])) false (9 ∷ 13 ∷ 32 ∷ []) 0 128 c q refl zero-le (omega arith) in
    let sigil = missed (is_in (35 ∷ 46 ∷ [])) false (35 ∷ 46 ∷ []) 0 128 c r refl zero-le (omega arith) in
    rw (lt-leb 128 c l, ← leave, ← edge, ← sigil, ← e)

-- ---- the loop stands before byte i in the state w, and the answer is r
pub record Walks (s : List ℕ) (r : Bool) (i : ℕ) (w : Walk) : Type 0 where
  pub rest : quick.quick_from w (drop i s) ≡ r

-- no brace stands there, so that nothing stands behind it
pub past_end : (s : List ℕ) (brace : ℕ) → length s ≤ brace → true ≡ quick.quick_refuses s brace
unfolding quick.quick_refuses quick.quick_from
past_end s brace h = rw (drop_of_length-le s {i = suc brace} (omega arith))

pub start : (s : List ℕ) (brace : ℕ) → Walks (take (length s - (brace + 1)) (drop (brace + 1) s)) (quick.quick_refuses s brace) 0 Edge
unfolding quick.quick_refuses
start s brace =
    let h : length (drop (brace + 1) s) ≤ length s - (brace + 1) = omega (arith, length-drop (brace + 1) s) in
    record { rest = rw (take_all (length s - (brace + 1)) (drop (brace + 1) s) h, add-one) }

module _ {s : List ℕ} {r : Bool} {i : ℕ} {w : Walk} (inv : Walks s r i w) where
  pub end : length s ≤ i → true ≡ r
  unfolding quick.quick_from
  end h = rw (drop_of_length-le s h) at inv.rest

  -- at each turn, the answer for the rest is the answer
  pub turned : i < length s → {t : Turn} → Leads t (λ rest. quick.quick_step w (get_or s i 0) rest) → answer t (λ v. quick.quick_from v (drop (i + 1) s)) ≡ r
  unfolding quick.quick_from
  turned h l = rw add-one (l.goes (λ v. quick.quick_from v (drop (suc i) s)) ∙ (rw (drop-cons s i 0 h) at inv.rest))

  pub go : i < length s → {t : Turn} {v : Walk} → t ≡ On v → Leads t (λ rest. quick.quick_step w (get_or s i 0) rest) → Walks s r (i + 1) v
  go h {t} {v} e l = record { rest = rw e at (turned h l) }
