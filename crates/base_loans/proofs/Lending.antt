-- A call that a local is lent to by `&mut`, as one step of a walk: the local is lent out for a lifetime that is made for it, the callee is called, the lifetime is ended, and the local is whole again at its last value.
-- It says nothing of any crate.
--     lends-for    asked      the tokens, what else is lent, and the reference make what the callee asks; what else is lent is had twice
--                  known      the callee meets its contract: it gives back the tokens and an answer r, of which `Ends` is said
--                  told       what is said has the reference's last value y' in it, and the fact φ of r and y'
-- Assumes `Logic`.
use Prim.Native.Nat.{ℕ}
use mathlib.Core.List.{List, [], ◌∷◌}
use seplogic.Ra.Ura.{Ura}
use base.Fraction.{full_share}
use mir.Syntax.{Callee, Place, Lifetime, Opd as Operand, Body, seq, call}
use mir.Val.{Val}
use base.Logic.{SProp, ent, sep, ex, id⊢}
use base.Fml.{GName, Lft, Share, ftrue, flft, fres}
use prog.Wp.{Env, Calls, Loops}
use types.Logic.{Logic, sem}
use contract.Monad.{fact}
use types.Kit.{Item, Post, Seq, mean, ⋆, ‵, raw, ◌⊛◌, some, later, runs, lands, ◌$◌, move, use1, use2, use3, split, join, pick, await}
use types.Run.{Opds}
use types.Tokens.{lft_new, lft_end}
use sound.WpLaws.{FmC}
use denote.RattleType.{RattleType}
use denote.Laws.{Is, Tells, shows}
use denote.Memory.{cell_at}
use denote.Steps.{heard, peeks}
use denote.Triple.Call.{calls_from}
use Rattle.base_loans.proofs.Local.{Ref, Lender, lent_out, taken_back}

module _ {M : Type 1} {𝓤 : Ura M} {𝓛 : Logic 𝓤} {K : Type 0} {Γ : List (Item 𝓤)} {E : Env 𝓤 𝓛.H} {C : Calls 𝓤 𝓛.H} {f : Callee} {xs : List Operand} {Λ : Loops 𝓤 𝓛.H} {p : Post 𝓤 𝓛.H} {r₀ : Place} {rest : Body} where
  open 𝓛 use {H}

  pub lends_for : K → FmC 𝓤 H 𝓛.laws C → (T O : RattleType) (vals : T.Denot → List Val) → Tells T (Is T) vals → (ℓ : Lifetime) (κ : Lft) (q : Share) (d : ℕ) (y : T.Denot) (lent : Item 𝓤) (vs : List Val)
      (Pre : ℕ → GName → SProp 𝓤) (Ends : ℕ → GName → O.Denot → SProp 𝓤) (φ : O.Denot → T.Denot → Type 0)
      → (asked : (a : ℕ) (δ : GName) → ent 𝓤 (⋆ 𝓛 (((‵ (flft κ q) ⊛ ‵ ftrue) ⊛ ‵ (flft (a ∷ []) full_share)) ∷ lent ∷ ‵ (Ref 𝓛 T (a ∷ []) d 0 ℓ δ y) ∷ [])) (sep 𝓤 (Pre a δ) (mean 𝓛 lent)))
      → (known : (a : ℕ) (δ : GName) → ent 𝓤 (Pre a δ) (C f vs (λ u. H.⇛ (ex 𝓤 (λ (r : O.Denot). sep 𝓤 (sep 𝓤 (mean 𝓛 (‵ (flft κ q) ⊛ (‵ (flft (a ∷ []) full_share) ⊛ ‵ ftrue))) (sem 𝓛 (O.own_val r (u ∷ [])))) (Ends a δ r))))))
      → (told : (a : ℕ) (δ : GName) (r : O.Denot) → ent 𝓤 (Ends a δ r) (ex 𝓤 (λ (y' : T.Denot). sep 𝓤 (sem 𝓛 (fres δ (T.coded.code y'))) (fact 𝓤 (φ r y')))))
      → ((a : ℕ) (δ : GName) → Opds K 𝓛 (raw (Pre a δ) ∷ lent ∷ ‵ (Lender 𝓛 T (a ∷ []) d 0 δ) ∷ Γ) E xs vs)
      → ((u : Val) (r : O.Denot) (y' : T.Denot) → φ r y' → Is O r (u ∷ [])
      → Seq K 𝓛 (‵ (O.own_val r (u ∷ [])) ∷ (‵ (flft κ q) ⊛ ‵ ftrue) ∷ ‵ (cell_at full_share T.mir (vals y') d 0) ∷ ‵ (T.own_val y' (vals y')) ∷ lent ∷ Γ) (lands C Λ E r₀ u rest p))
      → Seq K 𝓛 ((‵ (flft κ q) ⊛ ‵ ftrue) ∷ ‵ (cell_at full_share T.mir (vals y) d 0) ∷ ‵ (T.own_val y (vals y)) ∷ lent ∷ Γ) (runs C Λ E (seq (call f xs r₀) rest) p)
  lends_for k fm T O vals tells ℓ κ q d y lent vs Pre Ends φ asked known told operands then =
      lft_new k tt (λ a. move k (2 ∷ 3 ∷ []) $ use2 𝓛 (later (some (λ (δ : GName). ‵ (Ref 𝓛 T (a ∷ []) d 0 ℓ δ y) ⊛ ‵ (Lender 𝓛 T (a ∷ []) d 0 δ)))) (lent_out 𝓛 T (a ∷ []) d 0 ℓ y (vals y)) $ await k tt $ pick k (λ δ. split k $
      -- [the reference; the lender's part; the loan's token; the token; what else is lent; …]
      move k (3 ∷ 2 ∷ []) $ join k $ move k (0 ∷ 3 ∷ 1 ∷ []) $ use3 𝓛 (raw (Pre a δ) ⊛ lent) (asked a δ) $ split k $
      calls_from k fm (raw (Pre a δ)) vs (λ u. H.⇛ (ex 𝓤 (λ (r : O.Denot). sep 𝓤 (sep 𝓤 (mean 𝓛 (‵ (flft κ q) ⊛ (‵ (flft (a ∷ []) full_share) ⊛ ‵ ftrue))) (sem 𝓛 (O.own_val r (u ∷ [])))) (Ends a δ r)))) (known a δ) (operands a δ) (λ u.
      use1 𝓛 (later (some (λ (r : O.Denot). ((‵ (flft κ q) ⊛ (‵ (flft (a ∷ []) full_share) ⊛ ‵ ftrue)) ⊛ ‵ (O.own_val r (u ∷ []))) ⊛ raw (Ends a δ r)))) (id⊢ 𝓤 _) $ await k tt $ pick k (λ r.
      split k $ move k (1 ∷ []) $ use1 𝓛 (some (λ (y' : T.Denot). ‵ (fres δ (T.coded.code y')) ⊛ raw (fact 𝓤 (φ r y')))) (told a δ r) $ pick k (λ y'. split k $ move k (1 ∷ []) $ heard k (φ r y') (λ e.
      -- [the last value; the tokens and the answer; what else is lent; the lender's part; …]
      move k (1 ∷ []) $ split k $ split k $ move k (1 ∷ []) $ split k $ lft_end k tt $ move k (0 ∷ 6 ∷ 4 ∷ []) $
      use3 𝓛 (later (‵ (cell_at full_share T.mir (vals y') d 0) ⊛ ‵ (T.own_val y' (vals y')))) (taken_back 𝓛 T (a ∷ []) d 0 vals tells δ y') $ await k tt $ split k $
      -- [the local's cell; what its value owns; …; the token; the answer; what else is lent; …]
      move k (3 ∷ 2 ∷ []) $ join k $ move k (3 ∷ []) $ peeks k O (Is O) (shows 𝓛 O) r (u ∷ []) (λ is. then u r y' e is)))))))
