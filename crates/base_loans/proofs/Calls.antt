-- A call in a walk. It says nothing of any crate.
--     answers      what a callee that meets its contract gives back, ⇛ ∃ r. (the tokens ∗ what r owns) ∗ what is ensured of r, at the head of the context:
--                  r is had, with what is said of it and how it lies in memory; what it owns stands first, the tokens behind it
-- Assumes `Logic`.
use mathlib.Core.List.{List, [], ◌∷◌}
use seplogic.Ra.Ura.{Ura}
use mir.Val.{Val}
use base.Logic.{SProp, ent, sep, ex, id⊢}
use types.Logic.{Logic, sem}
use contract.Monad.{fact}
use types.Kit.{Item, Goal, Soaks, Seq, mean, raw, ‵, ◌⊛◌, some, later, ◌$◌, move, use1, split, pick, await}
use denote.RattleType.{RattleType}
use denote.Laws.{Is, shows}
use denote.Steps.{heard, peeks}

module _ {M : Type 1} {𝓤 : Ura M} {𝓛 : Logic 𝓤} {K : Type 0} {Γ : List (Item 𝓤)} {G : Goal 𝓤 𝓛.H} where
  open 𝓛 use {H}

  pub answers : K → Soaks G → (R : RattleType) (tokens : Item 𝓤) (S : R.Denot → SProp 𝓤) (φ : R.Denot → Type 0) → ((r : R.Denot) → ent 𝓤 (S r) (fact 𝓤 (φ r))) → (u : Val)
      → ((r : R.Denot) → φ r → Is R r (u ∷ []) → Seq K 𝓛 (‵ (R.own_val r (u ∷ [])) ∷ tokens ∷ Γ) G)
      → Seq K 𝓛 (raw (H.⇛ (ex 𝓤 (λ (r : R.Denot). sep 𝓤 (sep 𝓤 (mean 𝓛 tokens) (sem 𝓛 (R.own_val r (u ∷ [])))) (S r)))) ∷ Γ) G
  answers t z R tokens S φ said u k =
      use1 𝓛 (later (some (λ (r : R.Denot). (tokens ⊛ ‵ (R.own_val r (u ∷ []))) ⊛ raw (S r)))) (id⊢ 𝓤 _) $ await t z $ pick t (λ r.
      split t $ move t (1 ∷ []) $ use1 𝓛 (raw (fact 𝓤 (φ r))) (said r) $ heard t (φ r) (λ e. split t $ move t (1 ∷ []) $ peeks t R (Is R) (shows 𝓛 R) r (u ∷ []) (λ is. k r e is)))
