-- A local of a body that is lent by `&mut` for a call, and is whole again after it: `Denote/Lend.antt`'s `lends_ref` and `ref_back`, with the local's cell and what its value owns apart. It says nothing of any crate.
--     lent_out      the cell and what the value x owns  ⊢ ⇛ ∃ γ. the `&κ mut R` to it, at x ∗ the lender's part
--     taken_back    [†κ] ∗ the lender's part ∗ the reference's last value is y  ⊢ ⇛ (the cell, with y's machine value, and what y owns)
-- Assumes `Logic`.
use Prim.Native.Nat.{ℕ}
use mathlib.Core.List.{List, [], ◌∷◌}
use seplogic.Ra.Ura.{Ura}
use base.Fraction.{full_share}
use mir.Syntax.{Lifetime}
use mir.Val.{Val, vptr}
use base.Logic.{SProp, ent, sep, ex}
use base.Fml.{Lft, GName, Fml, fsep, fdead, fres, flent}
use types.Logic.{Logic, sem}
use types.Kit.{‵, later, ◌$◌, ◌∵◌, !, qed, by, use3, fsplit, fjoin, fpick, fpack, await, updating, now as at_once, done}
use types.SemTy.{Body}
use denote.RattleType.{RattleType}
use denote.Laws.{Is, Tells, shows}
use denote.Memory.{part_at, part_of, mem, cell_at}
use denote.Ref.{MutRef}
use denote.Lend.{lends_ref, ref_back}
use denote.Struct.Steps.{spelt}

module _ {M : Type 1} {𝓤 : Ura M} (𝓛 : Logic 𝓤) (R : RattleType) (κ : Lft) (b o : ℕ) where
  open 𝓛 use {H, A}

  abbrev ⟦◌⟧ : Fml → SProp 𝓤
  ⟦ P ⟧ = sem 𝓛 P

  -- the reference to the local, under the name γ
  abbrev pub Ref : Lifetime → GName → R.Denot → Fml
  Ref ℓ γ x = (MutRef ℓ κ R).own_val (record { ref_ptr = (b, o); ghost_name = γ; now = x }) (vptr b o ∷ [])

  abbrev pub Lender : GName → Fml
  Lender γ = flent κ (Body (mem R) b o γ)

  pub lent_out : (ℓ : Lifetime) (x : R.Denot) (vs : List Val) → ent 𝓤 (sep 𝓤 ⟦ cell_at full_share R.mir vs b o ⟧ ⟦ R.own_val x vs ⟧) (H.⇛ (ex 𝓤 (λ (γ : GName). sep 𝓤 ⟦ Ref ℓ γ x ⟧ ⟦ Lender γ ⟧)))
  unfolding part_of
  lent_out ℓ x vs =
      qed 𝓛 (‵ (cell_at full_share R.mir vs b o) ∷ ‵ (R.own_val x vs) ∷ []) ∵ fjoin ! $ fpack ! (List Val) (λ us. fsep (cell_at full_share R.mir us b o) (R.own_val x us)) vs $ by ! (lends_ref 𝓛 R ℓ κ x b o)

  pub taken_back : (vals : R.Denot → List Val) → Tells R (Is R) vals → (γ : GName) (y : R.Denot) → ent 𝓤 (sep 𝓤 (A.dead κ) (sep 𝓤 ⟦ Lender γ ⟧ (A.res γ (R.coded.code y)))) (H.⇛ (sep 𝓤 ⟦ cell_at full_share R.mir (vals y) b o ⟧ ⟦ R.own_val y (vals y) ⟧))
  unfolding part_of
  taken_back vals tl γ y =
      qed 𝓛 (‵ (fdead κ) ∷ ‵ (Lender γ) ∷ ‵ (fres γ (R.coded.code y)) ∷ []) ∵ updating ! $ use3 𝓛 (later (‵ (part_at R full_share y b o))) (ref_back 𝓛 R κ γ y b o) $ await ! tt $
      fpick ! (λ vs. fsplit ! $ spelt ! R (Is R) (shows 𝓛 R) vals tl full_share y vs b o $ at_once ! $ done !)
