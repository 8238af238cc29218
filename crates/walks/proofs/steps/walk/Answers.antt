-- `walk` ends, since each token takes the walker on.
-- Assumes nothing.
use Rattle.std.specs.Prelude.{Some}
use mathlib.Core.Path.{◌≡◌}
use mathlib.Core.List.{List, [], ◌∷◌}
use Prim.Native.Nat.{ℕ, ◌≤◌}
use native.Mathlib.Omega.{arith}
use lib.ListN.{length}
use types.Run.{OneOf}
use denote.Enum.Declared.{tag_of}
use borrow.Enum.Refused as refused
use Rattle.base_bytes.specs.declared.Mode.{Mode}
use Rattle.block_tokens.specs.declared.Token.{Token}
use Rattle.block_tokens.specs.contracts.Token as Tk
use Rattle.block_next_token.specs.Walk.{step_at}
use Rattle.block_next_token.specs.declared.Step.{Step}
use Rattle.block_next_token.proofs.Steps.{tag_not_bad, Onward, onward}
use Rattle.walks.proofs.steps.walk.Goals as goal

-- a step over a token of any variant but the first takes the walker on
goes_on : (m : Mode) (s : List ℕ) (at : ℕ) {x : Step} → at ≤ length s → x ≡ step_at m s at → {t : Token} → x.ahead ≡ Some t
    → OneOf (1 ∷ 2 ∷ 3 ∷ 4 ∷ 5 ∷ 6 ∷ []) (tag_of Tk.the_type t) → Onward s at x
goes_on m s at fits is {t} e k = onward m s at fits is e (tag_not_bad t k)

pub steps-smaller : goal.steps-smaller
steps-smaller g c =
    let o = goes_on _ _ _ c.steps.invariant c.step_from-step.ensures.0 c.in-Some.is (refused.opened c.in_default.in_default-own.keys2) in omega (arith, o.ahead, o.within)

pub steps-preserved : goal.steps-preserved
steps-preserved g c = (goes_on _ _ _ c.steps.invariant c.step_from-step.ensures.0 c.in-Some.is (refused.opened c.in_default.in_default-own.keys2)).within
