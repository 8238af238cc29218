use Rattle.std.specs.Prelude.{Some}
use mathlib.Core.Path.{refl, ◌∙◌, ap}
use native.Mathlib.Omega.{arith}
use Rattle.base_refusals.proofs.Said.{said}
use Rattle.block_next_token.specs.Walk.{count_paper}
use Rattle.block_next_token.proofs.Counting as counting
use borrow.Enum.Refused as refused
use Rattle.block_next_token.proofs.token_count.Goals as goal

pub tokens-init : goal.tokens-init
tokens-init c = counting.start _ _

pub overflow_add-n : goal.overflow_add-n
overflow_add-n c =
    record { fits = let g = (counting.next c.tokens.invariant c.step_from-step.ensures.0 c.in-Some.is (refused.opened c.in_default.in_default-own.keys2)) in omega (arith, g.0.within, g.0.few) }

pub tokens-smaller : goal.tokens-smaller
tokens-smaller c =
    let g = (counting.next c.tokens.invariant c.step_from-step.ensures.0 c.in-Some.is (refused.opened c.in_default.in_default-own.keys2)) in omega (arith, g.0.within, g.1)

pub tokens-preserved : goal.tokens-preserved
tokens-preserved c = (counting.next c.tokens.invariant c.step_from-step.ensures.0 c.in-Some.is (refused.opened c.in_default.in_default-own.keys2)).0

pub returns-in-None : goal.returns-in-None
returns-in-None c = said count_paper refl (counting.end c.tokens.invariant c.step_from-step.ensures.0 c.in-None.is)

pub returns-in-Bad : goal.returns-in-Bad
returns-in-Bad c = said count_paper refl (counting.stop c.tokens.invariant c.step_from-step.ensures.0 (c.in-Some.is ∙ ap (λ t. Some t) c.in-Bad.is))
