use native.Mathlib.Omega.{arith}
use Rattle.block_next_token.proofs.Steps as steps
use Rattle.block_next_token.proofs.step_at.Goals as goal

pub returns-then-text-a : goal.returns-then-text-a
returns-then-text-a c = steps.ends _ _ _ c.blank_end-a.ensures (omega (arith, c.if-text-a.true))

pub returns : goal.returns
returns c = steps.goes _ _ _ c.blank_end-a.ensures (omega (arith, c.if-text-a.false)) c.token_at-token.ensures.value c.place_behind-e.ensures
