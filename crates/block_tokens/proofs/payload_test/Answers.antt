use mathlib.Core.Path.{refl, ap, sym, ◌∙◌}
use Prim.Native.Nat.{◌-◌}
use native.Mathlib.Omega.{arith}
use borrow.Author.Rules.{rules}
use lib.ListN.{length}
use Rattle.base_bytes.specs.Bytes.{is_letter, is_digit, within}
use Rattle.base_letters.specs.Classes.{class_of}
use Rattle.base_letters.proofs.Rule as rule
use Rattle.base_refusals.proofs.Said.{said}
use Rattle.text_names.specs.Tested.{tested_paper}
use Rattle.block_tokens.specs.Shown.{payload_tested}
use Rattle.block_tokens.specs.Inner.{behind_of}
use Rattle.block_tokens.proofs.Lent as lent
use Rattle.block_tokens.proofs.Payload as payload
use Rattle.block_tokens.proofs.payload_test.Goals as goal

pub tokens-init : goal.tokens-init
tokens-init c = payload.start _ _

pub tokens-smaller : goal.tokens-smaller
unfolding class_of is_letter is_digit within
tokens-smaller c =
    let g = payload.go c.tokens.invariant c.blank_end-a.ensures (sym c.in-Ok.is ∙ c.behind_token.ensures ∙ ap behind_of (lent.told rule.tells _ _ _ c.token_by.ensures.value)) in omega (arith, g.0.within, g.1)

pub tokens-preserved : goal.tokens-preserved
unfolding class_of is_letter is_digit within
tokens-preserved c =
    (payload.go c.tokens.invariant c.blank_end-a.ensures (sym c.in-Ok.is ∙ c.behind_token.ensures ∙ ap behind_of (lent.told rule.tells _ _ _ c.token_by.ensures.value))).0

pub returns-then-a-s : goal.returns-then-a-s
returns-then-a-s c = said tested_paper refl (c.whole_or_stops.ensures.value ∙ payload.end c.tokens.invariant c.blank_end-a.ensures c.if-a-s.true)

pub returns-in-Err : goal.returns-in-Err
unfolding class_of is_letter is_digit within
returns-in-Err c =
    said tested_paper refl (payload.stop c.tokens.invariant c.blank_end-a.ensures c.if-a-s.false (sym c.in-Err.is ∙ c.behind_token.ensures ∙ ap behind_of (lent.told rule.tells _ _ _ c.token_by.ensures.value)))
