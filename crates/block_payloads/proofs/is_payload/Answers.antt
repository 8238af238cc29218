use mathlib.Core.Path.{sym, ◌∙◌}
use borrow.Author.Tests.{not-true, not-false}
use Rattle.block_tokens.proofs.Payload.{yes_or_no}
use Rattle.block_payloads.specs.Payloads.{is_payload}
use borrow.Author.Rules.{rules}
use Rattle.block_payloads.proofs.is_payload.Goals as goal

pub returns-then-not-is_text : goal.returns-then-not-is_text
unfolding is_payload
returns-then-not-is_text c = simp (sym c.is_text.ensures ∙ c.if-not-is_text.true)

pub returns : goal.returns
unfolding is_payload
returns c = simp (sym c.is_text.ensures ∙ c.if-not-is_text.false) (yes_or_no _ _ c.payload_test.ensures.value c.is_whole.ensures)
