use Rattle.block_tokens.proofs.Payload.{yes_or_no}
use Rattle.block_payloads.proofs.Lines as laws
use borrow.Author.Rules.{rules}
use Rattle.block_payloads.proofs.continues_run.Goals as goal

pub returns-then-n-eq0 : goal.returns-then-n-eq0
returns-then-n-eq0 c = laws.none _ c.if-n-eq0.true

pub returns-then-l-n-eq125 : goal.returns-then-l-n-eq125
returns-then-l-n-eq125 c = laws.closes _ c.if-n-eq0.false c.if-l-n-eq125.true

pub returns : goal.returns
returns c = laws.payload _ c.if-n-eq0.false c.if-l-n-eq125.false c.behind_last-from.ensures.0 c.behind_last-from.ensures.1 (yes_or_no _ _ c.payload_test.ensures.value c.is_whole.ensures)
