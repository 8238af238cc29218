use Rattle.block_tokens.proofs.Payload.{yes_or_no}
use Rattle.run_stops.proofs.Laws as laws
use borrow.Author.Rules.{rules}
use Rattle.run_stops.proofs.closes_at.Reads as reads
use Rattle.run_stops.proofs.closes_at.Lts as lts
use Rattle.block_tokens.proofs.payload_test.Reads as payload-test-reads
use Rattle.text_names.proofs.is_whole.Reads as is-whole-reads
use Rattle.run_stops.proofs.closes_at.Goals as goal

-- src/lib.rt:242:9
pub returns-then-core-n : goal.returns-then-core-n
returns-then-core-n c = laws.closes_beyond c.args.core.now c.args.from c.args.n c.if-core-n.true

-- src/lib.rt:245:9
pub returns-then-core-n-ne125 : goal.returns-then-core-n-ne125
returns-then-core-n-ne125 c =
    laws.closes_not c.args.core.now c.args.from c.args.n c.if-core-n-ne125.true

-- src/lib.rt:248:9
pub returns-then-n-eq0 : goal.returns-then-n-eq0
returns-then-n-eq0 c =
    laws.closes_front c.args.core.now c.args.from c.args.n c.if-core-n-ne125.false c.if-n-eq0.true

-- src/lib.rt:237:1
pub returns : goal.returns
returns c =
    laws.closes_whole c.args.core.now c.args.from c.args.n c.if-core-n-ne125.false c.if-n-eq0.false (yes_or_no _ _ c.payload_test.ensures.value c.is_whole.ensures)
