use Rattle.run_stops.proofs.Laws as laws
use borrow.Author.Rules.{rules}
use Rattle.run_stops.proofs.stops_at.Reads as reads
use Rattle.run_stops.proofs.stops_at.Lts as lts
use Rattle.block_tokens.proofs.payload_test.Reads as payload-test-reads
use Rattle.run_stops.proofs.stops_at.Goals as goal

-- src/lib.rt:227:1
pub returns-in-Ok : goal.returns-in-Ok
returns-in-Ok c = laws.stops_whole c.args.s.now c.payload_test.ensures.value c.in-Ok.is

-- src/lib.rt:227:1
pub returns-in-Err : goal.returns-in-Err
returns-in-Err c = laws.stops_stop c.args.s.now c.payload_test.ensures.value c.in-Err.is
