use Rattle.door_totals.proofs.Says as laws
use borrow.Author.Rules.{rules}
use Rattle.door_totals.proofs.bridlesnow_totals_feed.Reads as reads
use Rattle.door_totals.proofs.bridlesnow_totals_feed.Lts as lts
use Rattle.door_shared.proofs.first_of.Reads as first-of-reads
use Rattle.door_totals.proofs.keep.Reads as keep-reads
use Rattle.door_totals.proofs.report_in.Reads as report-in-reads
use Rattle.door_totals.proofs.room_in.Reads as room-in-reads
use Rattle.sheet_tally.proofs.feed.Reads as feed-reads
use Rattle.door_totals.proofs.bridlesnow_totals_feed.Goals as goal

-- src/lib.rt:74:1
pub returns : goal.returns
returns c = laws.feed_said _ c.report_in.ensures c.room_in.ensures _ _ c.feed-fed.ensures.value c.feed-fed.ensures.join_after c.first_of-outcome.ensures.value c.keep.ensures.value c.keep.ensures.totals_after
