use Rattle.door_tokens.proofs.Told as laws
use borrow.Author.Rules.{rules}
use Rattle.door_tokens.proofs.bridlesnow_payload_at.Goals as goal

pub returns : goal.returns
returns c = let r = laws.payload_told c.args.told.now c.payload_range-range.ensures c.tell.ensures c.tell-2.ensures in record { value = r.0; told_after = r.1 }
