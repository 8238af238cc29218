use Rattle.text_utf8.proofs.Pieces as laws
use Rattle.text_utf8.specs.Inner.{is_wrong}
use borrow.Author.Rules.{rules}
use Rattle.text_utf8.proofs.goes_on.Reads as goes-on-reads
use Rattle.text_utf8.proofs.too_high.Reads as too-high-reads
use Rattle.text_utf8.proofs.too_low.Reads as too-low-reads
use Rattle.text_utf8.proofs.wrong.Goals as goal

pub returns : goal.returns
unfolding is_wrong
returns c = laws.or (laws.or (laws.or c.never.ensures (laws.unlike c.goes_on.ensures c.tail.ensures)) c.too_low.ensures) c.too_high.ensures
