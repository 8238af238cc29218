use borrow.Author.Rules.{rules}
use Rattle.set_exchange.specs.Exchange.{exchanged}
use Rattle.set_exchange.proofs.exchange.Goals as goal

pub returns : goal.returns
unfolding exchanged
returns c = rw (c.other_id-id.ensures, c.other_classes-classes.ensures, c.other_keys-keys.ensures)
