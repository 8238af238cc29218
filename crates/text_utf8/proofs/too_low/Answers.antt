use Rattle.text_utf8.proofs.Pieces as laws
use Rattle.text_utf8.specs.Inner.{is_low}
use borrow.Author.Rules.{rules}
use Rattle.text_utf8.proofs.too_low.Goals as goal

pub returns : goal.returns
unfolding is_low
returns c = laws.or (laws.and c.same.ensures c.most.ensures) (laws.and c.same-2.ensures c.most-2.ensures)
