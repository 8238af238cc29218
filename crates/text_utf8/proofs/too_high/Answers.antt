use Rattle.text_utf8.proofs.Pieces as laws
use Rattle.text_utf8.specs.Inner.{is_high}
use borrow.Author.Rules.{rules}
use Rattle.text_utf8.proofs.too_high.Goals as goal

pub returns : goal.returns
unfolding is_high
returns c = laws.or (laws.and c.same.ensures c.least.ensures) (laws.and c.same-2.ensures c.least-2.ensures)
