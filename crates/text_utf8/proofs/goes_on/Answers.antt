use Rattle.text_utf8.proofs.Pieces as laws
use Rattle.text_utf8.specs.Inner.{goes_on}
use borrow.Author.Rules.{rules}
use Rattle.text_utf8.proofs.goes_on.Goals as goal

pub returns : goal.returns
unfolding goes_on
returns c = laws.or (laws.or c.least.ensures c.least-2.ensures) c.least-3.ensures
