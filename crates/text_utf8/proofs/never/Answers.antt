use Rattle.text_utf8.proofs.Pieces as laws
use Rattle.text_utf8.specs.Inner.{is_never}
use borrow.Author.Rules.{rules}
use Rattle.text_utf8.proofs.never.Goals as goal

pub returns : goal.returns
unfolding is_never
returns c = laws.or (laws.or c.least.ensures c.same.ensures) c.same-2.ensures
