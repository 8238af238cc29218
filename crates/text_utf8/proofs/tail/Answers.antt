use Rattle.text_utf8.proofs.Pieces as laws
use Rattle.base_bytes.specs.Bytes.{is_tail, within}
use borrow.Author.Rules.{rules}
use Rattle.text_utf8.proofs.tail.Goals as goal

pub returns : goal.returns
unfolding is_tail within
returns c = laws.and c.least.ensures c.most.ensures
