use borrow.Author.Rules.{rules}
use Rattle.text_langtags.proofs.start_tag.Goals as goal

pub returns : goal.returns
returns c = rw c.empty.ensures
