use Rattle.door_tags.proofs.Said.{strict_is, both_said}
use borrow.Author.Rules.{rules}
use Rattle.door_tags.proofs.tags_of.Goals as goal

pub returns : goal.returns
returns c = both_said (strict_is _ c.if-strict-eq0.false)
