use borrow.Author.Rules.{rules}
use Rattle.text_utf8.proofs.is_utf8.Goals as goal

pub in_parts-requires : goal.in_parts-requires
in_parts-requires c = c.is_short.ensures c.if-is_short.false
