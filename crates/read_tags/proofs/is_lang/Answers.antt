use borrow.Author.Rules.{rules}
use Rattle.read_tags.proofs.is_lang.Goals as goal

pub returns : goal.returns
returns c = rw (← c.bytes_of.ensures) c.same_bytes.ensures
