use Rattle.read_tags.specs.Tagged.{lang_of}
use Rattle.read_tags.proofs.Langs.{all_one}
use borrow.Author.Rules.{rules}
use Rattle.read_tags.proofs.tag_passes.Goals as goal

pub returns : goal.returns
unfolding lang_of
returns c = λ before. rw (all_one, ← c.bytes_of.ensures) c.is_allowed_tag.ensures
