use mathlib.Core.Path.{sym, ◌∙◌}
use borrow.Author.Tests.{not-true, not-false}
use Rattle.text_langtags.specs.Computed.{is_allowed}
use Rattle.read_tags.specs.Tagged.{lang_of}
use Rattle.read_tags.proofs.Langs.{all_one}
use borrow.Author.Rules.{rules}
use Rattle.read_tags.proofs.bare_passes.Goals as goal

pub returns-then-not-is_lang : goal.returns-then-not-is_lang
unfolding lang_of
returns-then-not-is_lang c = rw (sym c.is_lang.ensures ∙ c.if-not-is_lang.true)

pub returns : goal.returns
unfolding lang_of is_allowed
returns c = rw (sym c.is_lang.ensures ∙ c.if-not-is_lang.false, all_one)
