use mathlib.Core.Path.{refl, ◌∙◌}
use Rattle.base_refusals.proofs.Said.{said}
use Rattle.text_names.specs.Tested.{tested_paper}
use Rattle.text_names.proofs.Tag as tag
use borrow.Author.Rules.{rules}
use Rattle.text_names.proofs.language_by.Goals as goal

pub returns-then-s-eq0 : goal.returns-then-s-eq0
returns-then-s-eq0 c = said tested_paper refl (tag.language_none _ _ c.if-s-eq0.true)

pub returns-then-s-le-SHORT : goal.returns-then-s-le-SHORT
returns-then-s-le-SHORT c = said tested_paper refl (c.tag_by.ensures ∙ (tag.from_front _ _ ∙ tag.language_some _ _ c.if-s-eq0.false))

pub returns : goal.returns
returns c = said tested_paper refl (c.long_tag_by.ensures ∙ tag.language_some _ _ c.if-s-eq0.false)
