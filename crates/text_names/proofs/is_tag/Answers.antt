use mathlib.Core.Path.{refl, ◌∙◌}
use Rattle.base_bytes.specs.Bytes.{is_letter, is_digit, within}
use Rattle.base_refusals.proofs.Said.{said}
use Rattle.base_letters.specs.Classes.{class_of}
use Rattle.base_letters.proofs.Rule as rule
use Rattle.text_names.specs.Tested.{tested_paper}
use Rattle.text_names.specs.Computed.{is_tag, tag_place}
use Rattle.text_names.proofs.Tag as tag
use borrow.Author.Rules.{rules}
use Rattle.text_names.proofs.is_tag.Goals as goal

pub returns : goal.returns
unfolding class_of is_letter is_digit within is_tag tag_place
returns c = said tested_paper refl (c.tag_by.ensures ∙ tag.same_tag rule.alnum c.args.s.now)
