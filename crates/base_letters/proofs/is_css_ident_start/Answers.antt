use mathlib.Core.Path.{◌∙◌}
use Rattle.base_bytes.specs.Bytes.{is_letter, is_digit, within}
use Rattle.base_letters.specs.Classes.{class_of}
use Rattle.base_letters.proofs.Rule as rule
use borrow.Author.Rules.{rules}
use Rattle.base_letters.proofs.is_css_ident_start.Goals as goal

pub returns : goal.returns
unfolding class_of is_letter is_digit within
returns c = c.is_of.ensures ∙ (λ i. rule.name_start i c.args.b)
