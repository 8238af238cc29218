use mathlib.Core.Path.{◌∙◌}
use lib.ListN.{drop}
use Rattle.base_bytes.specs.Bytes.{is_letter, is_digit, within}
use Rattle.base_letters.specs.Classes.{class_of}
use Rattle.base_letters.proofs.Fronts as fronts
use Rattle.base_letters.proofs.Rule as rule
use borrow.Author.Rules.{rules}
use Rattle.base_letters.proofs.name_end.Goals as goal

pub returns : goal.returns
unfolding class_of is_letter is_digit within
returns c =
    c.front_end.ensures ∙ fronts.same_front rule.name_start rule.name_part c.args.i (drop c.args.i c.args.s.now)
