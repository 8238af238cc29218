use mathlib.Core.Path.{◌∙◌, ap}
use Rattle.std.specs.Prelude.{is_ok}
use Rattle.text_checks.proofs.Texts.{text_is}
use borrow.Author.Rules.{rules}
use Rattle.text_checks.proofs.is_text.Goals as goal

pub returns : goal.returns
returns c = c.is_ok.ensures.value ∙ ap is_ok c.check_text.ensures.value ∙ text_is c.args.s.now
