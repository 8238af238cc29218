use mathlib.Core.Path.{◌∙◌}
use native.Mathlib.Omega.{arith}
use Rattle.text_tabs.proofs.Laws.{indent_whole}
use borrow.Author.Rules.{rules}
use Rattle.run_refused.proofs.spot_at.Goals as goal

pub returns : goal.returns
returns c = rw ((c.indent_columns.ensures) ∙ indent_whole c.args.line.now (omega (arith, c.requires)))
