use mathlib.Core.Path.{refl, sym, ◌∙◌}
use borrow.Author.Rules.{rules}
use Rattle.base_refusals.proofs.Said.{said}
use Rattle.run_scanners.specs.Scanners.{quote_paper}
use Rattle.run_scanners.proofs.Quick as laws
use Rattle.run_scanners.proofs.open_quote_at_end.Goals as goal

pub returns-then-lacks_quotes : goal.returns-then-lacks_quotes
returns-then-lacks_quotes c = said quote_paper refl (laws.none_open _ (sym c.lacks_quotes.ensures ∙ c.if-lacks_quotes.true))

pub returns : goal.returns
returns c = said quote_paper refl c.scan_quotes.ensures
