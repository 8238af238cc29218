use mathlib.Core.Path.{sym, ◌∙◌}
use Rattle.run_refused.proofs.Leaves as laws
use borrow.Author.Rules.{rules}
use Rattle.run_refused.proofs.halts_at.Goals as goal

pub returns-then-is_blank_line : goal.returns-then-is_blank_line
returns-then-is_blank_line c =
    laws.halts_blank c.args.n c.args.brace c.args.opener c.args.line.now (sym (c.if-is_blank_line.true) ∙ (c.is_blank_line.ensures))

pub returns-then-n-eq0 : goal.returns-then-n-eq0
returns-then-n-eq0 c = laws.halts_first c.args.n c.args.brace c.args.opener c.args.line.now (sym c.if-is_blank_line.false ∙ c.is_blank_line.ensures) c.if-n-eq0.true

pub returns-then-brace-opener : goal.returns-then-brace-opener
returns-then-brace-opener c =
    laws.halts_below c.args.n c.args.brace c.args.opener c.args.line.now (sym c.if-is_blank_line.false ∙ c.is_blank_line.ensures) c.if-n-eq0.false c.if-brace-opener.true

pub returns : goal.returns
returns c =
    laws.halts-opens c.args.n c.args.brace c.args.opener c.args.line.now (sym c.if-is_blank_line.false ∙ c.is_blank_line.ensures) c.if-n-eq0.false c.if-brace-opener.false c.opens_brace.ensures
