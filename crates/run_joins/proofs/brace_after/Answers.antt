use Rattle.std.specs.Prelude.{None}
use mathlib.Core.Path.{refl, sym, ◌∙◌}
use native.Mathlib.Omega.{arith}
use Rattle.run_scanners.specs.Scanners.{last_open_brace}
use Rattle.text_tabs.proofs.Laws as columns
use Rattle.run_joins.proofs.Steps as laws
use borrow.Author.Rules.{rules}
use Rattle.run_joins.proofs.brace_after.Goals as goal

pub returns-then-base-c : goal.returns-then-base-c
returns-then-base-c c =
    sym (columns.capped_top _ (omega (arith, c.if-base-c.true))) ∙ laws.brace_sum c.args.brace c.args.base (last_open_brace None c.args.pad c.args.line.now) c.last_open_brace_column.ensures.value c.in-Some.is

pub returns-in-None : goal.returns-in-None
returns-in-None c =
    laws.brace_kept c.args.brace c.args.base (last_open_brace None c.args.pad c.args.line.now) c.last_open_brace_column.ensures.value (omega arith) c.in-None.is

pub returns-else-base-c : goal.returns-else-base-c
returns-else-base-c c =
    columns.capped_is _ refl (omega (arith, c.if-base-c.false)) ∙ laws.brace_sum c.args.brace c.args.base (last_open_brace None c.args.pad c.args.line.now) c.last_open_brace_column.ensures.value c.in-Some.is
