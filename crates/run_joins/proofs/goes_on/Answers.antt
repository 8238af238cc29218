use native.Mathlib.Omega.{arith}
use Rattle.run_joins.proofs.Steps as laws
use borrow.Author.Rules.{rules}
use Rattle.run_joins.proofs.goes_on.Goals as goal

pub returns-then-indent_from-st : goal.returns-then-indent_from-st
returns-then-indent_from-st c = laws.goes_low c.args.st c.args.pad c.args.line.now (omega arith) c.indent_from.ensures c.if-indent_from-st.true

pub returns-in-None : goal.returns-in-None
returns-in-None c =
    laws.goes_out c.args.st c.args.pad c.args.line.now (omega arith) c.indent_from.ensures c.if-indent_from-st.false c.in-None.is c.requires c.continues_run.ensures

pub returns-in-Some : goal.returns-in-Some
returns-in-Some c =
    laws.goes_quoted c.args.st c.args.pad c.args.line.now (omega arith) c.indent_from.ensures c.if-indent_from-st.false c.in-Some.is
