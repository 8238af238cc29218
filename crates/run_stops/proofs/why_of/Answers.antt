use Rattle.run_stops.proofs.Laws as laws
use native.Mathlib.Omega.{arith}
use borrow.Author.Rules.{rules}
use Rattle.run_stops.proofs.why_of.Reads as reads
use Rattle.run_stops.proofs.why_of.Lts as lts
use Rattle.run_stops.proofs.line_at.Reads as line-at-reads
use Rattle.text_lines.proofs.is_blank_line.Reads as is-blank-line-reads
use Rattle.text_tabs.proofs.indent_columns.Reads as indent-columns-reads
use Rattle.run_stops.proofs.why_of.Goals as goal

-- src/lib.rt:159:17
pub returns-then-text-e : goal.returns-then-text-e
returns-then-text-e c =
    laws.why_end c.args.text.now c.args.e c.in-None.is c.if-text-e.true

-- src/lib.rt:163:17
pub returns-then-is_blank_line : goal.returns-then-is_blank_line
returns-then-is_blank_line c =
    laws.why_blank c.args.text.now c.args.e c.in-None.is c.if-text-e.false c.line_at-line.ensures c.is_blank_line.ensures c.if-is_blank_line.true

-- src/lib.rt:166:17
pub returns-then-indent_columns-e : goal.returns-then-indent_columns-e
returns-then-indent_columns-e c =
    laws.why_left c.args.text.now c.args.e c.in-None.is c.if-text-e.false
    c.line_at-line.ensures c.is_blank_line.ensures c.if-is_blank_line.false c.indent_columns.ensures c.if-indent_columns-e.true

-- src/lib.rt:151:1
pub returns-in-Some : goal.returns-in-Some
returns-in-Some c =
    laws.why_quoted c.args.text.now c.args.e c.in-Some.is

-- src/lib.rt:151:1
pub returns-else-indent_columns-e : goal.returns-else-indent_columns-e
returns-else-indent_columns-e c =
    laws.why_entries c.args.text.now c.args.e c.in-None.is c.if-text-e.false
    c.line_at-line.ensures c.is_blank_line.ensures c.if-is_blank_line.false c.indent_columns.ensures c.if-indent_columns-e.false
