use mathlib.Core.Path.{refl, sym, ◌∙◌}
use native.Mathlib.Omega.{arith}
use borrow.Author.Tests.{not-true, not-false}
use Rattle.text_lines.specs.Trim.{trim_range}
use Rattle.block_payloads.proofs.Lines as laws
use borrow.Author.Rules.{rules}
use Rattle.block_payloads.proofs.valid_wrapped_attr_continuation.Goals as goal

pub returns-then-not-is_text : goal.returns-then-not-is_text
returns-then-not-is_text c =
    laws.no_text c.args.s.now {r = trim_range c.args.s.now} refl (sym c.is_text.ensures ∙ c.if-not-is_text.true)

pub slice_bounds-continues_run-count : goal.slice_bounds-continues_run-count
slice_bounds-continues_run-count c = omega (arith, laws.core_from c.args.s.now c.trim_ascii-r.ensures)

pub slice_bounds-continues_run-start : goal.slice_bounds-continues_run-start
slice_bounds-continues_run-start c = omega (arith, laws.core_from c.args.s.now c.trim_ascii-r.ensures)

pub slice_bounds-continues_run-end : goal.slice_bounds-continues_run-end
slice_bounds-continues_run-end c = omega (arith, laws.core_to c.args.s.now c.trim_ascii-r.ensures)

pub returns : goal.returns
returns c =
    laws.cut_out c.args.s.now c.trim_ascii-r.ensures (sym c.is_text.ensures ∙ c.if-not-is_text.false) c.continues_run.ensures
