use mathlib.Core.Path.{sym, ◌∙◌, ap}
use borrow.Author.Tests.{not-true, not-false}
use Rattle.block_trimmed_line.proofs.Trimmed.{opens_by, closes_by}
use Rattle.read_lengths.specs.Lengths.{unless_line}
use Rattle.read_blocks.proofs.Finds as finds
use Rattle.read_lengths.proofs.Measured as laws
use borrow.Author.Rules.{rules}
use Rattle.read_lengths.proofs.measure_wrapped_at.Goals as goal

pub returns-then-not-f : goal.returns-then-not-f
returns-then-not-f c = let r = laws.none_by _ _ _ (ap unless_line (finds.found_none _ _ _ _ (opens_by _ _ c.trimmed_line-f.ensures (not-true _ c.if-not-f.true)))) c.no_measure.ensures in record { value = r.0; join_after = r.1 }

pub returns-then-good_line : goal.returns-then-good_line
returns-then-good_line c = let r = laws.none_by _ _ _ (ap unless_line (finds.found_line _ _ _ _ c.trimmed_line-f.ensures (opens_by _ _ c.trimmed_line-f.ensures (not-false _ c.if-not-f.false)) (sym c.good_line.ensures ∙ c.if-good_line.true))) c.no_measure-then-good_line.ensures in record { value = r.0; join_after = r.1 }

pub returns-then-f : goal.returns-then-f
returns-then-f c = let r = laws.none_by _ _ _ (ap unless_line (finds.found_shut _ _ _ _ c.trimmed_line-f.ensures (opens_by _ _ c.trimmed_line-f.ensures (not-false _ c.if-not-f.false)) (sym c.good_line.ensures ∙ c.if-good_line.false) (closes_by _ _ c.trimmed_line-f.ensures c.if-f.true))) c.no_measure-then-f.ensures in record { value = r.0; join_after = r.1 }

pub returns : goal.returns
returns c =
    let e = closes_by _ _ c.trimmed_line-f.ensures c.if-f.false in let r = laws.measured_by _ _ _
    (ap unless_line (finds.found-run _ _ _ _ c.trimmed_line-f.ensures (opens_by _ _ c.trimmed_line-f.ensures (not-false _ c.if-not-f.false))
    (sym c.good_line.ensures ∙ c.if-good_line.false) e) ∙ laws.run_stays _ _ _ _ e) c.measure_run.ensures.value c.measure_run.ensures.join_after in record { value = r.0; join_after = r.1 }
