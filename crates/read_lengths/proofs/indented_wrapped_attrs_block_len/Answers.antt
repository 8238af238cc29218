use mathlib.Core.Path.{sym, ◌∙◌}
use Rattle.read_lengths.proofs.Measured as laws
use Rattle.read_lengths.proofs.LengthNumbers.{said, indented_paper}
use borrow.Author.Rules.{rules}
use Rattle.read_lengths.proofs.indented_wrapped_attrs_block_len.Goals as goal

pub returns-in-Err : goal.returns-in-Err
returns-in-Err c = let e = sym c.line_start.ensures.value ∙ c.in-Err.is in said (indented_paper _ _ _) (laws.missing_by _ _ e _ (laws.indented_none _ _ e _) c.no_measure.ensures)

pub returns-in-Ok : goal.returns-in-Ok
returns-in-Ok c =
    let e = sym c.line_start.ensures.value ∙ c.in-Ok.is in said (indented_paper _ _ _) (laws.measured_at _ _ e _ (laws.indented_at _ _ e _) c.measure_wrapped_at.ensures.value c.measure_wrapped_at.ensures.join_after)
