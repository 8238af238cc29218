use mathlib.Core.Path.{sym, ◌∙◌}
use Rattle.read_blocks.proofs.Finds.{none_holds}
use Rattle.read_lengths.proofs.Measured as laws
use Rattle.read_lengths.proofs.LengthNumbers.{said, standalone_paper}
use borrow.Author.Rules.{rules}
use Rattle.read_lengths.proofs.standalone_attrs_block_len.Goals as goal

pub returns-then-is_indented : goal.returns-then-is_indented
returns-then-is_indented c =
    let e = sym c.line_start.ensures.value ∙ c.in-Ok.is in said (standalone_paper _ _ _) (laws.measured_at _ _ e _ (laws.standalone_in _ _ e _ (sym c.is_indented.ensures ∙ c.if-is_indented.true)) (laws.none_measured _ _ c.no_measure-then-is_indented.ensures) (none_holds _ _))

pub returns-in-Err : goal.returns-in-Err
returns-in-Err c = let e = sym c.line_start.ensures.value ∙ c.in-Err.is in said (standalone_paper _ _ _) (laws.missing_by _ _ e _ (laws.standalone_none _ _ e _) c.no_measure.ensures)

pub returns-else-is_indented : goal.returns-else-is_indented
returns-else-is_indented c =
    let e = sym c.line_start.ensures.value ∙ c.in-Ok.is in said (standalone_paper _ _ _) (laws.measured_at _ _ e _ (laws.standalone_at _ _ e _ (sym c.is_indented.ensures ∙ c.if-is_indented.false)) c.measure_at.ensures.value c.measure_at.ensures.join_after)
