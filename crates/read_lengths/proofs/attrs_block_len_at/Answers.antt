use mathlib.Core.Path.{sym, ◌∙◌}
use Rattle.read_blocks.proofs.ByLine.{block_none, block_at}
use Rattle.read_lengths.proofs.Measured as laws
use Rattle.read_lengths.proofs.LengthNumbers.{said, length_paper_lem}
use borrow.Author.Rules.{rules}
use Rattle.read_lengths.proofs.attrs_block_len_at.Goals as goal

pub returns-in-Err : goal.returns-in-Err
returns-in-Err c = let e = sym c.line_start.ensures.value ∙ c.in-Err.is in said (length_paper_lem _ _ _ _) (laws.missing_by _ _ e _ (block_none _ _ _ _ e) c.no_measure.ensures)

pub returns-in-Ok : goal.returns-in-Ok
returns-in-Ok c =
    let e = sym c.line_start.ensures.value ∙ c.in-Ok.is in said (length_paper_lem _ _ _ _) (laws.measured_at _ _ e _ (block_at _ _ _ _ e) c.measure_at.ensures.value c.measure_at.ensures.join_after)
