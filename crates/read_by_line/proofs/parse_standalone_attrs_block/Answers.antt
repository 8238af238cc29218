use mathlib.Core.Path.{sym, ◌∙◌}
use Rattle.read_blocks.proofs.ByLine.{block_none, block_at}
use Rattle.read_by_line.proofs.Starts as laws
use Rattle.read_blocks.proofs.BlockNumbers.{said}
use Rattle.read_by_line.proofs.LineNumbers.{block_no}
use borrow.Author.Rules.{rules}
use Rattle.read_by_line.proofs.parse_standalone_attrs_block.Goals as goal

pub returns-in-Err : goal.returns-in-Err
returns-in-Err c = let e = sym c.line_start.ensures.value ∙ c.in-Err.is in said (block_no _ _ _) (laws.read_none _ _ e _ (block_none _ _ _ _ e) c.no_block.ensures.value)

pub returns-in-Ok : goal.returns-in-Ok
returns-in-Ok c =
    let e = sym c.line_start.ensures.value ∙ c.in-Ok.is in said (block_no _ _ _) (laws.read_at _ _ e _ (block_at _ _ _ _ e) c.read_at.ensures.value c.read_at.ensures.join_after)
