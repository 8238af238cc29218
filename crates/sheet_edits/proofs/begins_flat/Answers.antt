use native.Mathlib.Omega.{arith}
use borrow.Author.Rules.{rules}
use Rattle.sheet_edits.proofs.Walks as laws
use Rattle.sheet_edits.proofs.begins_flat.Goals as goal

pub returns : goal.returns
returns c = c.is_flat.ensures
