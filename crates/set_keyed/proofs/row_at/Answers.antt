use native.Mathlib.Omega.{arith}
use Rattle.set_keyed.proofs.Slots as laws
use borrow.Author.Rules.{rules}
use Rattle.set_keyed.proofs.row_at.Goals as goal

pub returns-then-n-k : goal.returns-then-n-k
returns-then-n-k c = laws.row_past c.args.n c.args.k _ (omega arith)

pub returns-then-k-ge-KEYS : goal.returns-then-k-ge-KEYS
returns-then-k-ge-KEYS c = laws.row_out c.args.n c.args.k _ c.well_formed.0.1.0.1 (omega arith)

pub returns : goal.returns
returns c =
    laws.row_in c.args.n c.args.k _ (omega arith)
