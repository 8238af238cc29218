use mathlib.Core.Path.{sym}
use native.Mathlib.Omega.{arith}
use Prim.Native.Nat.{◌-◌}
use borrow.Author.Rules.{rules}
use lib.ListN.{length}
use Rattle.set_table.specs.Types.{one}
use Rattle.set_table.specs.Rows.{no_rows}
use Rattle.set_fill.specs.Inner.{chain_rest, tokens_at, filled_from}
use Rattle.set_fill.proofs.Walk as walk
use Rattle.set_fill.proofs.Chains as chains
use Rattle.set_table.proofs.Holding as holding
use Rattle.set_fill.proofs.Fills as fills
use Rattle.set_fill.proofs.fill_part.Given as goal

abbrev pub invariant-pushes : goal.invariant-pushes
invariant-pushes l = fills.Fills (one l.text) l.mode l.w (filled_from (one l.text) no_rows (chain_rest l.mode l.w l.close (tokens_at l.at))) l.set l.end l.cur

abbrev pub decreases-pushes : goal.decreases-pushes
decreases-pushes l = length l.w - l.cur.at
