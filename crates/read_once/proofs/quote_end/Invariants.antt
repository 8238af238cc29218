use mathlib.Core.Path.{ap}
use mathlib.Core.Bool.{not}
use mathlib.Core.Path.{sym, ◌∙◌}
use Prim.Native.Nat.{◌-◌}
use native.Mathlib.Omega.{arith}
use borrow.Author.Rules.{rules}
use borrow.Author.Tests.{not-true}
use lib.ListN.{length}
use Rattle.block_close.proofs.Search as scans
use Rattle.read_once.proofs.Quote as laws
use Rattle.read_once.proofs.quote_end.Given as goal

abbrev pub invariant-bytes : goal.invariant-bytes
invariant-bytes l = laws.Quoting l.s l.q l.i l.k

abbrev pub decreases-bytes : goal.decreases-bytes
decreases-bytes l = length l.s - l.k
