use mathlib.Core.Path.{ap}
use mathlib.Core.Bool.{not}
use mathlib.Core.Path.{sym, ◌∙◌}
use Prim.Native.Nat.{◌-◌}
use native.Mathlib.Omega.{arith}
use borrow.Author.Rules.{rules}
use borrow.Author.Tests.{not-true}
use lib.ListN.{length}
use Rattle.block_grammar.specs.Close.{fresh}
use Rattle.block_grammar.specs.ComputedClose.{find_close}
use Rattle.block_grammar.proofs.Close as close
use Rattle.block_close.proofs.Search as laws
use Rattle.read_once.proofs.Calm as calm
use Rattle.read_once.proofs.close_behind.Given as goal

abbrev pub invariant-bytes : goal.invariant-bytes
invariant-bytes l = close.Scans l.s (find_close l.s l.at) l.i fresh

abbrev pub decreases-bytes : goal.decreases-bytes
decreases-bytes l = length l.s - l.i
