use Prim.Native.Nat.{◌-◌}
use native.Mathlib.Omega.{arith}
use lib.ListN.{length}
use borrow.Author.Rules.{rules}
use Rattle.set_columns.specs.Inner.{word_at}
use Rattle.set_columns.proofs.Laid as laws
use Rattle.set_columns.proofs.lists.words_over.Given as goal

abbrev pub invariant-pieces : goal.invariant-pieces
invariant-pieces l = laws.Lays (word_at l.vertical l.quoted l.s) l.quoted l.s l.initial.out l.out l.i l.at

abbrev pub decreases-pieces : goal.decreases-pieces
decreases-pieces l = length l.s - l.at
