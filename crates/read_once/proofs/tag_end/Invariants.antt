use mathlib.Core.Path.{sym, ◌∙◌}
use Prim.Native.Nat.{◌-◌}
use native.Mathlib.Omega.{arith}
use borrow.Author.Rules.{rules}
use lib.ListN.{length}
use Rattle.base_letters.specs.Classes.{is_of}
use Rattle.read_once.specs.Inner.{tag_stop}
use Rattle.read_once.proofs.Tags as tags
use Rattle.read_once.proofs.tag_end.Reads as reads
use Rattle.read_once.proofs.tag_end.Lts as lts
use Rattle.base_letters.proofs.is_of.Reads as is-of-reads
use Rattle.read_once.proofs.tag_end.Given as goal

abbrev pub invariant-loop-k : goal.invariant-loop-k
invariant-loop-k l = tags.TagRuns (is_of l.table 3) l.s (tag_stop (is_of l.table 3) l.s l.i) l.k l.size

abbrev pub decreases-loop-k : goal.decreases-loop-k
decreases-loop-k l = length l.s - l.k
