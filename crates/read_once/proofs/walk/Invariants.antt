use mathlib.Core.Path.{◌∙◌}
use Prim.Native.Nat.{◌-◌}
use native.Mathlib.Omega.{arith}
use borrow.Author.Rules.{rules}
use lib.ListN.{length}
use Rattle.set_table.proofs.Holding as holding
use Rattle.read_once.specs.Inner.{Walks}
use Rattle.read_once.proofs.Arms as arms
use Rattle.read_once.proofs.Loop as loop
use Rattle.read_once.proofs.walk.Reads as reads
use Rattle.read_once.proofs.walk.Lts as lts
use Rattle.read_once.proofs.is_next.Reads as is-next-reads
use Rattle.read_once.proofs.name_of.Reads as name-of-reads
use Rattle.read_once.proofs.next_move.Reads as next-move-reads
use Rattle.read_once.proofs.refused.Reads as refused-reads
use Rattle.read_once.proofs.spoken.Reads as spoken-reads
use Rattle.read_once.proofs.tag_passes.Reads as tag-passes-reads
use Rattle.read_once.proofs.unread.Reads as unread-reads
use Rattle.read_once.proofs.value_of.Reads as value-of-reads
use Rattle.read_once.proofs.verdict.Reads as verdict-reads
use Rattle.set_table.proofs.Attrs.empty.Reads as empty-reads
use Rattle.set_table.proofs.find_key.Reads as find-key-reads
use borrow.Enum.Refused as refused
use Rattle.read_once.proofs.walk.Given as goal

abbrev pub invariant-moves : goal.invariant-moves
invariant-moves l =
    Walks l.mode l.text l.place l.set l.some l.many l.over l.last l.kind l.at l.to l.next

abbrev pub decreases-moves : goal.decreases-moves
decreases-moves l =
    length l.text - l.at
