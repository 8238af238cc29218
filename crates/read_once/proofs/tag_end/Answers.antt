use mathlib.Core.Path.{sym, ◌∙◌}
use Prim.Native.Nat.{◌-◌}
use native.Mathlib.Omega.{arith}
use borrow.Author.Rules.{rules}
use lib.ListN.{length}
use Rattle.base_letters.specs.Classes.{is_of}
use Rattle.read_once.specs.Inner.{tag_stop}
use Rattle.read_once.proofs.Tags as tags
use Rattle.read_once.proofs.tag_end.Reads as reads
use Rattle.read_once.proofs.tag_end.Lts as lts
use Rattle.base_letters.proofs.is_of.Reads as is-of-reads
use Rattle.read_once.proofs.tag_end.Goals as goal

-- src/lib.rt:296:5
pub loop-k-init : goal.loop-k-init
loop-k-init c = tags.start _ _ _

-- src/lib.rt:299:17
pub returns-then-size-eq8 : goal.returns-then-size-eq8
returns-then-size-eq8 c = tags.nine c.loop-k.invariant (omega arith) (sym c.is_of.ensures ∙ c.if-is_of.true) c.if-size-eq8.true

-- src/lib.rt:301:13
pub overflow_add-size : goal.overflow_add-size
overflow_add-size c = omega (arith, c.loop-k.invariant.few)

-- src/lib.rt:296:5
pub loop-k-preserved-then-is_of : goal.loop-k-preserved-then-is_of
loop-k-preserved-then-is_of c = tags.more c.loop-k.invariant (omega arith) (sym c.is_of.ensures ∙ c.if-is_of.true) c.if-size-eq8.false

-- src/lib.rt:306:13
pub returns-then-s-k-ne45 : goal.returns-then-s-k-ne45
returns-then-s-k-ne45 c = tags.other c.loop-k.invariant (omega arith) (sym c.is_of.ensures ∙ c.if-is_of.false) c.if-s-k-ne45.true

-- src/lib.rt:309:13
pub returns-then-size-eq0 : goal.returns-then-size-eq0
returns-then-size-eq0 c = tags.empty c.loop-k.invariant (omega arith) (sym c.is_of.ensures ∙ c.if-is_of.false) c.if-size-eq0.true

-- src/lib.rt:296:5
pub loop-k-preserved : goal.loop-k-preserved
loop-k-preserved c = tags.hyphen c.loop-k.invariant (omega arith) (sym c.is_of.ensures ∙ c.if-is_of.false) c.if-s-k-ne45.false c.if-size-eq0.false

-- src/lib.rt:291:1
pub returns : goal.returns
returns c = tags.end c.loop-k.invariant (omega arith)
