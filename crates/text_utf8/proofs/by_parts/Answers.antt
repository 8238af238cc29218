use mathlib.Core.Path.{ap}
use mathlib.Core.Bool.{not}
use native.Mathlib.Omega.{arith}
use Rattle.text_utf8.proofs.Pieces as laws
use mathlib.Core.Path.{sym}
use Prim.Native.Nat.{◌-◌, ◌≤◌}
use lib.ListN.{length}
use Rattle.text_utf8.specs.Inner.{Fits}
use Rattle.text_utf8.proofs.by_parts.Goals as goal

pub parts-init : goal.parts-init
parts-init c = (c.requires.1, c.requires.2)

pub whole-requires : goal.whole-requires
whole-requires c = (omega arith, omega arith)

pub returns-then-not-whole : goal.returns-then-not-whole
returns-then-not-whole c = sym (laws.open_ascii c.parts.invariant.1 (laws.is_open c.whole.ensures (ap not c.if-not-whole.true)) (laws.ascii_of c.wides.ensures c.if-wides-eq0.true (omega arith) (omega arith) (omega arith)) (omega arith))

pub past_parts-k-requires : goal.past_parts-k-requires
past_parts-k-requires c = c.past_blocks.ensures.inside

pub parts-smaller-then-wides-eq0 : goal.parts-smaller-then-wides-eq0
parts-smaller-then-wides-eq0 c = omega (arith, c.past_blocks.ensures.onward, c.past_parts-k.ensures.onward, c.past_parts-k.ensures.inside)

pub parts-preserved-then-wides-eq0 : goal.parts-preserved-then-wides-eq0
parts-preserved-then-wides-eq0 c =
    (omega (arith, c.past_blocks.ensures.onward, c.past_parts-k.ensures.onward), laws.fits_ascii c.parts.invariant.1 (laws.is_whole c.whole.ensures (ap not c.if-not-whole.false)) (laws.ascii_all c.wides.ensures c.if-wides-eq0.true (omega arith) c.past_blocks.ensures c.past_parts-k.ensures))

pub faults-requires : goal.faults-requires
faults-requires c = (omega arith, omega arith)

pub returns-then-faults-ne0 : goal.returns-then-faults-ne0
returns-then-faults-ne0 c = laws.judged_fails c.faults.ensures c.if-faults-ne0.true

pub parts-preserved : goal.parts-preserved
parts-preserved c = (omega arith, laws.fits_on c.parts.invariant.1 c.faults.ensures c.if-faults-ne0.false (omega arith) (omega arith))

pub ends-requires : goal.ends-requires
ends-requires c = (c.requires.0, omega arith, c.parts.invariant.1)

pub returns : goal.returns
returns c = c.ends.ensures
