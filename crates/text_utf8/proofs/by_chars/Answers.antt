use native.Mathlib.Omega.{arith}
use Rattle.text_utf8.proofs.Laws as laws
use Prim.Native.Nat.{◌-◌}
use lib.ListN.{length}
use Rattle.text_utf8.specs.Inner.{Same}
use Rattle.text_utf8.proofs.by_chars.Goals as goal

pub chars-init : goal.chars-init
chars-init c = laws.ascii_same c.past_parts-k.ensures

pub chars-preserved-then-s-k-le127 : goal.chars-preserved-then-s-k-le127
chars-preserved-then-s-k-le127 c = laws.same_low c.chars.invariant (omega arith) (omega arith)

pub past_wide-k-requires : goal.past_wide-k-requires
past_wide-k-requires c = (omega arith, omega arith)

pub returns-then-k-eq0 : goal.returns-then-k-eq0
returns-then-k-eq0 c = laws.whole_fails c.chars.invariant c.past_wide-k.ensures c.if-k-eq0.true

pub chars-smaller : goal.chars-smaller
chars-smaller c = omega (arith, (c.past_wide-k.ensures.on (omega arith)).0)

pub chars-preserved : goal.chars-preserved
chars-preserved c = laws.same_on c.chars.invariant c.past_wide-k.ensures (omega arith)

pub returns : goal.returns
returns c = laws.whole_end c.chars.invariant (omega arith)
