use native.Mathlib.Omega.{arith}
use Rattle.set_items.proofs.Slots as laws
use Rattle.set_items.proofs.only.Goals as goal

pub returns-then-n-eq0 : goal.returns-then-n-eq0
returns-then-n-eq0 c = laws.one-here _ c.args.n (omega arith)

pub returns : goal.returns
returns c = laws.one_past _ c.args.n (omega arith)
