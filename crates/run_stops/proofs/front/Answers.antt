use mathlib.Core.Path.{sym}
use native.Mathlib.Omega.{arith}
use lib.Seq.{take_all, length-take-le}
use borrow.Author.Rules.{rules}
use Rattle.run_stops.proofs.front.Reads as reads
use Rattle.run_stops.proofs.front.Lts as lts
use Rattle.run_stops.proofs.front.Goals as goal

-- src/lib.rt:179:9
pub slice_bounds-result-end : goal.slice_bounds-result-end
slice_bounds-result-end c = sym (length-take-le c.args.to c.args.text.now (omega (arith, c.if-to-text.true)))

-- src/lib.rt:175:1
pub returns : goal.returns
returns c = sym (take_all c.args.to c.args.text.now (omega (arith, c.if-to-text.false)))
