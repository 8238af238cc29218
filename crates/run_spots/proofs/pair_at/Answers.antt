use native.Mathlib.Omega.{arith}
use Rattle.run_spots.proofs.Leaves as laws
use borrow.Author.Rules.{rules}
use Rattle.run_spots.proofs.pair_at.Goals as goal

pub returns-then-s-i-lt2 : goal.returns-then-s-i-lt2
returns-then-s-i-lt2 c = laws.pair_few c.args.s.now c.args.i c.args.b c.args.c (c.if-s-i-lt2.true)

pub returns-then-s-i : goal.returns-then-s-i
returns-then-s-i c =
    laws.pair_not c.args.s.now c.args.i c.args.b c.args.c (omega arith) (c.if-s-i.true)

pub returns : goal.returns
returns c = laws.pair_is c.args.s.now c.args.i c.args.b c.args.c (omega arith) c.if-s-i.false
