use Rattle.text_utf8.specs.Inner.{Lows}
use Rattle.text_utf8.proofs.wides.Given as goal

abbrev pub invariant-loop-k : goal.invariant-loop-k
invariant-loop-k l = Lows l.s l.i l.k l.m
