use Rattle.text_utf8.specs.Inner.{Ascii}
use Rattle.text_utf8.proofs.past_parts.Given as goal

abbrev pub invariant-loop-k : goal.invariant-loop-k
invariant-loop-k l = Ascii l.s l.i l.k
