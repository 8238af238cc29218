use Rattle.text_utf8.proofs.Laws as laws
use Rattle.text_utf8.proofs.char_count.Given as goal

abbrev pub invariant-loop-b : goal.invariant-loop-b
invariant-loop-b l = laws.Counts l.s l.n l.b-index
