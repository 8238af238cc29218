use Rattle.block_payloads.proofs.Lines as laws
use Rattle.block_payloads.proofs.behind_last.Given as goal

abbrev pub invariant-loop-i : goal.invariant-loop-i
invariant-loop-i l = laws.Behinds l.s l.best l.i
