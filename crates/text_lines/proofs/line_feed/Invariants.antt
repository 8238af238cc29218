use Rattle.text_lines.proofs.Lines as laws
use Rattle.text_lines.proofs.line_feed.Given as goal

abbrev pub invariant-loop-i : goal.invariant-loop-i
invariant-loop-i l = laws.Feeds l.text l.at l.i
