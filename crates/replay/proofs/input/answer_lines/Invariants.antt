use Rattle.std.proofs.Common.{length, ◌-◌}
use Rattle.replay.proofs.input.answer_lines.Given as goal

abbrev pub decreases-loop-from : goal.decreases-loop-from
decreases-loop-from g l = length l.lines - l.from
