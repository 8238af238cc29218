use Rattle.sheet_valves.specs.Pairs.{one_valve}
use borrow.Author.Rules.{rules}
use Rattle.sheet_valves.proofs.one_valve.Goals as goal

pub returns-in-None : goal.returns-in-None
unfolding one_valve
returns-in-None c = rw (c.in-None.is)

pub returns-in-None-b : goal.returns-in-None-b
unfolding one_valve
returns-in-None-b c = rw (c.in-Some.is, c.in-None-b.is)

pub returns-in-Some-b : goal.returns-in-Some-b
unfolding one_valve
returns-in-Some-b c = rw (c.in-Some.is, c.in-Some-b.is)
