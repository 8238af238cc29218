use mathlib.Core.Path.{sym, ◌∙◌}
use Rattle.sheet_valves.proofs.Pairs.{six}
use borrow.Author.Rules.{rules}
use Rattle.sheet_valves.proofs.row_repeats.Goals as goal

pub returns-then-same_valve : goal.returns-then-same_valve
returns-then-same_valve c = rw (six, sym (c.same_valve.ensures) ∙ c.if-same_valve.true)

pub returns-then-same_valve-2 : goal.returns-then-same_valve-2
returns-then-same_valve-2 c = rw (six, sym (c.same_valve.ensures) ∙ c.if-same_valve.false, sym (c.same_valve-2.ensures) ∙ c.if-same_valve-2.true)

pub returns-then-same_valve-3 : goal.returns-then-same_valve-3
returns-then-same_valve-3 c = rw (six, sym (c.same_valve.ensures) ∙ c.if-same_valve.false, sym (c.same_valve-2.ensures) ∙ c.if-same_valve-2.false, sym (c.same_valve-3.ensures) ∙ c.if-same_valve-3.true)

pub returns-then-same_valve-4 : goal.returns-then-same_valve-4
returns-then-same_valve-4 c = rw (six, sym (c.same_valve.ensures) ∙ c.if-same_valve.false, sym (c.same_valve-2.ensures) ∙ c.if-same_valve-2.false, sym (c.same_valve-3.ensures) ∙ c.if-same_valve-3.false, sym (c.same_valve-4.ensures) ∙ c.if-same_valve-4.true)

pub returns-then-same_valve-5 : goal.returns-then-same_valve-5
returns-then-same_valve-5 c = rw (six, sym (c.same_valve.ensures) ∙ c.if-same_valve.false, sym (c.same_valve-2.ensures) ∙ c.if-same_valve-2.false, sym (c.same_valve-3.ensures) ∙ c.if-same_valve-3.false, sym (c.same_valve-4.ensures) ∙ c.if-same_valve-4.false, sym (c.same_valve-5.ensures) ∙ c.if-same_valve-5.true)

pub returns : goal.returns
returns c = rw (six, sym (c.same_valve.ensures) ∙ c.if-same_valve.false, sym (c.same_valve-2.ensures) ∙ c.if-same_valve-2.false, sym (c.same_valve-3.ensures) ∙ c.if-same_valve-3.false, sym (c.same_valve-4.ensures) ∙ c.if-same_valve-4.false, sym (c.same_valve-5.ensures) ∙ c.if-same_valve-5.false) (c.same_valve-6.ensures)
