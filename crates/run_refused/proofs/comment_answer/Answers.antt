use Rattle.run_refused.proofs.comment_answer.Goals as goal

pub returns-then-shallow : goal.returns-then-shallow
returns-then-shallow c = rw (c.if-shallow.true)

pub returns : goal.returns
returns c = rw (c.if-shallow.false)
