use Rattle.set_merge.proofs.first_id.Goals as goal

pub returns-then-given : goal.returns-then-given
returns-then-given c = rw c.if-given.true

pub returns : goal.returns
returns c = rw c.if-given.false
