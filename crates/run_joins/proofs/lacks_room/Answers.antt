use Rattle.run_joins.proofs.Steps as laws
use Rattle.run_joins.proofs.lacks_room.Goals as goal

pub returns-then-len-eq0 : goal.returns-then-len-eq0
returns-then-len-eq0 c = laws.lacks_first (c.args.cap) (c.args.len) (c.args.core.now) (c.if-len-eq0.true)

pub returns-then-cap-len : goal.returns-then-cap-len
returns-then-cap-len c = laws.lacks_before (c.args.cap) (c.args.len) (c.args.core.now) (c.if-len-eq0.false) (c.if-cap-len.true)

pub returns : goal.returns
returns c = laws.lacks_behind (c.args.cap) (c.args.len) (c.args.core.now) (c.if-len-eq0.false) (c.if-cap-len.false)
