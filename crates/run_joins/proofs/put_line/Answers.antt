use native.Mathlib.Omega.{arith}
use Rattle.run_joins.proofs.Steps as laws
use borrow.Author.Rules.{rules}
use Rattle.run_joins.proofs.put_line.Goals as goal

pub returns-then-len-eq0 : goal.returns-then-len-eq0
returns-then-len-eq0 c = let r = laws.put_first c.args.join.now c.args.len c.args.core.now c.if-len-eq0.true c.put_bytes.ensures in record { value = r.0; join_after = r.1 }

pub bounds-join-len : goal.bounds-join-len
bounds-join-len c =
    omega (arith, laws.room_later c.args.join.now c.args.len c.args.core.now c.if-len-eq0.false c.requires)

pub overflow_add-result-2 : goal.overflow_add-result-2
overflow_add-result-2 c = omega (arith, laws.room_later c.args.join.now c.args.len c.args.core.now c.if-len-eq0.false c.requires)

pub shape_of-join : goal.shape_of-join
shape_of-join c = laws.same_length c.args.join.now c.args.len c.args.core.now c.put_bytes-2.ensures

pub returns : goal.returns
returns c = let r = laws.put-later c.args.join.now c.args.len c.args.core.now c.if-len-eq0.false c.put_bytes-2.ensures in record { value = r.0; join_after = r.1 }
