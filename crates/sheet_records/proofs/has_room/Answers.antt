use native.Mathlib.Omega.{arith}
use Rattle.sheet_records.proofs.Lines as laws
use borrow.Author.Rules.{rules}
use Rattle.sheet_records.proofs.has_room.Goals as goal

pub returns-then-size-at : goal.returns-then-size-at
returns-then-size-at c = let a = c.args in laws.room_past a.size a.at a.n a.m a.given c.if-size-at.true

pub returns-then-room-n : goal.returns-then-room-n
returns-then-room-n c = let a = c.args in laws.room_few a.size a.at a.n a.m a.given (omega (arith, c.if-room-n.true))

pub returns-then-room-n-lt2 : goal.returns-then-room-n-lt2
returns-then-room-n-lt2 c = let a = c.args in laws.room_tab a.size a.at a.n a.m a.given c.if-given.true (omega (arith, c.if-room-n-lt2.true))

pub returns-then-given : goal.returns-then-given
returns-then-given c = let a = c.args in laws.room_id a.size a.at a.n a.m a.given c.if-given.true (omega (arith, c.if-room-n-lt2.false))

pub returns : goal.returns
returns c = let a = c.args in laws.room_lf a.size a.at a.n a.m a.given c.if-given.false (omega (arith, c.if-room-n.false))
