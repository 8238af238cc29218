use Rattle.sheet_tally.proofs.Lows.{low_room, low_added, low_printed}
use Rattle.sheet_tally.proofs.Counting as laws
use Rattle.sheet_tally.proofs.Lows.{low_room, low_added}
use native.Mathlib.Omega.{arith}
use borrow.Author.Rules.{rules}
use Rattle.sheet_tally.proofs.with_printed.Goals as goal

pub add_at-a-requires : goal.add_at-a-requires
add_at-a-requires c = low_room c.requires 1 1 (omega arith) (omega arith)

pub add_at-b-requires : goal.add_at-b-requires
add_at-b-requires c = low_room (low_added c.requires 1 1 1 (omega arith) c.add_at-a.ensures) 2 c.wrapped_one.result (omega arith) (omega (arith, laws.one_le c.args.lines c.wrapped_one.ensures))

pub add_at-c-requires : goal.add_at-c-requires
add_at-c-requires c = low_room (low_added (low_added c.requires 1 1 1 (omega arith) c.add_at-a.ensures) 2 c.wrapped_one.result 1 (laws.one_le c.args.lines c.wrapped_one.ensures) c.add_at-b.ensures) 8 c.args.classes (omega arith) (omega (arith, c.ranges))

pub add_at-d-requires : goal.add_at-d-requires
add_at-d-requires c = low_room (low_added (low_added (low_added c.requires 1 1 1 (omega arith) c.add_at-a.ensures) 2 c.wrapped_one.result 1 (laws.one_le c.args.lines c.wrapped_one.ensures) c.add_at-b.ensures) 8 c.args.classes 255 (omega (arith, c.ranges)) c.add_at-c.ensures) 9 c.args.keys (omega arith) (omega (arith, c.ranges))

pub returns : goal.returns
returns c =
    let made = laws.printed_by c.args.lines c.args.classes c.args.keys c.args.totals.numbers c.add_at-a.ensures c.wrapped_one.ensures c.add_at-b.ensures c.add_at-c.ensures c.add_at-d.ensures c.raise_longest.ensures in record { value = made; lows = λ k h. low_printed h c.args.lines c.args.classes c.args.keys (omega (arith, c.ranges)) (omega (arith, c.ranges)) made }
