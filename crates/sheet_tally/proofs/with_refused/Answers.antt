use mathlib.Core.Path.{◌∙◌, ap}
use native.Mathlib.Omega.{arith}
use Rattle.sheet_tally.proofs.Lows.{low_room}
use Rattle.sheet_tally.proofs.Counting as laws
use borrow.Author.Rules.{rules}
use Rattle.sheet_tally.proofs.with_refused.Goals as goal

pub add_at-requires : goal.add_at-requires
add_at-requires c = low_room c.requires 5 1 (omega arith) (omega arith)

pub returns-then-n-eq6 : goal.returns-then-n-eq6
returns-then-n-eq6 c = c.add_at.ensures ∙ ap (λ ns. record { numbers = ns }) (laws.by_six _ c.number-n.ensures c.if-n-eq6.true)

pub add_at-requires-then-n-eq7 : goal.add_at-requires-then-n-eq7
add_at-requires-then-n-eq7 c = low_room c.requires 6 1 (omega arith) (omega arith)

pub returns-then-n-eq7 : goal.returns-then-n-eq7
returns-then-n-eq7 c = c.add_at-then-n-eq7.ensures ∙ ap (λ ns. record { numbers = ns }) (laws.by_seven _ c.number-n.ensures c.if-n-eq6.false c.if-n-eq7.true)

pub add_at-requires-then-n-eq10 : goal.add_at-requires-then-n-eq10
add_at-requires-then-n-eq10 c = low_room c.requires 7 1 (omega arith) (omega arith)

pub returns-then-n-eq10 : goal.returns-then-n-eq10
returns-then-n-eq10 c = c.add_at-then-n-eq10.ensures ∙ ap (λ ns. record { numbers = ns }) (laws.by_ten _ c.number-n.ensures c.if-n-eq6.false c.if-n-eq7.false c.if-n-eq10.true)

pub returns : goal.returns
returns c = ap (λ ns. record { numbers = ns }) (laws.by_none _ c.number-n.ensures c.if-n-eq6.false c.if-n-eq7.false c.if-n-eq10.false)
