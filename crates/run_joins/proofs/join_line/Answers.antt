use mathlib.Core.Path.{sym, ◌∙◌}
use native.Mathlib.Omega.{arith}
use borrow.Author.Tests.{not-true, not-false}
use Rattle.run_joins.proofs.Steps as laws
use borrow.Author.Rules.{rules}
use Rattle.run_joins.proofs.join_line.Goals as goal

pub slice_bounds-core-count : goal.slice_bounds-core-count
slice_bounds-core-count c = laws.core_from (c.args.line.now) (c.trim_ascii-r.ensures)

pub slice_bounds-core-start : goal.slice_bounds-core-start
slice_bounds-core-start c =
    omega (arith, laws.core_from (c.args.line.now) (c.trim_ascii-r.ensures), laws.core_to (c.args.line.now) (c.trim_ascii-r.ensures))

pub slice_bounds-core-end : goal.slice_bounds-core-end
slice_bounds-core-end c = omega (arith, laws.core_to (c.args.line.now) (c.trim_ascii-r.ensures))

pub passes_tests-requires : goal.passes_tests-requires
passes_tests-requires c = laws.core_is (c.args.line.now) (c.trim_ascii-r.ensures)

pub returns-then-not-passes_tests : goal.returns-then-not-passes_tests
returns-then-not-passes_tests c = let r = laws.step_broken c.args.st c.args.pad c.args.line.now c.args.join.now (sym (c.if-not-passes_tests.true) ∙ c.passes_tests.ensures) in record { value = r.0; join_after = r.1.0; result_value = r.1.1 }

pub returns-then-lacks_room : goal.returns-then-lacks_room
returns-then-lacks_room c = let r = laws.step_full c.args.st c.args.pad c.args.line.now c.args.join.now (sym (c.if-not-passes_tests.false) ∙ c.passes_tests.ensures) (laws.core_is c.args.line.now c.trim_ascii-r.ensures) (sym c.if-lacks_room.true ∙ c.lacks_room.ensures) in record { value = r.0; join_after = r.1.0; result_value = r.1.1 }

pub put_line-len-requires : goal.put_line-len-requires
put_line-len-requires c =
    laws.step_room c.args.st c.args.pad c.args.line.now c.args.join.now (sym (c.if-not-passes_tests.false) ∙ c.passes_tests.ensures) (laws.core_is c.args.line.now c.trim_ascii-r.ensures) (sym c.if-lacks_room.false ∙ c.lacks_room.ensures)

pub state_after-next-requires : goal.state_after-next-requires
state_after-next-requires c = laws.core_is c.args.line.now c.trim_ascii-r.ensures

pub returns-then-is_last : goal.returns-then-is_last
returns-then-is_last c = let r = laws.step_closes c.args.st c.args.pad c.args.line.now c.args.join.now (sym (c.if-not-passes_tests.false) ∙ c.passes_tests.ensures)
    (laws.core_is c.args.line.now c.trim_ascii-r.ensures) (sym c.if-lacks_room.false ∙ c.lacks_room.ensures) (c.put_line-len.ensures.value, c.put_line-len.ensures.join_after) c.state_after-next.ensures
    (sym c.if-is_last.true ∙ c.is_last.ensures) in record { value = r.0; join_after = r.1.0; result_value = r.1.1 }

pub returns : goal.returns
returns c = let r = laws.step_go c.args.st c.args.pad c.args.line.now c.args.join.now (sym (c.if-not-passes_tests.false) ∙ c.passes_tests.ensures)
    (laws.core_is c.args.line.now c.trim_ascii-r.ensures) (sym c.if-lacks_room.false ∙ c.lacks_room.ensures) (c.put_line-len.ensures.value, c.put_line-len.ensures.join_after) c.state_after-next.ensures
    (sym c.if-is_last.false ∙ c.is_last.ensures) in record { value = r.0; join_after = r.1.0; result_value = r.1.1 }
