use mathlib.Core.Path.{ap}
use Prim.Native.Nat.{◌-◌}
use native.Mathlib.Omega.{arith}
use borrow.Author.Rules.{rules}
use lib.ListN.{length, drop}
use Rattle.block_faults.specs.Faults.{fault_from, fault_paper}
use Rattle.block_faults.proofs.Chains as laws
use Rattle.block_faults.proofs.chain_fault.Goals as goal

pub blocks-2-init : goal.blocks-2-init
blocks-2-init c = laws.chains_start _ _

pub slice_bounds-payload_test-count : goal.slice_bounds-payload_test-count
slice_bounds-payload_test-count c = omega (arith, laws.within c.blocks-2.invariant (omega (arith, c.if-s-i.false)) c.if-s-i-ne123.false c.find_close.ensures.value c.in-Some.is)

pub slice_bounds-payload_test-start : goal.slice_bounds-payload_test-start
slice_bounds-payload_test-start c = omega (arith, laws.within c.blocks-2.invariant (omega (arith, c.if-s-i.false)) c.if-s-i-ne123.false c.find_close.ensures.value c.in-Some.is)

pub slice_bounds-payload_test-end : goal.slice_bounds-payload_test-end
slice_bounds-payload_test-end c = omega (arith, laws.within c.blocks-2.invariant (omega (arith, c.if-s-i.false)) c.if-s-i-ne123.false c.find_close.ensures.value c.in-Some.is)

pub overflow_add-result : goal.overflow_add-result
overflow_add-result c = omega (arith, c.if-s-i.false)

pub overflow_add-result-in-Err : goal.overflow_add-result-in-Err
overflow_add-result-in-Err c =
    omega (arith, laws.within c.blocks-2.invariant (omega (arith, c.if-s-i.false)) c.if-s-i-ne123.false c.find_close.ensures.value c.in-Some.is, laws.short c.blocks-2.invariant (omega (arith, c.if-s-i.false)) c.if-s-i-ne123.false c.find_close.ensures.value c.in-Some.is c.payload_test.ensures.value c.in-Err.is)

pub overflow_add-i-in-Ok : goal.overflow_add-i-in-Ok
overflow_add-i-in-Ok c =
    omega (arith, laws.within c.blocks-2.invariant (omega (arith, c.if-s-i.false)) c.if-s-i-ne123.false c.find_close.ensures.value c.in-Some.is)

pub blocks-2-smaller : goal.blocks-2-smaller
blocks-2-smaller c =
    omega (arith, laws.within c.blocks-2.invariant (omega (arith, c.if-s-i.false)) c.if-s-i-ne123.false c.find_close.ensures.value c.in-Some.is)

pub blocks-2-preserved : goal.blocks-2-preserved
blocks-2-preserved c =
    laws.chains_on c.blocks-2.invariant (omega (arith, c.if-s-i.false)) c.if-s-i-ne123.false c.find_close.ensures.value c.in-Some.is c.payload_test.ensures.value c.in-Ok.is

pub returns-then-s-i : goal.returns-then-s-i
returns-then-s-i c = let z = laws.chains_end c.blocks-2.invariant (omega (arith, c.if-s-i.true)) in record { value = z; result_value = ap fault_paper z }

pub returns-then-s-i-ne123 : goal.returns-then-s-i-ne123
returns-then-s-i-ne123 c = let z = laws.chains_text c.blocks-2.invariant (omega (arith, c.if-s-i.false)) c.if-s-i-ne123.true in record { value = z; result_value = ap fault_paper z }

pub returns-in-None : goal.returns-in-None
returns-in-None c =
    let z = laws.chains_open c.blocks-2.invariant (omega (arith, c.if-s-i.false)) c.if-s-i-ne123.false c.find_close.ensures.value c.in-None.is in record { value = z; result_value = ap fault_paper z }

pub returns-in-Err : goal.returns-in-Err
returns-in-Err c =
    let z = laws.chains_wrong c.blocks-2.invariant (omega (arith, c.if-s-i.false)) c.if-s-i-ne123.false c.find_close.ensures.value c.in-Some.is c.payload_test.ensures.value c.in-Err.is in record { value = z; result_value = ap fault_paper z }
