use Rattle.base_bytes.specs.declared.Mode.TheVariants.{Loose}
use native.Mathlib.Omega.{arith}
use Rattle.block_tokens.proofs.Payload.{yes_or_no}
use Rattle.block_chain.proofs.Good as good
use borrow.Author.Rules.{rules}
use Rattle.block_chain.proofs.block_close.Goals as goal

pub returns-then-s-i-ne123 : goal.returns-then-s-i-ne123
returns-then-s-i-ne123 c = good.no_brace _ _ _ c.requires c.if-s-i-ne123.true

pub slice_bounds-payload_test-count : goal.slice_bounds-payload_test-count
slice_bounds-payload_test-count c = omega (arith, good.within Loose _ _ c.requires c.if-s-i-ne123.false c.find_close.ensures.value c.in-Some.is)

pub slice_bounds-payload_test-start : goal.slice_bounds-payload_test-start
slice_bounds-payload_test-start c =
    omega (arith, good.within Loose _ _ c.requires c.if-s-i-ne123.false c.find_close.ensures.value c.in-Some.is)

pub slice_bounds-payload_test-end : goal.slice_bounds-payload_test-end
slice_bounds-payload_test-end c = omega (arith, good.within Loose _ _ c.requires c.if-s-i-ne123.false c.find_close.ensures.value c.in-Some.is)

pub returns-then-is_whole : goal.returns-then-is_whole
returns-then-is_whole c =
    good.good_payload _ _ _ c.requires c.if-s-i-ne123.false c.find_close.ensures.value c.in-Some.is (yes_or_no _ _ c.payload_test.ensures.value c.is_whole.ensures) c.if-is_whole.true

pub returns-in-None : goal.returns-in-None
returns-in-None c = good.no_close _ _ _ c.requires c.if-s-i-ne123.false c.find_close.ensures.value c.in-None.is

pub returns-else-is_whole : goal.returns-else-is_whole
returns-else-is_whole c =
    good.bad_payload _ _ _ c.requires c.if-s-i-ne123.false c.find_close.ensures.value c.in-Some.is (yes_or_no _ _ c.payload_test.ensures.value c.is_whole.ensures) c.if-is_whole.false
