use mathlib.Core.Path.{sym}
use native.Mathlib.Omega.{arith}
use Rattle.set_fill.proofs.Chains as chains
use borrow.Author.Rules.{rules}
use Rattle.set_fill.proofs.next_block.Goals as goal

pub returns-then-w-i-ne123 : goal.returns-then-w-i-ne123
returns-then-w-i-ne123 c = chains.no_brace _ _ _ (omega (arith, c.if-w-i.false)) c.if-w-i-ne123.true

pub slice_bounds-blank_end-end : goal.slice_bounds-blank_end-end
slice_bounds-blank_end-end c =
    sym (chains.closed c.args.mode _ _ (omega (arith, c.if-w-i.false)) c.if-w-i-ne123.false c.find_close.ensures.value c.in-Some.is)

pub returns-then-e-blank_end : goal.returns-then-e-blank_end
returns-then-e-blank_end c =
    chains.no_token _ _ _ (omega (arith, c.if-w-i.false)) c.if-w-i-ne123.false c.find_close.ensures.value c.in-Some.is c.blank_end.ensures (omega (arith, c.if-e-blank_end.true))

pub returns-in-None : goal.returns-in-None
returns-in-None c = chains.no_close _ _ _ (omega (arith, c.if-w-i.false)) c.if-w-i-ne123.false c.find_close.ensures.value c.in-None.is

pub returns-else-e-blank_end : goal.returns-else-e-blank_end
returns-else-e-blank_end c =
    chains.token _ _ _ (omega (arith, c.if-w-i.false)) c.if-w-i-ne123.false c.find_close.ensures.value c.in-Some.is c.blank_end.ensures (omega (arith, c.if-e-blank_end.false))
