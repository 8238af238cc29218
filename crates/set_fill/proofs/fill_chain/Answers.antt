use Rattle.base_bytes.specs.Bytes.{is_letter, is_digit, within}
use Rattle.base_letters.specs.Classes.{class_of}
use Rattle.base_letters.proofs.Rule as rule
use native.Mathlib.Omega.{arith}
use Rattle.base_bytes.specs.declared.Mode.TheVariants.{Loose}
use Rattle.set_fill.proofs.Chains as chains
use Rattle.set_fill.proofs.Whole as whole
use Rattle.set_table.proofs.Numbers.{said}
use Rattle.set_fill.proofs.Numbers.{chain_no}
use borrow.Author.Rules.{rules}
use Rattle.set_fill.proofs.fill_chain.Goals as goal

pub returns-then-too_long : goal.returns-then-too_long
returns-then-too_long c = let a = c.args in said (chain_no _ _ _ _) (whole.line_too_long a.text.now a.from a.to Loose c.too_long.ensures c.if-too_long.true c.refusing.ensures.value)

pub overflow_add-from : goal.overflow_add-from
overflow_add-from c = let z = chains.goes c.next_block.ensures c.in-Closing.is in omega (arith, z.ahead, z.within)

pub fill_part-requires : goal.fill_part-requires
unfolding class_of is_letter is_digit within
fill_part-requires c =
    let z = chains.goes c.next_block.ensures c.in-Closing.is in
    let a = c.args in
    let short = whole.line_short a.text.now a.from a.to c.too_long.ensures c.if-too_long.false c.bytes_of-w.ensures in
    (omega (arith, z.ahead), omega (arith, z.within), omega (arith, short), rule.tells)

pub returns-in-Last : goal.returns-in-Last
returns-in-Last c =
    let a = c.args in said (chain_no _ _ _ _) (whole.no_block a.text.now a.from a.to c.too_long.ensures c.if-too_long.false c.bytes_of-w.ensures c.next_block.ensures c.in-Last.is c.refusing-in-Last.ensures.value)

pub returns-in-Unread : goal.returns-in-Unread
returns-in-Unread c =
    let a = c.args in said (chain_no _ _ _ _) (whole.unread a.text.now a.from a.to c.too_long.ensures c.if-too_long.false c.bytes_of-w.ensures c.next_block.ensures c.in-Unread.is c.refusing-in-Unread.ensures.value)

pub returns-in-Closing : goal.returns-in-Closing
returns-in-Closing c =
    let a = c.args in said (chain_no _ _ _ _) (whole.blocks a.text.now a.from a.to c.too_long.ensures c.if-too_long.false c.bytes_of-w.ensures
    c.next_block.ensures c.in-Closing.is c.fill_part.ensures)
