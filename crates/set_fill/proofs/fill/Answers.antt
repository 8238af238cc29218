use Rattle.base_bytes.specs.Bytes.{is_letter, is_digit, within}
use Rattle.base_letters.specs.Classes.{class_of}
use Rattle.base_letters.proofs.Rule as rule
use native.Mathlib.Omega.{arith}
use Rattle.set_fill.proofs.Whole as whole
use Rattle.set_table.proofs.Numbers.{said}
use Rattle.set_fill.proofs.Numbers.{fill_no}
use borrow.Author.Rules.{rules}
use Rattle.set_fill.proofs.fill.Goals as goal

pub returns-then-too_long : goal.returns-then-too_long
returns-then-too_long c = let a = c.args in said (fill_no _ _ _ _) (whole.too_long_lem a.mode a.text.now a.at a.end c.too_long.ensures c.if-too_long.true c.refusing.ensures.value)

pub returns-then-s-blank_end : goal.returns-then-s-blank_end
returns-then-s-blank_end c =
    let a = c.args in said (fill_no _ _ _ _) (whole.no_token a.mode a.text.now a.at a.end c.too_long.ensures c.if-too_long.false c.bytes_of-s.ensures c.blank_end.ensures (omega (arith, c.if-s-blank_end.true)) c.refusing-then-s-blank_end.ensures.value)

pub fill_part-requires : goal.fill_part-requires
unfolding class_of is_letter is_digit within
fill_part-requires c =
    let a = c.args in
    let short = whole.short a.mode a.text.now a.at a.end c.too_long.ensures c.if-too_long.false c.bytes_of-s.ensures in
    (omega (arith, c.blank_end.ensures, c.if-s-blank_end.false), omega (arith), omega (arith, short), rule.tells)

pub returns : goal.returns
returns c =
    let a = c.args in said (fill_no _ _ _ _) (whole.tokens a.mode a.text.now a.at a.end c.too_long.ensures c.if-too_long.false
    c.bytes_of-s.ensures c.blank_end.ensures (omega (arith, c.if-s-blank_end.false)) c.fill_part.ensures)
