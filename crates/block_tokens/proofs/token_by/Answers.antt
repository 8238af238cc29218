use mathlib.Core.Path.{refl, ◌∙◌}
use native.Mathlib.Omega.{arith}
use Rattle.base_refusals.proofs.Said.{said}
use Rattle.block_tokens.specs.Shown.{token_paper}
use Rattle.block_tokens.specs.Lent.{tests_of}
use Rattle.block_tokens.proofs.Lent as lent
use borrow.Author.Rules.{rules}
use Rattle.block_tokens.proofs.token_by.Goals as goal

pub returns-then-s-i : goal.returns-then-s-i
returns-then-s-i c =
    let a = c.args in
    said token_paper refl (lent.past_end (tests_of a.table.now) a.mode a.s.now a.i c.if-s-i.true)

pub returns-in-58 : goal.returns-in-58
returns-in-58 c =
    let a = c.args in
    said token_paper refl (c.tag_token.ensures ∙ lent.at_colon (tests_of a.table.now) a.mode a.s.now a.i (omega arith) c.in-58.is)

pub returns-in-35 : goal.returns-in-35
returns-in-35 c =
    let a = c.args in
    said token_paper refl (c.id_token.ensures ∙ lent.at_hash (tests_of a.table.now) a.mode a.s.now a.i (omega arith) c.in-35.is)

pub returns-in-46 : goal.returns-in-46
returns-in-46 c =
    let a = c.args in
    said token_paper refl (c.class_token.ensures ∙ lent.at_dot (tests_of a.table.now) a.mode a.s.now a.i (omega arith) c.in-46.is)

pub returns-in_default : goal.returns-in_default
returns-in_default c =
    let a = c.args in
    said token_paper refl (c.name_token.ensures ∙ lent.at_other (tests_of a.table.now) a.mode a.s.now a.i (omega arith) c.in_default.in_default-own.rest.0.0.1 c.in_default.in_default-own.rest.0.1 c.in_default.in_default-own.rest.1)
