use mathlib.Core.Path.{sym, ◌∙◌}
use native.Mathlib.Omega.{arith}
use Rattle.block_tokens.proofs.Lent as lent
use Rattle.set_fill.proofs.Walk as walk
use borrow.Author.Rules.{rules}
use Rattle.set_fill.proofs.token_push.Goals as goal

pub returns-then-s-a : goal.returns-then-s-a
returns-then-s-a c =
    let a = c.args in walk.at_end a.mode a.s.now (omega (arith, c.requires)) c.blank_end-a.ensures c.if-s-a.true

pub value_of-requires : goal.value_of-requires
value_of-requires c =
    let a = c.args in omega (arith, c.requires, walk.lies a.mode a.s.now (omega (arith, c.requires)) c.blank_end-a.ensures _ (sym c.in-Tag.is ∙ lent.told c.requires.2 _ _ _ c.token_by.ensures.value))

pub value_of-requires-in-Id : goal.value_of-requires-in-Id
value_of-requires-in-Id c =
    let a = c.args in omega (arith, c.requires, walk.lies a.mode a.s.now (omega (arith, c.requires)) c.blank_end-a.ensures _ (sym c.in-Id.is ∙ lent.told c.requires.2 _ _ _ c.token_by.ensures.value))

pub value_of-requires-in-Class : goal.value_of-requires-in-Class
value_of-requires-in-Class c =
    let a = c.args in omega (arith, c.requires, walk.lies a.mode a.s.now (omega (arith, c.requires)) c.blank_end-a.ensures _ (sym c.in-Class.is ∙ lent.told c.requires.2 _ _ _ c.token_by.ensures.value))

pub overflow_add-k : goal.overflow_add-k
overflow_add-k c =
    let a = c.args in omega (arith, c.requires, walk.lies a.mode a.s.now (omega (arith, c.requires)) c.blank_end-a.ensures _ (sym c.in-Plain.is ∙ lent.told c.requires.2 _ _ _ c.token_by.ensures.value))

pub named_push-requires : goal.named_push-requires
named_push-requires c =
    let a = c.args in rw c.value_at.ensures (omega (arith, c.requires, walk.lies a.mode a.s.now (omega (arith, c.requires)) c.blank_end-a.ensures _ (sym c.in-Plain.is ∙ lent.told c.requires.2 _ _ _ c.token_by.ensures.value)))

pub overflow_add-k-in-Quoted : goal.overflow_add-k-in-Quoted
overflow_add-k-in-Quoted c =
    let a = c.args in omega (arith, c.requires, walk.lies a.mode a.s.now (omega (arith, c.requires)) c.blank_end-a.ensures _ (sym c.in-Quoted.is ∙ lent.told c.requires.2 _ _ _ c.token_by.ensures.value))

pub overflow_sub-e : goal.overflow_sub-e
overflow_sub-e c =
    let a = c.args in omega (arith, c.requires, walk.lies a.mode a.s.now (omega (arith, c.requires)) c.blank_end-a.ensures _ (sym c.in-Quoted.is ∙ lent.told c.requires.2 _ _ _ c.token_by.ensures.value))

pub named_push-requires-in-Quoted : goal.named_push-requires-in-Quoted
named_push-requires-in-Quoted c =
    let a = c.args in rw c.value_at-in-Quoted.ensures (omega (arith, c.requires, walk.lies a.mode a.s.now (omega (arith, c.requires)) c.blank_end-a.ensures _ (sym c.in-Quoted.is ∙ lent.told c.requires.2 _ _ _ c.token_by.ensures.value)))

pub named_push-requires-in-Bare : goal.named_push-requires-in-Bare
named_push-requires-in-Bare c =
    let a = c.args in rw c.value_at-in-Bare.ensures (omega (arith, c.requires, walk.lies a.mode a.s.now (omega (arith, c.requires)) c.blank_end-a.ensures _ (sym c.in-Bare.is ∙ lent.told c.requires.2 _ _ _ c.token_by.ensures.value)))

pub returns-in-Bad : goal.returns-in-Bad
returns-in-Bad c =
    let a = c.args in walk.bad a.mode a.s.now (omega (arith, c.requires)) c.blank_end-a.ensures c.if-s-a.false (sym c.in-Bad.is ∙ lent.told c.requires.2 _ _ _ c.token_by.ensures.value)

pub returns-in-Tag : goal.returns-in-Tag
returns-in-Tag c =
    let a = c.args in walk.tag a.mode a.s.now (omega (arith, c.requires)) c.blank_end-a.ensures c.value_of.ensures c.before_tokens.ensures (sym c.in-Tag.is ∙ lent.told c.requires.2 _ _ _ c.token_by.ensures.value)

pub returns-in-Id : goal.returns-in-Id
returns-in-Id c =
    let a = c.args in walk.id a.mode a.s.now (omega (arith, c.requires)) c.blank_end-a.ensures c.value_of-in-Id.ensures c.before_tokens-in-Id.ensures (sym c.in-Id.is ∙ lent.told c.requires.2 _ _ _ c.token_by.ensures.value)

pub returns-in-Class : goal.returns-in-Class
returns-in-Class c =
    let a = c.args in walk.class a.mode a.s.now (omega (arith, c.requires)) c.blank_end-a.ensures c.value_of-in-Class.ensures c.before_tokens-in-Class.ensures (sym c.in-Class.is ∙ lent.told c.requires.2 _ _ _ c.token_by.ensures.value)

pub returns-in-Plain : goal.returns-in-Plain
returns-in-Plain c =
    let a = c.args in walk.plain a.mode a.s.now (omega (arith, c.requires)) c.blank_end-a.ensures (sym c.in-Plain.is ∙ lent.told c.requires.2 _ _ _ c.token_by.ensures.value) c.value_at.ensures (c.named_push.ensures a.mode)

pub returns-in-Quoted : goal.returns-in-Quoted
returns-in-Quoted c =
    let a = c.args in walk.quoted a.mode a.s.now (omega (arith, c.requires)) c.blank_end-a.ensures (sym c.in-Quoted.is ∙ lent.told c.requires.2 _ _ _ c.token_by.ensures.value) c.value_at-in-Quoted.ensures (c.named_push-in-Quoted.ensures a.mode)

pub returns-in-Bare : goal.returns-in-Bare
returns-in-Bare c =
    let a = c.args in walk.bare a.mode a.s.now (omega (arith, c.requires)) c.blank_end-a.ensures (sym c.in-Bare.is ∙ lent.told c.requires.2 _ _ _ c.token_by.ensures.value) c.value_at-in-Bare.ensures (c.named_push-in-Bare.ensures a.mode)
