use mathlib.Core.Path.{refl, sym, ◌∙◌}
use native.Mathlib.Omega.{arith}
use Rattle.block_tokens.proofs.Lent as lent
use Rattle.block_tokens.proofs.Steps as steps
use Rattle.read_tags.specs.Tagged.{lang_of}
use Rattle.read_tags.proofs.Langs as langs
use borrow.Author.Rules.{rules}
use Rattle.read_tags.proofs.token_told.Goals as goal

pub returns-then-s-a : goal.returns-then-s-a
returns-then-s-a c =
    let a = c.args in langs.at_end a.mode a.s.now c.requires.0 c.blank_end-a.ensures a.before c.if-s-a.true

pub plain_passes-requires : goal.plain_passes-requires
plain_passes-requires c =
    (steps.spans c.args.mode c.args.s.now _ (sym c.in-Plain.is ∙ lent.told c.requires.1 _ _ _ c.token_by.ensures.value)).2

pub quoted_passes-requires : goal.quoted_passes-requires
quoted_passes-requires c =
    (steps.spans c.args.mode c.args.s.now _ (sym c.in-Quoted.is ∙ lent.told c.requires.1 _ _ _ c.token_by.ensures.value)).2

pub returns-in-Bad : goal.returns-in-Bad
returns-in-Bad c =
    let a = c.args in langs.bad a.mode a.s.now c.requires.0 c.blank_end-a.ensures a.before c.if-s-a.false (sym c.in-Bad.is ∙ lent.told c.requires.1 _ _ _ c.token_by.ensures.value)

pub returns-in-Tag : goal.returns-in-Tag
returns-in-Tag c =
    let a = c.args in langs.goes a.mode a.s.now c.requires.0 c.blank_end-a.ensures a.before (sym c.in-Tag.is ∙ lent.told c.requires.1 _ _ _ c.token_by.ensures.value) refl refl (c.tag_passes.ensures a.before)

pub returns-in-Id : goal.returns-in-Id
unfolding lang_of
returns-in-Id c =
    let a = c.args in langs.goes a.mode a.s.now c.requires.0 c.blank_end-a.ensures a.before (sym c.in-Id.is ∙ lent.told c.requires.1 _ _ _ c.token_by.ensures.value) refl refl refl

pub returns-in-Class : goal.returns-in-Class
unfolding lang_of
returns-in-Class c =
    let a = c.args in langs.goes a.mode a.s.now c.requires.0 c.blank_end-a.ensures a.before (sym c.in-Class.is ∙ lent.told c.requires.1 _ _ _ c.token_by.ensures.value) refl refl refl

pub returns-in-Plain : goal.returns-in-Plain
returns-in-Plain c =
    let a = c.args in langs.goes a.mode a.s.now c.requires.0 c.blank_end-a.ensures a.before (sym c.in-Plain.is ∙ lent.told c.requires.1 _ _ _ c.token_by.ensures.value) refl refl c.plain_passes.ensures

pub returns-in-Quoted : goal.returns-in-Quoted
returns-in-Quoted c =
    let a = c.args in langs.goes a.mode a.s.now c.requires.0 c.blank_end-a.ensures a.before (sym c.in-Quoted.is ∙ lent.told c.requires.1 _ _ _ c.token_by.ensures.value) refl refl c.quoted_passes.ensures

pub returns-in-Bare : goal.returns-in-Bare
returns-in-Bare c =
    let a = c.args in langs.goes a.mode a.s.now c.requires.0 c.blank_end-a.ensures a.before (sym c.in-Bare.is ∙ lent.told c.requires.1 _ _ _ c.token_by.ensures.value) refl refl c.bare_passes.ensures
