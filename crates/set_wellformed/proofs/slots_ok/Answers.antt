use mathlib.Core.Path.{sym, ◌∙◌}
use borrow.Author.Tests.{not-true, not-false, eq-eqb, ne_eqb}
use Rattle.set_wellformed.specs.Inner.{slots_in}
use borrow.Author.Rules.{rules}
use Rattle.set_wellformed.proofs.slots_ok.Goals as goal

pub returns-then-not-all_there : goal.returns-then-not-all_there
unfolding slots_in
returns-then-not-all_there c = rw (sym c.all_there.ensures ∙ c.if-not-all_there.true)

pub returns-then-times_in-one_if : goal.returns-then-times_in-one_if
unfolding slots_in
returns-then-times_in-one_if c = rw (sym c.all_there.ensures ∙ c.if-not-all_there.false, ← c.times_in.ensures, ← c.one_if.ensures, ne_eqb _ _ c.if-times_in-one_if.true)

pub returns-then-times_in-one_if-2 : goal.returns-then-times_in-one_if-2
unfolding slots_in
returns-then-times_in-one_if-2 c =
    rw (sym c.all_there.ensures ∙ c.if-not-all_there.false, ← c.times_in.ensures, ← c.one_if.ensures, eq-eqb _ _ c.if-times_in-one_if.false, ← c.times_in-2.ensures, ← c.one_if-2.ensures, ne_eqb _ _ c.if-times_in-one_if-2.true)

pub returns : goal.returns
unfolding slots_in
returns c =
    rw (sym c.all_there.ensures ∙ c.if-not-all_there.false, ← c.times_in.ensures, ← c.one_if.ensures, eq-eqb _ _ c.if-times_in-one_if.false, ← c.times_in-2.ensures, ← c.one_if-2.ensures, eq-eqb _ _ c.if-times_in-one_if-2.false) c.keys_once.ensures
