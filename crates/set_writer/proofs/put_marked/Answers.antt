use lib.ListN.{length-set}
use mathlib.Core.Path.{refl, sym, ◌∙◌}
use native.Mathlib.Omega.{arith}
use native.Mathlib.Numerals.{add-one}
use Rattle.set_marks.proofs.Values as values
use borrow.Author.Rules.{rules}
use Rattle.set_writer.proofs.put_marked.Goals as goal

pub bounds-out-at : goal.bounds-out-at
bounds-out-at c = omega (arith, rw (values.marked_yes _ (sym (c.is_marked.ensures) ∙ (c.if-is_marked.true))) at (c.requires))

pub bounds-out-at-then-is_marked : goal.bounds-out-at-then-is_marked
bounds-out-at-then-is_marked c =
    omega (arith, rw (values.marked_yes _ (sym (c.is_marked.ensures) ∙ (c.if-is_marked.true))) at (c.requires), length-set (c.args.out.now) (c.args.at) 92)

pub returns-then-is_marked : goal.returns-then-is_marked
returns-then-is_marked c = rw (values.marked_yes _ (sym (c.is_marked.ensures) ∙ (c.if-is_marked.true)), add-one) (record { value = refl; out_after = refl })

pub bounds-out-at-2 : goal.bounds-out-at-2
bounds-out-at-2 c = omega (arith, rw (values.marked_no _ (sym (c.is_marked.ensures) ∙ (c.if-is_marked.false))) at (c.requires))

pub returns : goal.returns
returns c = rw (values.marked_no _ (sym (c.is_marked.ensures) ∙ (c.if-is_marked.false))) (record { value = refl; out_after = refl })
