use Rattle.set_loose.proofs.Whole as laws
use mathlib.Core.Path.{◌∙◌}
use borrow.Author.Rules.{rules}
use Rattle.set_loose.proofs.consume_loose.Goals as goal

pub consume-requires : goal.consume-requires
consume-requires c = (laws.done_loose _ _ (rw c.empty.ensures at c.merge_attrs-clean.ensures.value) c.in-Ok.is).0

pub returns-in-Err : goal.returns-in-Err
returns-in-Err c = laws.loose_said _ _ (laws.refused_loose _ _ (rw c.empty.ensures at c.merge_attrs-clean.ensures.value) c.in-Err.is)

pub returns-in-Ok : goal.returns-in-Ok
returns-in-Ok c = laws.loose_said _ _ (c.consume.ensures ∙ (laws.done_loose _ _ (rw c.empty.ensures at c.merge_attrs-clean.ensures.value) c.in-Ok.is).1)
