use mathlib.Core.Path.{refl}
use Rattle.base_refusals.proofs.Said.{said}
use Rattle.text_names.specs.Tested.{tested_paper}
use Rattle.text_names.proofs.whole_or_stops.Goals as goal

pub returns-then-ok : goal.returns-then-ok
returns-then-ok c = said tested_paper refl (rw c.if-ok.true)

pub returns : goal.returns
returns c = said tested_paper refl (rw c.if-ok.false)
