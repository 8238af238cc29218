use Rattle.std.specs.Prelude.{Some}
use mathlib.Core.Path.{refl, sym, ◌∙◌, ap}
use native.Mathlib.Omega.{arith}
use borrow.Author.Rules.{rules}
use lib.Seq.{length-take-le}
use Rattle.base_refusals.proofs.Said.{said}
use Rattle.run_scanners.specs.Scanners.{capped_at, column_paper}
use Rattle.run_scanners.proofs.Quick as laws
use Rattle.run_scanners.proofs.last_open_brace_column.Goals as goal

pub returns-then-e-eq0 : goal.returns-then-e-eq0
returns-then-e-eq0 c = said column_paper refl (ap capped_at (laws.no_brace c.behind_brace-e.ensures _ _ c.if-e-eq0.true))

pub slice_bounds-front-length : goal.slice_bounds-front-length
slice_bounds-front-length c = sym (length-take-le _ _ (omega (arith, c.behind_brace-e.ensures.within)))

pub returns-then-stays_out : goal.returns-then-stays_out
returns-then-stays_out c =
    said column_paper refl (ap (λ n. Some n) c.columns.ensures ∙ ap capped_at (laws.last_brace c.behind_brace-e.ensures _ _ (omega arith) (sym c.stays_out.ensures ∙ c.if-stays_out.true)))

pub returns : goal.returns
returns c = said column_paper refl c.seek_brace.ensures
