use mathlib.Core.Path.{sym, ◌∙◌}
use native.Mathlib.Omega.{arith}
use Rattle.text_names.proofs.Tag as tag
use Rattle.text_names.proofs.long_tag_by.Goals as goal
use Rattle.text_names.proofs.long_tag_by.Goals.{else-b-eq45-via-then-b-eq45+else-k-ne0, else-b-eq45-via-else-b-eq45, then-is_of+else-k-eq8, else-is_of+then-b-eq45+then-k-ne0}

pub loop-i-init : goal.loop-i-init
loop-i-init c = tag.reads_start _ _

pub returns-then-k-eq8 : goal.returns-then-k-eq8
returns-then-k-eq8 c = tag.reads_nine _ c.loop-i.invariant (omega arith) (sym c.is_of.ensures ∙ c.if-is_of.true) c.if-k-eq8.true

pub returns-else-b-eq45 : goal.returns-else-b-eq45
returns-else-b-eq45 c =
    elim c.else-b-eq45.branch [
      | else-b-eq45-via-then-b-eq45+else-k-ne0 w ↦ tag.reads_empty _ c.loop-i.invariant (omega arith) (sym c.is_of.ensures ∙ c.if-is_of.false) w.if-k-ne0.false
      | else-b-eq45-via-else-b-eq45 w ↦ tag.reads_other _ c.loop-i.invariant (omega arith) (sym c.is_of.ensures ∙ c.if-is_of.false) w.if-b-eq45.false
    ]

pub loop-i-preserved : goal.loop-i-preserved
loop-i-preserved c =
    elim c.if-is_of.branch [
      | then-is_of+else-k-eq8 w ↦ rw w.k-is (tag.reads_more _ c.loop-i.invariant (omega arith) (sym c.is_of.ensures ∙ w.if-is_of.true) w.if-k-eq8.false)
      | else-is_of+then-b-eq45+then-k-ne0 w ↦ rw w.k-is (tag.reads_hyphen _ c.loop-i.invariant (omega arith) (sym c.is_of.ensures ∙ w.if-is_of.false) w.if-b-eq45.true w.if-k-ne0.true)
    ]

pub returns : goal.returns
returns c = c.whole_or_stops.ensures.value ∙ tag.reads_end _ c.loop-i.invariant (omega arith)
