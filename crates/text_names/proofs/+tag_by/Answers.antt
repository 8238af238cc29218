use mathlib.Core.Path.{◌∙◌}
use native.Mathlib.Omega.{arith}
use Rattle.text_names.proofs.Tag as tag
use Rattle.text_names.proofs.+tag_by.Goals as goal

pub returns-then-n-lt1 : goal.returns-then-n-lt1
returns-then-n-lt1 t c = tag.short _ c.args.s.now c.args.at c.run_end-n.ensures c.if-n-lt1.true

pub returns-then-n-gt8 : goal.returns-then-n-gt8
returns-then-n-gt8 t c = tag.long _ c.args.s.now c.args.at c.run_end-n.ensures c.if-n-gt8.true

pub returns-then-n-s : goal.returns-then-n-s
returns-then-n-s t c = tag.one _ c.args.s.now c.args.at c.run_end-n.ensures (omega arith) (omega arith) c.if-n-s.true

pub bounds-s-n : goal.bounds-s-n
bounds-s-n t c = omega (arith, tag.fits _ _ c.run_end-n.ensures)

pub returns-then-s-n-ne45 : goal.returns-then-s-n-ne45
returns-then-s-n-ne45 t c =
    tag.no_hyphen _ c.args.s.now c.args.at c.run_end-n.ensures (omega arith) (omega arith) (omega (arith, tag.fits _ _ c.run_end-n.ensures)) c.if-s-n-ne45.true

pub returns : goal.returns
returns t c =
    c.tag_by.ensures ∙ tag.next _ c.args.s.now c.args.at c.run_end-n.ensures (omega arith) (omega arith) (omega (arith, tag.fits _ _ c.run_end-n.ensures)) c.if-s-n-ne45.false
