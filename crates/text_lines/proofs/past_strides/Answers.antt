use mathlib.Core.Path.{refl, sym, ◌∙◌}
use Prim.Native.Nat.{◌-◌}
use native.Mathlib.Omega.{arith}
use lib.ListN.{length}
use Rattle.text_lines.proofs.Lines as laws
use Rattle.text_lines.proofs.past_strides.Goals as goal

-- `past_strides` passes 16 bytes at once where no LF is among them: the line from there on ends where it did. Assumes nothing.

pub returns-then-text-lt16 : goal.returns-then-text-lt16
returns-then-text-lt16 c = refl

pub loop-i-init : goal.loop-i-init
loop-i-init c = record { rest = refl }

pub returns-then-has_lf : goal.returns-then-has_lf
returns-then-has_lf c = c.loop-i.invariant.rest

pub loop-i-preserved : goal.loop-i-preserved
loop-i-preserved c = laws.feeds_stride c.loop-i.invariant (omega arith) (sym c.has_lf.ensures ∙ c.if-has_lf.false)

pub returns : goal.returns
returns c = c.loop-i.invariant.rest
