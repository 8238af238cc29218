use mathlib.Core.Path.{◌∙◌}
use Prim.Native.Nat.{◌-◌}
use native.Mathlib.Omega.{arith}
use borrow.Author.Rules.{rules}
use lib.ListN.{length}
use Rattle.text_escapes.proofs.Pieces.{byte_at, end_at}
use Rattle.text_langtags.proofs.Steps as steps
use Rattle.text_langtags.proofs.is_allowed_unescaped.Given as goal

abbrev pub invariant-pieces : goal.invariant-pieces
invariant-pieces l = steps.Pieces l.s l.i l.w

abbrev pub decreases-pieces : goal.decreases-pieces
decreases-pieces l = length l.s - l.i
