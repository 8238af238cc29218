use mathlib.Core.Path.{◌∙◌}
use Prim.Native.Nat.{◌-◌}
use native.Mathlib.Omega.{arith}
use borrow.Author.Rules.{rules}
use lib.ListN.{length}
use Rattle.text_escapes.proofs.Pieces.{byte_at, end_at}
use Rattle.text_langtags.proofs.Steps as steps
use Rattle.text_langtags.proofs.is_allowed_unescaped.Goals as goal

pub pieces-init : goal.pieces-init
pieces-init c = rw c.start_tag-w.ensures (steps.pieces_start c.args.s.now)

pub pieces-smaller : goal.pieces-smaller
pieces-smaller c = let z = byte_at c.piece_at.ensures.value c.in-Some.is in omega (arith, z.ahead, z.within)

pub pieces-preserved : goal.pieces-preserved
pieces-preserved c =
    let z = byte_at c.piece_at.ensures.value c.in-Some.is in
    rw c.step_tag-w.ensures (steps.pieces_go c.pieces.invariant z.within z.rest)

pub returns : goal.returns
returns c = c.allows_tag.ensures ∙ steps.pieces_end c.pieces.invariant (end_at c.piece_at.ensures.value c.in-None.is).rest
