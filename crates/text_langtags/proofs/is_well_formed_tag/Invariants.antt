use Rattle.text_langtags.proofs.Steps as steps
use Rattle.text_langtags.proofs.is_well_formed_tag.Given as goal

abbrev pub invariant-loop-b : goal.invariant-loop-b
invariant-loop-b l = steps.Steps l.s l.b-index l.w
