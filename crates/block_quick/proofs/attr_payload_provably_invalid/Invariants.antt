use Rattle.block_grammar.specs.Quick.{quick_refuses}
use Rattle.block_quick.proofs.Walks as walks
use Rattle.block_quick.proofs.attr_payload_provably_invalid.Given as goal

abbrev pub invariant-loop-b : goal.invariant-loop-b
invariant-loop-b l = walks.Walks l.b-items (quick_refuses l.s l.brace) l.b-index l.w
