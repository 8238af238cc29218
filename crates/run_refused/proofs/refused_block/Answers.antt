use Rattle.run_refused.proofs.Answers as laws
use borrow.Author.Rules.{rules}
use Rattle.run_refused.proofs.refused_block.Goals as goal

pub returns : goal.returns
returns c = let r = laws.block_told _ _ c.args.join.now (c.join_padded-r.ensures.value, c.join_padded-r.ensures.join_after) c.answer_of.ensures in record { value = r.0; join_after = r.1 }
