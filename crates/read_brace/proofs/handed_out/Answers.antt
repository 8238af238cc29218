use Rattle.read_brace.specs.Brace.{finished}
use borrow.Author.Rules.{rules}
use Rattle.read_brace.proofs.handed_out.Goals as goal

pub returns : goal.returns
unfolding finished
returns c = rw c.answer_of.ensures
