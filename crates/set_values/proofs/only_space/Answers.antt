use borrow.Author.Rules.{rules}
use Rattle.base_bytes.specs.Bytes.{is_space}
use Rattle.set_values.proofs.Each.{all_is}
use Rattle.set_values.proofs.only_space.Goals as goal

pub returns : goal.returns
returns c = all_is is_space 0 _ _ (search rules)
