use borrow.Author.Rules.{rules}
use mathlib.Core.Bool.{not}
use Rattle.base_bytes.specs.Bytes.{is_space}
use Rattle.set_values.proofs.Each.{all_is}
use Rattle.set_values.proofs.no_space.Goals as goal

pub returns : goal.returns
returns c = all_is (λ b. not (is_space b)) 0 _ _ (search rules)
