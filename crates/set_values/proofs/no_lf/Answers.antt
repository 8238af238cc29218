use Rattle.std.proofs.Common.{rules, tests}
use mathlib.Core.Bool.{not}
use lib.Dec.{eqb}
use Rattle.block_grammar.specs.Close.{no_lf}
use Rattle.set_values.proofs.Each.{all_is}
use Rattle.set_values.proofs.no_lf.Goals as goal

pub returns : goal.returns
unfolding no_lf
returns c = all_is (λ b. not (eqb b 10)) 0 _ _ (search (rules, tests))
