use Rattle.set_table.specs.Rows.{rows_in}
use Rattle.set_keyed.proofs.Means.{found_means}
use Rattle.set_keyed.specs.Keyed.{key_found}
use borrow.Author.Rules.{rules}
use Rattle.set_keyed.proofs.find.Goals as goal

pub returns : goal.returns
unfolding key_found rows_in
returns c = let r = found_means _ _ _ c.found_in.ensures in record { value = r.0; result_value = r.1.0; result_value_2 = r.1.1 }
