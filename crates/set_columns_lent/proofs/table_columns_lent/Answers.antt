use Rattle.set_columns_lent.specs.Lent.{lent_columns}
use Rattle.set_columns_lent.proofs.table_columns_lent.Goals as goal

pub returns : goal.returns
unfolding lent_columns
returns c =
    let e = c.table_columns_into-outcome.ensures in
    (λ i. record { outcome = e.0 i; table = e.1 i }, e.2)
