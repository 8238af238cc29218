use Rattle.set_lent.specs.Lent.{lent_loose}
use Rattle.set_lent.proofs.consume_loose_lent.Goals as goal

pub returns : goal.returns
unfolding lent_loose
returns c =
    let e = c.consume_loose_in-did.ensures in
    (λ i. record { did = e.0 i; set = e.1 i }, e.2)
