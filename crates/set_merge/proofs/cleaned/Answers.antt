use lib.ListN.{length-map}
use Rattle.set_merge.proofs.Fronts as fronts
use borrow.Author.Rules.{rules}
use Rattle.set_merge.proofs.cleaned.Goals as goal

pub returns : goal.returns
returns c =
    rw (c.first_classes-classes.ensures, c.first_keys-keys.ensures, c.first_slots-order.ensures, c.first_id-id.ensures)
    (fronts.cleaned_is _ (c.well_formed.0.1.1.1.1.1.1.1.0.1.0.1)
    (c.well_formed.0.1.1.1.1.1.1.1.1.0.1.0.1)
    (c.well_formed.0.1.1.1.1.1.1.1.1.1.0.1.0.1) c.requires)
