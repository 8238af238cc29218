use Rattle.sheet_listing.specs.Listing.{listing}
use borrow.Author.Rules.{rules}
use Rattle.sheet_listing.proofs.lay.Goals as goal

pub returns-in-Err : goal.returns-in-Err
unfolding listing
returns-in-Err c = record { put_at = rw c.in-Err.is c.lay_refused.ensures.put_at; upper_bound = c.lay_refused.ensures.upper_bound }

pub returns-in-Ok : goal.returns-in-Ok
unfolding listing
returns-in-Ok c = record { put_at = rw c.in-Ok.is c.lay_table.ensures.put_at; upper_bound = c.lay_table.ensures.upper_bound }
