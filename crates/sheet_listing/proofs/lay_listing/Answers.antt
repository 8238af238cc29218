use native.Mathlib.Omega.{arith}
use Rattle.sheet_listing.proofs.Listings as laws
use borrow.Author.Rules.{rules}
use Rattle.sheet_listing.proofs.lay_listing.Goals as goal

pub returns-then-out-lt-LISTING : goal.returns-then-out-lt-LISTING
returns-then-out-lt-LISTING c = let r = laws.listing_none _ _ (omega (arith, c.if-out-lt-LISTING.true)) in record { value = r.0; out_after = r.1 }

pub returns : goal.returns
returns c = let r = laws.listing_whole _ _ (omega (arith, c.if-out-lt-LISTING.false)) c.lay.ensures.put_at c.lay.ensures.upper_bound in record { value = r.0; out_after = r.1 }
