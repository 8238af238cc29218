use native.Mathlib.Omega.{arith}
use Rattle.sheet_listing.proofs.Listings as laws
use borrow.Author.Rules.{rules}
use Rattle.sheet_listing.proofs.put_variant.Goals as goal

pub returns-then-variant-eq0 : goal.returns-then-variant-eq0
returns-then-variant-eq0 c = record { put_at = rw c.if-variant-eq0.true (laws.put_none _ _); upper_bound = omega arith }

pub returns : goal.returns
returns c = record { put_at = laws.variant_put _ (omega arith) c.put_number.ensures.put_at; upper_bound = c.put_number.ensures.upper_bound }
