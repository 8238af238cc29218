use native.Mathlib.Omega.{arith}
use Rattle.sheet_listing.proofs.Listings as laws
use borrow.Author.Rules.{rules}
use Rattle.sheet_listing.proofs.put_fields.Goals as goal

pub returns : goal.returns
returns c = record { put_at = laws.fields_put c.args.a.valve c.args.b.valve c.args.c.valve c.args.d.valve c.put_cell-e.ensures.put_at c.put_cell-f.ensures.put_at c.put_cell-g.ensures.put_at c.put_cell.ensures.put_at; upper_bound = omega (arith, c.put_cell-e.ensures.upper_bound, c.put_cell-f.ensures.upper_bound, c.put_cell-g.ensures.upper_bound, c.put_cell.ensures.upper_bound) }
