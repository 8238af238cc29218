use lib.ListN.{length-set}
use native.Mathlib.Omega.{arith}
use Rattle.sheet_report.proofs.Laying.{put_is}
use Rattle.sheet_report.specs.Report.{refused_word}
use Rattle.sheet_listing.proofs.Listings as laws
use borrow.Author.Rules.{rules}
use Rattle.sheet_listing.proofs.lay_refused.Goals as goal

pub bounds-out-d : goal.bounds-out-d
bounds-out-d c =
    omega (arith, c.requires, c.put_number-a.ensures.upper_bound, c.put_number-b.ensures.upper_bound, c.put_number-c.ensures.upper_bound, c.put_variant-d.ensures.upper_bound)

pub overflow_add-result : goal.overflow_add-result
overflow_add-result c =
    omega (arith, c.put_number-a.ensures.upper_bound, c.put_number-b.ensures.upper_bound, c.put_number-c.ensures.upper_bound, c.put_variant-d.ensures.upper_bound)

pub shape_of-out : goal.shape_of-out
shape_of-out c = rw length-set (omega arith)

pub returns : goal.returns
returns c = record { put_at = laws.refusal-put c.args.line c.args.lines c.args.variant c.args.why c.number.ensures (put_is c.args.out.now 0 refused_word c.put_bytes.ensures) c.put_number-a.ensures.put_at c.put_number-b.ensures.put_at c.put_number-c.ensures.put_at c.put_variant-d.ensures.put_at; upper_bound = omega (arith, c.put_number-a.ensures.upper_bound, c.put_number-b.ensures.upper_bound, c.put_number-c.ensures.upper_bound, c.put_variant-d.ensures.upper_bound) }
