use Rattle.sheet_listing.proofs.Listings as laws
use Rattle.sheet_listing.proofs.lay_table.Given as goal

abbrev pub invariant-loop-v : goal.invariant-loop-v
invariant-loop-v l = laws.Lists l.table l.initial.out l.out l.at l.v
