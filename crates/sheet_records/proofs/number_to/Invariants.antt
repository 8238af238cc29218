use Prim.Native.Nat.{max, ◌≤◌}
use lib.ListN.{length, drop}
use Rattle.text_digits.specs.declared.Digits.TheVariants.{Number}
use Rattle.sheet_records.specs.Inner.{onward}
use Rattle.sheet_records.proofs.Places as laws
use Rattle.sheet_records.proofs.number_to.Given as goal

abbrev pub invariant-loop-i : goal.invariant-loop-i
invariant-loop-i l = laws.Reads l.index l.least l.n l.i (onward l.least (Number l.first) l.from (drop l.from l.index)) × (l.i ≤ max l.from (length l.index))
