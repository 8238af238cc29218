use lib.ListN.{length}
use Rattle.sheet_variants.specs.Variants.{variants_of}
use Rattle.door_valves.proofs.Says as laws
use borrow.Author.Rules.{rules}
use Rattle.door_valves.proofs.bridlesnow_variants.Goals as goal

pub returns : goal.returns
returns c = let r = laws.variants_told_lem _ _ (variants_of c.args.text.now (length c.args.join.now)) c.variants_of.ensures.value c.variants_of.ensures.join_after c.say_variants.ensures.value c.say_variants.ensures.cells_after c.say_variants.ensures.told_after in record { value = r.0; join_after = r.1.0; cells_after = r.1.1.0; told_after = r.1.1.1 }
