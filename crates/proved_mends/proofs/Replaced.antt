-- Lines that were replaced.
-- Assumes nothing.
use Rattle.sheet_edits.proofs.Cuts.{again_cuts, again_replaced, replaced_again}
use Rattle.sheet_edits.proofs.Rules.{again_rule, rule_again}
use Rattle.sheet_edits.proofs.Mended.{cuts_mend}
use Rattle.proved_mends.specs.Replaced.{ThreeByRule, AgainByRule, MendedIsFresh}

pub three_by_rule : ThreeByRule
three_by_rule old new a b = record { sound = again_replaced old new a b; complete = replaced_again old new a b }

pub again_by_rule : AgainByRule
again_by_rule old new a b p e n = (again_rule old new a b, rule_again old new a b)

pub mended_is_fresh : MendedIsFresh
mended_is_fresh old new a b p e n h k m = cuts_mend (again_cuts old new a b h) k m
