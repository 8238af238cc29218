use Rattle.door_tokens.proofs.Told as laws
use Rattle.door_sets.specs.Sets.{mode_of}
use borrow.Author.Rules.{rules}
use Rattle.door_tokens.proofs.bridlesnow_next_token.Goals as goal

pub returns : goal.returns
returns c = let r = laws.step_told_lem (mode_of c.args.loose) c.args.text.now c.args.at c.args.told.now c.mode_of.ensures.value c.step_from-step.ensures.0
    c.ahead_shape-shape.ensures c.tell.ensures c.tell-2.ensures c.tell-3.ensures c.tell-4.ensures c.is_token.ensures in record { value = r.0; told_after = r.1 }
