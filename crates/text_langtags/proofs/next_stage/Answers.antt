use mathlib.Core.Path.{◌∙◌}
use Rattle.text_langtags.proofs.Keys as keys
use borrow.Author.Rules.{rules}
use Rattle.text_langtags.proofs.next_stage.Goals as goal

pub returns-in-Body : goal.returns-in-Body
returns-in-Body c = rw c.in-Body.is c.body_stage.ensures

pub returns-in-Single : goal.returns-in-Single
returns-in-Single c = rw (c.in-Single.is, ← c.is_part.ensures) c.only.ensures

pub returns-in-Extension : goal.returns-in-Extension
returns-in-Extension c = rw c.in-Extension.is c.extension_stage.ensures

pub returns-in-Private : goal.returns-in-Private
returns-in-Private c = c.only-in-Private.ensures ∙ (rw c.is_subtag.ensures (keys.own_next c.args.st c.args.k c.in-Private.in-Private-own.keys6))
