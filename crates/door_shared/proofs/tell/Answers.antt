use mathlib.Core.Path.{sym}
use lib.Seq.{set_out}
use borrow.Author.Rules.{rules}
use Rattle.door_shared.proofs.tell.Goals as goal

pub returns-else-i-told : goal.returns-else-i-told
returns-else-i-told c = sym (set_out _ _ _ (c.if-i-told.false))
