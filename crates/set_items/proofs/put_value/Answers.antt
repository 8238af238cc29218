use mathlib.Core.Path.{◌∙◌}
use Rattle.text_escapes.specs.Unescape.{unescape}
use Rattle.set_items.proofs.Laying as laws
use borrow.Author.Rules.{rules}
use Rattle.set_items.proofs.put_value.Goals as goal

pub returns-then-quoted : goal.returns-then-quoted
returns-then-quoted c =
    let a = c.args in rw c.if-quoted.true (c.write_unescaped.ensures.buf_after ∙ laws.has_room a.out.now a.at (unescape a.s.now) (rw c.if-quoted.true at c.requires))

pub returns : goal.returns
returns c = rw c.if-quoted.false c.put_bytes.ensures
