use mathlib.Core.Bool.{not}
use mathlib.Core.Path.{ap, ◌∙◌}
use borrow.Author.Rules.{rules}
use Rattle.text_utf8.proofs.Laws as laws
use Rattle.text_utf8.proofs.is_char_boundary.Goals as goal

pub returns-then-s-i : goal.returns-then-s-i
returns-then-s-i c = laws.past_end _ _ c.if-s-i.true

pub returns : goal.returns
returns c = ap not c.is_tail.ensures ∙ laws.at_byte _ _ c.if-s-i.false
