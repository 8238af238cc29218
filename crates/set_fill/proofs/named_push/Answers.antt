use mathlib.Core.Path.{sym, ◌∙◌}
use Rattle.set_fill.proofs.Walk as walk
use borrow.Author.Rules.{rules}
use Rattle.set_fill.proofs.named_push.Goals as goal

pub returns-then-same_bytes : goal.returns-then-same_bytes
returns-then-same_bytes c =
    λ m. walk.named_id m c.requires.0 c.requires.1 c.requires.2 c.requires.3 (sym c.same_bytes.ensures ∙ c.if-same_bytes.true) c.value_of.ensures c.before_tokens.ensures

pub returns-then-same_bytes-2 : goal.returns-then-same_bytes-2
returns-then-same_bytes-2 c =
    λ m. walk.named_class m c.requires.0 c.requires.1 c.requires.2 c.requires.3 (sym c.same_bytes.ensures ∙ c.if-same_bytes.false) (sym c.same_bytes-2.ensures ∙ c.if-same_bytes-2.true) (c.first_piece.ensures m)

pub returns : goal.returns
returns c =
    λ m. walk.named_key m c.requires.0 c.requires.1 c.requires.2 c.requires.3 (sym c.same_bytes.ensures ∙ c.if-same_bytes.false) (sym c.same_bytes-2.ensures ∙ c.if-same_bytes-2.false) c.value_of-2.ensures c.before_tokens-2.ensures
