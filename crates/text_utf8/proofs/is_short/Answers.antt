use mathlib.Core.Bool.{true≢false}
use borrow.Author.Rules.{rules}
use Rattle.text_utf8.proofs.is_short.Goals as goal

pub returns-then-s-lt32 : goal.returns-then-s-lt32
returns-then-s-lt32 c = λ e. absurd (true≢false e)
