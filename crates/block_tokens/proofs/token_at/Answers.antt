use mathlib.Core.Path.{refl}
use Rattle.base_bytes.specs.Bytes.{is_letter, is_digit, within}
use Rattle.base_letters.specs.Classes.{class_of}
use Rattle.base_letters.proofs.Rule as rule
use Rattle.base_refusals.proofs.Said.{said}
use Rattle.block_tokens.specs.Shown.{token_paper}
use Rattle.block_tokens.proofs.Lent as lent
use borrow.Author.Rules.{rules}
use Rattle.block_tokens.proofs.token_at.Goals as goal

pub returns : goal.returns
unfolding class_of is_letter is_digit within
returns c = said token_paper refl (lent.told rule.tells _ _ _ c.token_by.ensures.value)
