use mathlib.Core.Path.{sym}
use borrow.Author.Tests.{ne_eqb}
use denote.Enum.Bare.{same_false}
use Rattle.base_refusals.specs.contracts.Refusal.{the_type}
use Rattle.base_refusals.proofs.Numbers.{number_own}
use borrow.Author.Rules.{rules}
use Rattle.read_brace.proofs.answer_of.Goals as goal

pub returns-else-eq : goal.returns-else-eq
returns-else-eq c = rw (c.in-Err.is, ne_eqb _ _ (λ z. same_false the_type _ _ (sym c.if-eq.ensures) (number_own _ _ z)))
