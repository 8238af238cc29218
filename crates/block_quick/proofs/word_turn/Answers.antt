use mathlib.Core.Path.{◌∙◌}
use Rattle.base_letters.proofs.Fronts as fronts
use borrow.Author.Tests.{eq-eqb, ne_eqb}
use borrow.Author.Rules.{rules}
use Rattle.block_quick.proofs.word_turn.Goals as goal

pub returns-then-is_of : goal.returns-then-is_of
returns-then-is_of c = record { goes = λ rest. rw (fronts.asked c.requires.part _ c.is_of.ensures ∙ c.if-is_of.true) }

pub returns-then-c-eq61 : goal.returns-then-c-eq61
returns-then-c-eq61 c = record { goes = λ rest. rw (fronts.asked c.requires.part _ c.is_of.ensures ∙ c.if-is_of.false, eq-eqb _ _ c.if-c-eq61.true) }

pub edge_turn-requires : goal.edge_turn-requires
edge_turn-requires c = c.requires

pub returns : goal.returns
returns c = record { goes = λ rest. rw (fronts.asked c.requires.part _ c.is_of.ensures ∙ c.if-is_of.false, ne_eqb _ _ c.if-c-eq61.false) (c.edge_turn.ensures.goes rest) }
