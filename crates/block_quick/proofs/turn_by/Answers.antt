use mathlib.Core.Path.{◌∙◌}
use Rattle.base_letters.proofs.Fronts as fronts
use borrow.Author.Rules.{rules}
use Rattle.block_quick.proofs.turn_by.Goals as goal

pub edge_turn-requires : goal.edge_turn-requires
edge_turn-requires c = c.requires

pub word_turn-requires : goal.word_turn-requires
word_turn-requires c = c.requires

pub returns-then-is_of : goal.returns-then-is_of
returns-then-is_of c = rw c.in-Sigil.is (record { goes = λ rest. rw (fronts.asked c.requires.name _ c.is_of.ensures ∙ c.if-is_of.true) })

pub returns-then-is_of-2 : goal.returns-then-is_of-2
returns-then-is_of-2 c = rw c.in-Ident.is (record { goes = λ rest. rw (fronts.asked c.requires.part _ c.is_of-in-Ident.ensures ∙ c.if-is_of-2.true) })

pub edge_turn-requires-in-Ident : goal.edge_turn-requires-in-Ident
edge_turn-requires-in-Ident c = c.requires

pub returns-in-Edge : goal.returns-in-Edge
returns-in-Edge c = rw c.in-Edge.is c.edge_turn.ensures

pub returns-in-Word : goal.returns-in-Word
returns-in-Word c = rw c.in-Word.is c.word_turn.ensures

pub returns-else-is_of : goal.returns-else-is_of
returns-else-is_of c = rw c.in-Sigil.is (record { goes = λ rest. rw (fronts.asked c.requires.name _ c.is_of.ensures ∙ c.if-is_of.false) })

pub returns-else-is_of-2 : goal.returns-else-is_of-2
returns-else-is_of-2 c = rw c.in-Ident.is (record { goes = λ rest. rw (fronts.asked c.requires.part _ c.is_of-in-Ident.ensures ∙ c.if-is_of-2.false) (c.edge_turn-in-Ident.ensures.goes rest) })

pub returns-in-Value : goal.returns-in-Value
returns-in-Value c = rw c.in-Value.is c.value_turn.ensures
