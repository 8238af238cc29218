use mathlib.Core.Path.{refl, sym, ◌∙◌}
use mathlib.Core.Bool.{false}
use mathlib.Core.List.{[], ◌∷◌}
use native.Mathlib.Omega.{arith}
use borrow.Author.Tests.{le-leb}
use Rattle.base_lists.specs.Lists.{is_in}
use Rattle.base_lists.proofs.Steady.{met}
use Rattle.base_letters.proofs.Fronts as fronts
use Rattle.block_grammar.specs.Quick as quick
use Rattle.block_grammar.specs.declared.Walk.{Walk}
use Rattle.block_quick.proofs.Walks as walks
use borrow.Author.Rules.{rules}
use Rattle.block_quick.proofs.edge_turn.Goals as goal

pub returns-then-c-ge128 : goal.returns-then-c-ge128
returns-then-c-ge128 c = record { goes = λ rest. rw (le-leb 128 c.args.c (omega arith)) }

pub returns-then-is_of : goal.returns-then-is_of
returns-then-is_of c = record { goes = λ rest. walks.other _ rest (omega arith) c.in_default.in_default-own.rest.0.0.1 c.in_default.in_default-own.rest.0.1 c.in_default.in_default-own.rest.1 (sym (fronts.asked c.requires.key _ c.is_of.ensures ∙ c.if-is_of.true)) }

pub returns-in-125 : goal.returns-in-125
unfolding is_in
returns-in-125 c = record { goes = λ rest. met (λ x. quick.edge x rest) false (10 ∷ 34 ∷ 39 ∷ 58 ∷ 92 ∷ 125 ∷ []) c.args.c c.in-125.is refl }

pub returns-in-32 : goal.returns-in-32
unfolding is_in
returns-in-32 c = record { goes = λ rest. met (λ x. quick.edge x rest) (rest Walk.Edge) (9 ∷ 13 ∷ 32 ∷ []) c.args.c c.in-32.is refl }

pub returns-in-35 : goal.returns-in-35
unfolding is_in
returns-in-35 c = record { goes = λ rest. met (λ x. quick.edge x rest) (rest Walk.Sigil) (35 ∷ 46 ∷ []) c.args.c c.in-35.is refl }

pub returns-else-is_of : goal.returns-else-is_of
returns-else-is_of c = record { goes = λ rest. walks.other _ rest (omega arith) c.in_default.in_default-own.rest.0.0.1 c.in_default.in_default-own.rest.0.1 c.in_default.in_default-own.rest.1 (sym (fronts.asked c.requires.key _ c.is_of.ensures ∙ c.if-is_of.false)) }
