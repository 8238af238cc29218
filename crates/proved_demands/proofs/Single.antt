-- A promise that is an equation with a definition allows one value: any two results that meet it are equal.
-- Assumes nothing.
use mathlib.Core.Path.{sym, ◌∙◌}
use Rattle.proved_demands.specs.Demands.{Single, SingleBoth}

pub single : {A : Type 0} {r r' v : A} → Single v r r'
single p q = p ∙ sym q

pub single_both : {A B : Type 0} {r r' v : A} {m m' w : B} → SingleBoth v w r r' m m'
single_both p q = (single p.0 q.0, single p.1 q.1)
