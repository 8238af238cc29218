use mathlib.Core.Path.{◌∙◌}
use Rattle.sheet_variants.proofs.Walks as laws
use borrow.Author.Rules.{rules}
use Rattle.sheet_variants.proofs.whole_table.Goals as goal

pub returns-then-v-eq0 : goal.returns-then-v-eq0
returns-then-v-eq0 c = laws.whole_passed _ (c.first_pair-v.ensures) (c.if-v-eq0.true)

pub returns : goal.returns
returns c = c.no_table.ensures ∙ laws.whole_pair _ (c.first_pair-v.ensures) (c.if-v-eq0.false)
