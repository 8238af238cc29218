use borrow.Author.Rules.{rules}
use Rattle.run_scanners.proofs.is_bare.Goals as goal

pub returns-in-None : goal.returns-in-None
returns-in-None c = simp (c.if-st.false, c.in-None.is)
