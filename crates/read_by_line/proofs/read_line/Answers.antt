use borrow.Author.Tests.{not-true, not-false}
use Rattle.block_trimmed_line.proofs.Trimmed.{opens_by}
use borrow.Author.Rules.{rules}
use Rattle.read_by_line.specs.Entries.{line_read}
use Rattle.read_by_line.proofs.read_line.Goals as goal

pub returns-then-not-f : goal.returns-then-not-f
unfolding line_read
returns-then-not-f c = rw (opens_by _ _ c.trimmed_line-f.ensures (not-true _ c.if-not-f.true)) c.refusing.ensures.value

pub returns : goal.returns
unfolding line_read
returns c =
    rw (opens_by _ _ c.trimmed_line-f.ensures (not-false _ c.if-not-f.false), ← c.trimmed_line-f.ensures) c.fill_chain.ensures.value
