use mathlib.Core.Path.{refl}
use borrow.Author.Tests.{lt-ltb, le-ltb}
use Rattle.sheet_blocks.specs.Sheets.{join_behind}
use Rattle.sheet_variants.specs.Variants.{variants_in, past_in}
use borrow.Author.Rules.{rules}
use Rattle.sheet_variants.proofs.fill_checked.Goals as goal

pub returns-then-join-lt-MAX_TEXT : goal.returns-then-join-lt-MAX_TEXT
unfolding variants_in past_in join_behind
returns-then-join-lt-MAX_TEXT c = record { value = rw (lt-ltb _ _ (c.if-join-lt-MAX_TEXT.true)) (c.no_table.ensures); join_after = rw (lt-ltb _ _ (c.if-join-lt-MAX_TEXT.true)) (refl) }

pub returns : goal.returns
unfolding variants_in past_in
returns c = record { value = rw (le-ltb _ _ (c.if-join-lt-MAX_TEXT.false)) c.fill_table.ensures.value; join_after = rw (le-ltb _ _ (c.if-join-lt-MAX_TEXT.false)) c.fill_table.ensures.join_after }
