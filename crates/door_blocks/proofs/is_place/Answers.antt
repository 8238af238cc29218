use borrow.Author.Tests.{lt-ltb, le-ltb}
use lib.ListN.{length}
use Rattle.base_refusals.specs.Numbers.{max_text}
use Rattle.door_blocks.specs.Blocks.{is_place_in}
use Rattle.door_blocks.proofs.is_place.Goals as goal

pub returns-then-text-gt-MAX_TEXT : goal.returns-then-text-gt-MAX_TEXT
unfolding is_place_in
returns-then-text-gt-MAX_TEXT c = rw (lt-ltb max_text (length c.args.text.now) c.if-text-gt-MAX_TEXT.true)

pub returns : goal.returns
unfolding is_place_in
returns c = rw (le-ltb max_text (length c.args.text.now) c.if-text-gt-MAX_TEXT.false)
