use Rattle.text_langtags.specs.Inner.{subtag_with}
use borrow.Author.Rules.{rules}
use Rattle.text_langtags.proofs.grow.Goals as goal

pub returns : goal.returns
unfolding subtag_with
returns c = simp (c.both-3.ensures, c.is_alnum.ensures, c.both-2.ensures, c.is_digit-2.ensures, c.both.ensures, c.is_letter.ensures, c.at_first-2.ensures, c.is_digit.ensures, c.at_first.ensures, c.is_x.ensures, c.one_more.ensures)
