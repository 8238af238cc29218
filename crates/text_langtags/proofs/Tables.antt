-- The listed tags, computed: the nine regular ones are read without the list, the 17 irregular ones aren't.
-- Assumes nothing.
use mathlib.Core.Path.{◌≡◌, refl}
use mathlib.Core.Bool.{true, not}
use Rattle.base_lists.specs.Lists.{all}
use Rattle.base_bytes.specs.Bytes.{is_alnum, is_letter, is_digit, within}
use Rattle.text_langtags.specs.Letters.{small, is_x, irregulars, regulars}
use Rattle.text_langtags.specs.Computed.{kind_by, subtag_kind, stage_from, is_unlisted}

pub regular_read : all is_unlisted regulars ≡ true
unfolding all is_unlisted regulars stage_from subtag_kind kind_by is_letter is_digit is_alnum within is_x small
regular_read = refl

pub irregular_not : all (λ s. not (is_unlisted s)) irregulars ≡ true
unfolding all is_unlisted irregulars stage_from subtag_kind kind_by is_letter is_digit is_alnum within is_x small
irregular_not = refl
