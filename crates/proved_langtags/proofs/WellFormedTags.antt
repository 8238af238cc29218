-- The statements' proofs: the laws of text_langtags.
-- Assumes nothing.
use mathlib.Core.List.{[]}
use Rattle.base_lists.proofs.More.{contra}
use Rattle.text_langtags.specs.Computed.{is_well_formed}
use Rattle.text_langtags.proofs.Sound as sound
use Rattle.text_langtags.proofs.Complete as complete
use Rattle.text_langtags.proofs.Cases as cases
use Rattle.text_langtags.proofs.Listed as lists
use Rattle.text_langtags.proofs.Plain as plain
use Rattle.proved_langtags.specs.WellFormedTags.{TagsExactly, AllowedExactly, CaseIgnored, RegularAreLangtags, IrregularAreNeither, AllAreTags, NoneIsEmpty}

pub tags_exactly : TagsExactly
tags_exactly s = (sound.sound s, complete.complete)

pub allowed_exactly : AllowedExactly
allowed_exactly s = (sound.allowed_sound s, complete.allowed_complete)

pub case-ignored : CaseIgnored
case-ignored s = (cases.well_formed_cased s, cases.allowed_cased s)

pub regular_are_langtags : RegularAreLangtags
regular_are_langtags = lists.regular_langtag

pub irregular_are_neither : IrregularAreNeither
irregular_are_neither s h = (lists.irregular_no_langtag s h, lists.irregular_no_private s h)

pub all_are_tags : AllAreTags
all_are_tags s h = plain.plain h

pub none_is_empty : NoneIsEmpty
none_is_empty h = contra (is_well_formed []) (complete.complete h) plain.not_empty
