use Rattle.base_refusals.specs.Numbers.{number_of}
use borrow.Author.Rules.{rules}
use Rattle.base_refusals.proofs.number.Goals as goal

pub returns-in-TextTooLong : goal.returns-in-TextTooLong
unfolding number_of
returns-in-TextTooLong c = rw c.in-TextTooLong.is

pub returns-in-NotUtf8 : goal.returns-in-NotUtf8
unfolding number_of
returns-in-NotUtf8 c = rw c.in-NotUtf8.is

pub returns-in-NothingThere : goal.returns-in-NothingThere
unfolding number_of
returns-in-NothingThere c = rw c.in-NothingThere.is

pub returns-in-NoClose : goal.returns-in-NoClose
unfolding number_of
returns-in-NoClose c = rw c.in-NoClose.is

pub returns-in-NoReading : goal.returns-in-NoReading
unfolding number_of
returns-in-NoReading c = rw c.in-NoReading.is

pub returns-in-TooManyClasses : goal.returns-in-TooManyClasses
unfolding number_of
returns-in-TooManyClasses c = rw c.in-TooManyClasses.is

pub returns-in-TooManyKeys : goal.returns-in-TooManyKeys
unfolding number_of
returns-in-TooManyKeys c = rw c.in-TooManyKeys.is

pub returns-in-JoinFull : goal.returns-in-JoinFull
unfolding number_of
returns-in-JoinFull c = rw c.in-JoinFull.is

pub returns-in-CanonTooLong : goal.returns-in-CanonTooLong
unfolding number_of
returns-in-CanonTooLong c = rw c.in-CanonTooLong.is

pub returns-in-NotWellFormed : goal.returns-in-NotWellFormed
unfolding number_of
returns-in-NotWellFormed c = rw c.in-NotWellFormed.is

pub returns-in-EmptySet : goal.returns-in-EmptySet
unfolding number_of
returns-in-EmptySet c = rw c.in-EmptySet.is

pub returns-in-BadTag : goal.returns-in-BadTag
unfolding number_of
returns-in-BadTag c = rw c.in-BadTag.is

pub returns-in-NotAnIndex : goal.returns-in-NotAnIndex
unfolding number_of
returns-in-NotAnIndex c = rw c.in-NotAnIndex.is

pub returns-in-TableFull : goal.returns-in-TableFull
unfolding number_of
returns-in-TableFull c = rw c.in-TableFull.is

pub returns-in-AnotherVersion : goal.returns-in-AnotherVersion
unfolding number_of
returns-in-AnotherVersion c = rw c.in-AnotherVersion.is

pub returns-in-TotalTooLarge : goal.returns-in-TotalTooLarge
unfolding number_of
returns-in-TotalTooLarge c = rw c.in-TotalTooLarge.is

pub returns-in-TooManyColumns : goal.returns-in-TooManyColumns
unfolding number_of
returns-in-TooManyColumns c = rw c.in-TooManyColumns.is

pub returns-in-IndexTooLong : goal.returns-in-IndexTooLong
unfolding number_of
returns-in-IndexTooLong c = rw c.in-IndexTooLong.is

pub returns-in-BadSetting : goal.returns-in-BadSetting
unfolding number_of
returns-in-BadSetting c = rw c.in-BadSetting.is

pub returns-in-SharedValve : goal.returns-in-SharedValve
unfolding number_of
returns-in-SharedValve c = rw c.in-SharedValve.is
