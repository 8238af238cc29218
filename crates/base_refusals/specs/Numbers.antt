-- The refusals and their numbers: the table of document 01's 'Sizes and refusal numbers'.
use Rattle.std.specs.Prelude.{ℕ, Bool, List, [], ltb, length, Err, Ok, Result}
use Rattle.base_refusals.specs.declared.Refusal.{Refusal}
use Rattle.base_refusals.specs.declared.Refusal.TheVariants.{TextTooLong, NotUtf8, NothingThere, NoClose, NoReading, TooManyClasses, TooManyKeys, JoinFull, CanonTooLong, NotWellFormed, EmptySet, BadTag, NotAnIndex, TableFull, AnotherVersion, TotalTooLarge, TooManyColumns, IndexTooLong, BadSetting, SharedValve}

-- "Text at most 65,535 bytes"
abbrev pub max_text : ℕ
max_text = 65535

-- "text above 65,535 bytes"
abbrev pub too_long : List ℕ → Bool
too_long t = ltb max_text (length t)

-- the last number of the table
abbrev pub last_number : ℕ
last_number = 21

unfoldable pub number_of : Refusal → ℕ
-- "text above 65,535 bytes"
number_of TextTooLong = 1
-- "not UTF-8: the payload at a brace; the whole text elsewhere"
number_of NotUtf8 = 2
-- "no `{` at the place; no such line; trimmed line doesn't start with `{`; .."
number_of NothingThere = 3
-- "at a brace: no close"
number_of NoClose = 4
-- "at a brace, no reading of the payload exists; elsewhere, not a good line .."
number_of NoReading = 5
-- "grammatical, more than 64 classes"
number_of TooManyClasses = 6
-- "grammatical, more than 64 distinct keys"
number_of TooManyKeys = 7
-- "8 stays unused."
-- "the next line to join doesn't fit the join buffer, .."
number_of JoinFull = 9
-- "canonical text above 65,535 bytes or the lent buffer"
number_of CanonTooLong = 10
-- "table not well-formed over its texts"
number_of NotWellFormed = 11
-- "empty set given to the writer"
number_of EmptySet = 12
-- "13 not well-formed, in strict reading"
number_of BadTag = 13
-- "14 not an index of this form or, when mending, not that of the old text"
number_of NotAnIndex = 14
-- "15 lent record table full"
number_of TableFull = 15
-- "16 first line right but for another number"
number_of AnotherVersion = 16
-- "17 a total would not fit"
number_of TotalTooLarge = 17
-- "18 more than 32 columns"
number_of TooManyColumns = 18
-- "19 index text longer than its lent buffer"
number_of IndexTooLong = 19
-- "20, one or two of the three keys missing or any out of range"
number_of BadSetting = 20
-- "21, a valve at two wheels"
number_of SharedValve = 21

-- nothing is refused
abbrev pub passed : Result (Unit {0}) Refusal
passed = Ok tt

-- something is, for a reason
abbrev pub refused : Refusal → Result (Unit {0}) Refusal
refused r = Err r

-- the number that is told: 0 where nothing is refused
abbrev pub outcome_no : Result (Unit {0}) Refusal → ℕ
outcome_no (Ok _) = 0
outcome_no (Err r) = number_of r

-- ---- "When an answer is an enum, a definition provides this paper's number and values for each of the enum's cases. The promises use that definition."

-- a number of the table, 0 where none of it is given, and the values that are answered with it
pub record Paper : Type 0 where
  pub number : ℕ
  pub values : List ℕ

abbrev pub refused_paper : Refusal → Paper
refused_paper r = record { number = number_of r; values = [] }

abbrev pub passed_paper : List ℕ → Paper
passed_paper vs = record { number = 0; values = vs }
