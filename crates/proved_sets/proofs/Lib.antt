-- The proofs of what specs/ states of sets, with the laws that they rest on.
-- ---- what is read into a set means
pub mod Slots
pub mod Limited
pub mod Shaping
pub mod TableMeant
pub mod TableWhole
pub mod Items
pub mod LineMeant
pub mod Counts
pub mod Limits
-- ---- canonical text
pub mod CanonAtBrace
pub mod CanonValues
pub mod CanonParts
pub mod CanonPuts
pub mod CanonWellFormed
pub mod CanonOnce
pub mod CanonBack
pub mod CanonAgain
-- ---- well-formed tables
pub mod WellFormedShape
pub mod WellFormedMeans
pub mod MeansUtf8
pub mod PutsKept
pub mod PutsParts
pub mod PutsItems
pub mod PutsRead
-- ---- merging
pub mod MergeByNames
pub mod MergePuts
pub mod MergeRest
pub mod MergeMeans
pub mod MergeRules
-- ---- every set handed out
pub mod Settled
pub mod Zeroed
pub mod Eight
