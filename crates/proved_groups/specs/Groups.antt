-- Sets over two texts merged in any grouping: "Show that merging three well-formed sets gives the same meaning however they are grouped, given that the merge of all
-- three is within the limits, and that no step on the way is then refused."
use Rattle.std.specs.Prelude.{◌≡◌, true, ◌≤◌, Err, Ok, Result}
use mathlib.Core.List.{List, [], ◌∷◌, ◌++◌, map, flat_map}
use Rattle.base_lists.specs.Lists.{all}
use Rattle.block_grammar.specs.Meaning.{Entry}
use Rattle.proved_grammar.specs.Merged.{merged}
use Rattle.set_table.specs.Types.{Texts, max_classes, max_keys}
use Rattle.set_table.specs.Rows.{listed_of, meaning_of}
use Rattle.set_table.specs.Filled.{refusing}
use Rattle.set_table.specs.declared.Attrs.{Attrs}
use Rattle.set_table.specs.declared.Filled.{Filled}
use Rattle.set_wellformed.specs.WellFormed.{well_formed}
use Rattle.set_merge.specs.Merge.{merge_of}
use Rattle.proved_sets.specs.Limits.{class_count, key_count}
use Rattle.proved_sets.specs.Formed.{HasNothing}
use Rattle.proved_sets.specs.Merged.{merge_meaning}
use Rattle.base_refusals.specs.declared.Refusal.{Refusal}

-- ---- sets and their limits

-- "well-formed sets", over the same two texts, which then give neither 1 nor 2; a range of any of them may be of either
abbrev pub AllFormed : Texts → List Attrs → Type 0
AllFormed t sets = all (well_formed t) sets ≡ true

-- what sets list, one behind the other
abbrev pub all_listed : Texts → List Attrs → List Entry
all_listed t sets = flat_map (listed_of t) sets

-- "within the limits": as a merge lists, so a class counts each time that it is listed, and a key once
pub record Within (es : List Entry) : Type 0 where
  pub classes : class_count es ≤ max_classes
  pub keys : key_count es ≤ max_keys

-- "the merge of all three is within the limits": it speaks of the sets alone, and of no grouping
abbrev pub AllWithin : Texts → List Attrs → Type 0
AllWithin t sets = Within (all_listed t sets)

-- what meanings come to that are merged left to right, any number of them
abbrev pub merged_all : List (List Entry) → List Entry
merged_all ms = merged [] ms

-- what sets mean, merged left to right
abbrev pub all_mean : Texts → List Attrs → List Entry
all_mean t sets = merged_all (map (meaning_of t) sets)

-- ---- the two groupings of three sets

-- b merged into a, and c into that
abbrev pub from_left : Texts → Attrs → Attrs → Attrs → Filled
from_left t a b c = merge_of t (merge_of t a b).set c

-- c merged into b, and that into a
abbrev pub from_right : Texts → Attrs → Attrs → Attrs → Filled
from_right t a b c = merge_of t a (merge_of t b c).set

-- no step is refused
pub record LeftPasses (t : Texts) (a b c : Attrs) : Type 0 where
  pub first : (merge_of t a b).outcome ≡ Ok tt
  pub second : (from_left t a b c).outcome ≡ Ok tt

pub record RightPasses (t : Texts) (a b c : Attrs) : Type 0 where
  pub first : (merge_of t b c).outcome ≡ Ok tt
  pub second : (from_right t a b c).outcome ≡ Ok tt

-- `merge_leading_attrs` of a target and a leading set is the same merge with its arguments changed over, so its two groupings are these two
abbrev pub leading_of : Texts → Attrs → Attrs → Filled
leading_of t target leading = merge_of t leading target

pub record LeadsAlike (t : Texts) (a b c : Attrs) : Type 0 where
  pub left : leading_of t c (leading_of t b a).set ≡ from_left t a b c
  pub right : leading_of t (leading_of t c b).set a ≡ from_right t a b c

abbrev pub LeadingGroups : Type 0
LeadingGroups = (t : Texts) (a b c : Attrs) → LeadsAlike t a b c

-- ---- "no step on the way is then refused"

abbrev pub NoStepRefused : Type 0
NoStepRefused = (t : Texts) (a b c : Attrs) → AllFormed t (a ∷ b ∷ c ∷ []) → AllWithin t (a ∷ b ∷ c ∷ []) → LeftPasses t a b c × RightPasses t a b c

-- and the condition asks no more than that: where no step of either grouping is refused, all three are within the limits
abbrev pub OnlyWithin : Type 0
OnlyWithin = (t : Texts) (a b c : Attrs) → AllFormed t (a ∷ b ∷ c ∷ []) → (LeftPasses t a b c → AllWithin t (a ∷ b ∷ c ∷ [])) × (RightPasses t a b c → AllWithin t (a ∷ b ∷ c ∷ []))

-- so one grouping has a step that is refused exactly when the other has
abbrev pub PassTogether : Type 0
PassTogether = (t : Texts) (a b c : Attrs) → AllFormed t (a ∷ b ∷ c ∷ []) → (LeftPasses t a b c → RightPasses t a b c) × (RightPasses t a b c → LeftPasses t a b c)

-- ---- "the same meaning however they are grouped"

pub record GroupsMean (t : Texts) (a b c : Attrs) (m : List Entry) : Type 0 where
  pub left : meaning_of t (from_left t a b c).set ≡ m
  pub right : meaning_of t (from_right t a b c).set ≡ m
  -- even what is listed is the same
  pub lists : listed_of t (from_left t a b c).set ≡ listed_of t (from_right t a b c).set

abbrev pub AnyGrouping : Type 0
AnyGrouping = (t : Texts) (a b c : Attrs) → AllFormed t (a ∷ b ∷ c ∷ []) → AllWithin t (a ∷ b ∷ c ∷ []) → GroupsMean t a b c (all_mean t (a ∷ b ∷ c ∷ []))

-- ---- "An empty set .. merges as nothing" (document 01), wherever it stands among others: it takes no room, and the meaning is that of the others

pub record NothingAdded (t : Texts) (fore aft : List Attrs) (e : Attrs) : Type 0 where
  pub lists : all_listed t (fore ++ (e ∷ aft)) ≡ all_listed t (fore ++ aft)
  pub means : all_mean t (fore ++ (e ∷ aft)) ≡ all_mean t (fore ++ aft)

abbrev pub EmptyAmong : Type 0
EmptyAmong = (t : Texts) (fore aft : List Attrs) (e : Attrs) → HasNothing e → NothingAdded t fore aft e

-- one of three
abbrev pub OneEmpty : Type 0
OneEmpty = (t : Texts) (e a b : Attrs) → HasNothing e → AllFormed t (a ∷ b ∷ []) → AllWithin t (a ∷ b ∷ [])
    → GroupsMean t e a b (merge_meaning t a b) × GroupsMean t a e b (merge_meaning t a b) × GroupsMean t a b e (merge_meaning t a b)

-- two of three
abbrev pub TwoEmpty : Type 0
TwoEmpty = (t : Texts) (d e a : Attrs) → HasNothing d → HasNothing e → well_formed t a ≡ true
    → GroupsMean t a d e (meaning_of t a) × GroupsMean t d a e (meaning_of t a) × GroupsMean t d e a (meaning_of t a)

-- ---- any number of sets, merged left to right

-- a refusal stands, else it goes on
abbrev pub unless_refused : Result (Unit {0}) Refusal → Filled → Filled
unless_refused (Err r) f = refusing r
unless_refused (Ok _) f = f

unfoldable pub merge_each : Texts → Attrs → List Attrs → Filled
merge_each t a [] = record { outcome = Ok tt; set = a }
merge_each t a (b ∷ bs) = unless_refused (merge_of t a b).outcome (merge_each t (merge_of t a b).set bs)

pub record SeveralMerged (t : Texts) (a : Attrs) (bs : List Attrs) : Type 0 where
  pub passes : (merge_each t a bs).outcome ≡ Ok tt
  pub formed : well_formed t (merge_each t a bs).set ≡ true
  pub means : meaning_of t (merge_each t a bs).set ≡ all_mean t (a ∷ bs)

abbrev pub SeveralMerge : Type 0
SeveralMerge = (t : Texts) (a : Attrs) (bs : List Attrs) → AllFormed t (a ∷ bs) → AllWithin t (a ∷ bs) → SeveralMerged t a bs

-- and only then
abbrev pub SeveralOnly : Type 0
SeveralOnly = (t : Texts) (a : Attrs) (bs : List Attrs) → AllFormed t (a ∷ bs) → (merge_each t a bs).outcome ≡ Ok tt → AllWithin t (a ∷ bs)
