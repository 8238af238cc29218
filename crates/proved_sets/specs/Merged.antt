-- What a merge of two sets comes to, over the two texts that their ranges are of.
use Rattle.std.specs.Prelude.{◌≡◌, true, false, cond, List, [], ◌∷◌, ◌++◌, ℕ, ◌<◌, length, get_or, Err, Ok, Result}
use Rattle.base_refusals.specs.declared.Refusal.TheVariants.{NotWellFormed}
use Rattle.block_grammar.specs.Meaning.{Entry, class_name, is_class, lookup, fresh_after}
use Rattle.proved_grammar.specs.Meaning.{puts, slot_names, absent}
use Rattle.proved_grammar.specs.Merged.{joined_meaning}
use Rattle.set_table.specs.Types.{Texts, zero_row}
use Rattle.set_table.specs.Rows.{table_of, rows_in, listed_of, meaning_of}
use Rattle.set_table.specs.declared.Attrs.{Attrs}
use Rattle.set_wellformed.specs.WellFormed.{well_formed}
use Rattle.set_merge.specs.Merge.{merge_of}
use Rattle.proved_sets.specs.Formed.{HasNothing}
use Rattle.proved_sets.specs.Limits.{Exactly, TextsGiven, LimitGiven}
use Rattle.base_refusals.specs.declared.Refusal.{Refusal}

-- the names of the second meaning that the first hasn't, in their order
unfoldable pub new_slots : List Entry → List Entry → List (List ℕ)
new_slots m [] = []
new_slots m (e ∷ es) = cond (absent e.name m) (e.name ∷ new_slots m es) (new_slots m es)

-- what the set means that a merge of b into a hands out
abbrev pub merge_meaning : Texts → Attrs → Attrs → List Entry
merge_meaning t a b = meaning_of t (merge_of t a b).set

pub record MergedWell (t : Texts) (a b : Attrs) : Type 0 where
  -- "Reading and merging still list every class": what b lists is put into what a lists
  pub lists : listed_of t (merge_of t a b).set ≡ puts (listed_of t a) (listed_of t b)
  -- all at once: what b means is put into what a means, each class once
  pub means : merge_meaning t a b ≡ joined_meaning (meaning_of t a) (meaning_of t b)
  -- "Merging: a later id wins, .., later key values win"
  pub later_wins : (n : List ℕ) → absent n (meaning_of t b) ≡ false → is_class n ≡ false → lookup n (merge_meaning t a b) ≡ lookup n (meaning_of t b)
  pub earlier_stays : (n : List ℕ) → absent n (meaning_of t b) ≡ true → lookup n (merge_meaning t a b) ≡ lookup n (meaning_of t a)
  -- "classes are joined", each once
  pub classes_joined : lookup class_name (merge_meaning t a b) ≡ fresh_after [] (lookup class_name (meaning_of t a) ++ lookup class_name (meaning_of t b))
  -- "new slots go behind"
  pub new_behind : slot_names (merge_meaning t a b) ≡ slot_names (meaning_of t a) ++ new_slots (meaning_of t a) (meaning_of t b)
  -- "a key met again keeps its row and first name"
  pub rows_kept : (k : ℕ) → k < length (rows_in a).keys → (get_or (rows_in (merge_of t a b).set).keys k zero_row).name ≡ (get_or (rows_in a).keys k zero_row).name
  -- ".. every set handed out, and it is well-formed if its text gives neither 1 nor 2."
  pub formed : well_formed t (merge_of t a b).set ≡ true

abbrev pub MergeGives : Type 0
MergeGives = (t : Texts) (a b : Attrs) → (merge_of t a b).outcome ≡ Ok tt → MergedWell t a b

-- ---- "11 (either set, over both), 6, 7": where neither text gives 1 or 2
pub data MergeGiven (t : Texts) (a b : Attrs) : Result (Unit {0}) Refusal → List Entry → Type 0 where
  -- 11: "table not well-formed over its texts"
  malformed : (well_formed t a ≡ true → well_formed t b ≡ true → ⊥) → MergeGiven t a b (Err NotWellFormed) []
  -- 6 and 7, counted over what both list; else the one meaning put into the other
  formed : {o : Result (Unit {0}) Refusal} {s : List Entry} → well_formed t a ≡ true → well_formed t b ≡ true
      → LimitGiven (listed_of t a ++ listed_of t b) (joined_meaning (meaning_of t a) (meaning_of t b)) o s → MergeGiven t a b o s

abbrev pub MergeByRules : Type 0
MergeByRules = (t : Texts) (a b : Attrs) → Exactly (TextsGiven t (MergeGiven t a b)) (merge_of t a b).outcome (merge_meaning t a b)

-- ---- "An empty set is well-formed and merges as nothing."
pub record AsNothing (t : Texts) (e a : Attrs) : Type 0 where
  -- merged into a set it leaves that as it is, but for rows past the counts, which are zero in what is handed out
  pub behind : merge_of t a e ≡ record { outcome = Ok tt; set = table_of (rows_in a) }
  -- a set that is merged into it isn't refused, and keeps all that it lists
  pub passes : (merge_of t e a).outcome ≡ Ok tt
  pub keeps : listed_of t (merge_of t e a).set ≡ listed_of t a

abbrev pub EmptyMerges : Type 0
EmptyMerges = (t : Texts) (e a : Attrs) → HasNothing e → well_formed t a ≡ true → AsNothing t e a
