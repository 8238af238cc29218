-- Canonical texts as one line: "Show also that canonical texts of one or more non-empty sets, put back to back and read as one line, give the meaning of the merge, if
-- the line fits the text limit and the merge its limits of classes and keys. Both over CR 9's meaning."
use Rattle.std.specs.Prelude.{◌≡◌, true, ℕ, ◌≤◌, length, Ok}
use mathlib.Core.List.{List, [], ◌∷◌, map, flat_map}
use Rattle.base_refusals.specs.Numbers.{max_text}
use Rattle.block_grammar.specs.Meaning.{Entry}
use Rattle.text_line_start.specs.Starts.{place_of}
use Rattle.set_canon.specs.Canon.{canon}
use Rattle.set_table.specs.Types.{Texts, one}
use Rattle.set_table.specs.Rows.{listed_of, meaning_of}
use Rattle.set_table.specs.declared.Attrs.{Attrs}
use Rattle.set_wellformed.specs.WellFormed.{well_formed}
use Rattle.set_merge.specs.Merge.{merge_of}
use Rattle.read_blocks.specs.Blocks.{Found, block_of}
use Rattle.read_blocks.specs.ByLine.{block_found}
use Rattle.read_by_line.specs.Entries.{parse_standalone}
use Rattle.sheet_blocks.specs.Sheets.{blocks_of}
use Rattle.proved_groups.specs.Groups.{Within, merged_all, from_left, from_right, merge_each}

-- ---- the line

-- a set over two texts of its own
pub record SetOver : Type 0 where
  pub texts : Texts
  pub set : Attrs

abbrev pub its_meaning : SetOver → List Entry
its_meaning p = meaning_of p.texts p.set

-- "non-empty sets", well-formed over their texts
pub record NonEmpty (p : SetOver) : Type 0 where
  pub well : well_formed p.texts p.set ≡ true
  pub some : its_meaning p ≡ [] → ⊥

-- "one or more non-empty sets"
pub data Composable : List SetOver → Type 0 where
  last : {p : SetOver} → NonEmpty p → Composable (p ∷ [])
  more : {p : SetOver} {ps : List SetOver} → NonEmpty p → Composable ps → Composable (p ∷ ps)

-- "canonical texts .., put back to back"
unfoldable pub back_to_back : List SetOver → List ℕ
back_to_back ps = flat_map (λ p. canon (its_meaning p)) ps

-- what the sets list, one behind the other
abbrev pub over_listed : List SetOver → List Entry
over_listed ps = flat_map (λ p. listed_of p.texts p.set) ps

-- "if the line fits the text limit and the merge its limits of classes and keys"
pub record LineFits (ps : List SetOver) : Type 0 where
  pub sets : Composable ps
  pub short : length (back_to_back ps) ≤ max_text
  pub within : Within (over_listed ps)

-- ---- "read as one line, give the meaning of the merge"

pub record ReadAsLine (s : List ℕ) (m : List Entry) : Type 0 where
  -- `parse_standalone_attrs` of line 1
  pub passes : (parse_standalone s 1).outcome ≡ Ok tt
  pub means : meaning_of (one s) (parse_standalone s 1).set ≡ m
  -- `parse_standalone_attrs_block`, in whatever memory, takes it as a block of one line with nothing joined, and reads the same set
  pub block : (base cap : ℕ) → block_found s 1 base cap ≡ Found.line
  pub same : (block_of s (place_of s 1) Found.line).set ≡ (parse_standalone s 1).set
  -- and to the sheet program it is a block at its first try, and the only one
  pub sheet : blocks_of s ≡ record { line = 1; at = 0; found = Found.line } ∷ []

abbrev pub LineReads : Type 0
LineReads = (ps : List SetOver) → LineFits ps → ReadAsLine (back_to_back ps) (merged_all (map its_meaning ps))

-- one set: demand 3's "a canonical text reads back .. with that meaning", by line instead of at a brace
abbrev pub LineOfOne : Type 0
LineOfOne = (p : SetOver) → NonEmpty p → length (canon (its_meaning p)) ≤ max_text → ReadAsLine (canon (its_meaning p)) (its_meaning p)

-- ---- sets over the same texts: the line and the merge

abbrev pub all_over : Texts → List Attrs → List SetOver
all_over t sets = map (λ a. record { texts = t; set = a }) sets

abbrev pub line_meaning : List SetOver → List Entry
line_meaning ps = meaning_of (one (back_to_back ps)) (parse_standalone (back_to_back ps) 1).set

-- they mean the same, and so their canonical texts are equal
pub record LineIs (ps : List SetOver) (t : Texts) (a : Attrs) : Type 0 where
  pub means : line_meaning ps ≡ meaning_of t a
  pub text : canon (line_meaning ps) ≡ canon (meaning_of t a)

abbrev pub LineOfTwo : Type 0
LineOfTwo = (t : Texts) (a b : Attrs) → LineFits (all_over t (a ∷ b ∷ [])) → LineIs (all_over t (a ∷ b ∷ [])) t (merge_of t a b).set

-- in either grouping
abbrev pub LineOfThree : Type 0
LineOfThree = (t : Texts) (a b c : Attrs) → LineFits (all_over t (a ∷ b ∷ c ∷ [])) → LineIs (all_over t (a ∷ b ∷ c ∷ [])) t (from_left t a b c).set × LineIs (all_over t (a ∷ b ∷ c ∷ [])) t (from_right t a b c).set

-- any number, left to right
abbrev pub LineOfSeveral : Type 0
LineOfSeveral = (t : Texts) (a : Attrs) (bs : List Attrs) → LineFits (all_over t (a ∷ bs)) → LineIs (all_over t (a ∷ bs)) t (merge_each t a bs).set
