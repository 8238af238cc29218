-- "blocks stand back to back to its end and are merged left to right. Merging: a later id wins, classes are joined, later key values win, new slots go behind."
use Rattle.std.specs.Prelude.{◌≡◌, true, ℕ}
use mathlib.Core.List.{List, [], ◌∷◌, ◌++◌, map, foldl}
use Rattle.base_bytes.specs.declared.Mode.{Mode}
use Rattle.block_grammar.specs.Grammar.{Placed}
use Rattle.block_grammar.specs.Meaning.{Entry, classes_once}
use Rattle.proved_grammar.specs.Meaning.{puts, meaning, distinct}
use Rattle.block_chain.specs.Chain.{Blocks}

-- the items of each block
abbrev pub block_items : {m : Mode} {at : ℕ} {s : List ℕ} {is : List Placed} → Blocks m at s is → List (List Placed)
block_items (Blocks.one {is = is} b) = is ∷ []
block_items (Blocks.more {is = is} b p) = is ∷ block_items p

-- "Merging: a later id wins, classes are joined, later key values win, new slots go behind.", and each class once
unfoldable pub joined_meaning : List Entry → List Entry → List Entry
joined_meaning m n = classes_once (puts m n)

-- "merged left to right": each set in turn is put into what came before
unfoldable pub merged : List Entry → List (List Entry) → List Entry
merged m rest = foldl joined_meaning m rest

-- "merged left to right": what a line means is the merge of what its blocks mean
abbrev pub LineMerges : Mode → ℕ → List ℕ → List Placed → Type 0
LineMerges m at s is = (p : Blocks m at s is) → meaning is ≡ merged [] (map meaning (block_items p))

-- items one after the other mean the merge of both
abbrev pub MeaningAppends : Type 0
MeaningAppends = (is js : List Placed) → meaning (is ++ js) ≡ joined_meaning (meaning is) (meaning js)

-- whether each class stands once before a merge or only behind it doesn't matter
abbrev pub MergeOfMeanings : Type 0
MergeOfMeanings = (m n : List Entry) → joined_meaning (classes_once m) (classes_once n) ≡ joined_meaning m n

-- and from which side merging begins doesn't matter
abbrev pub MergeAssociates : Type 0
MergeAssociates = (m a b : List Entry) → distinct a ≡ true → joined_meaning (joined_meaning m a) b ≡ joined_meaning m (joined_meaning a b)
