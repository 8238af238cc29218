-- What a set lists and means that was filled from a payload or from a line of blocks.
use Rattle.std.specs.Prelude.{◌≡◌, false, cond, List, [], ◌∷◌, ◌++◌, map, ℕ, Ok}
use Rattle.std.proofs.Math.Seq.{slice}
use Rattle.block_grammar.specs.Meaning.{is_class, lookup, fresh_after}
use Rattle.base_bytes.specs.declared.Mode.{Mode}
use Rattle.base_lists.specs.Lists.{same}
use Rattle.block_grammar.specs.Grammar.{Placed, Reading}
use Rattle.block_grammar.specs.Computed.{read_payload}
use Rattle.proved_grammar.specs.Meaning.{said, listed, meaning, absent, slot_names}
use Rattle.block_chain.specs.Chain.{Blocks}
use Rattle.proved_grammar.specs.Merged.{merged, block_items}
use Rattle.set_table.specs.Types.{one}
use Rattle.set_table.specs.Rows.{no_rows, with_puts, meant, listed_of, meaning_of}
use Rattle.set_table.specs.Puts.{puts_in}
use Rattle.set_fill.specs.Fill.{fill_at, chain_at}

-- What one item more, p behind the items `is`, changes in what they mean. So what a list of items means is settled, item by item.
pub record OneMore (is : List Placed) (p : Placed) : Type 0 where
  -- "The last id and the last value of a key win."; classes are joined, each once
  pub own : lookup (said p.item).name (meaning (is ++ (p ∷ [])))
      ≡ cond (is_class (said p.item).name) (fresh_after [] (lookup (said p.item).name (meaning is) ++ (said p.item).values)) (said p.item).values
  -- what has another name stays
  pub others : (n : List ℕ) → same (said p.item).name n ≡ false → lookup n (meaning (is ++ (p ∷ []))) ≡ lookup n (meaning is)
  -- "Slots: Id, Class and each key stand once, where first met."
  pub slots : slot_names (meaning (is ++ (p ∷ []))) ≡ slot_names (meaning is) ++ cond (absent (said p.item).name (meaning is)) ((said p.item).name ∷ []) []

abbrev pub LastWins : Type 0
LastWins = (is : List Placed) (p : Placed) → OneMore is p

-- "Reading .. still list[s] every class": the rows that the items of a payload put into a set, as ranges of the text t in which it stands from `at` up to
-- `end`, list what the items list.
abbrev pub ReadLists : Type 0
ReadLists = (m : Mode) (t : List ℕ) (at end : ℕ) (is : List Placed) → read_payload m at (slice at end t) ≡ Reading.items is
    → meant (one t) (with_puts (one t) no_rows (puts_in is)) ≡ listed is

-- So does the table that `fill` hands out, with its arrays and counts, ..
abbrev pub FillLists : Type 0
FillLists = (m : Mode) (t : List ℕ) (at end : ℕ) (is : List Placed) → (fill_at m t at end).outcome ≡ Ok tt → read_payload m at (slice at end t) ≡ Reading.items is
    → listed_of (one t) (fill_at m t at end).set ≡ listed is

-- .. and that which `fill_chain` hands out of blocks back to back.
abbrev pub LineLists : Type 0
LineLists = (m : Mode) (t : List ℕ) (from to : ℕ) (is : List Placed) → (chain_at m t from to).outcome ≡ Ok tt → Blocks m from (slice from to t) is
    → listed_of (one t) (chain_at m t from to).set ≡ listed is

-- So what `fill` hands out means what the items mean.
abbrev pub FillMeans : Type 0
FillMeans = (m : Mode) (t : List ℕ) (at end : ℕ) (is : List Placed) → (fill_at m t at end).outcome ≡ Ok tt → read_payload m at (slice at end t) ≡ Reading.items is
    → meaning_of (one t) (fill_at m t at end).set ≡ meaning is

-- "A line is trimmed, then blocks stand back to back to its end and are merged left to right.": what `fill_chain` hands out of the blocks from `from` up to `to`.
abbrev pub LineMeans : Type 0
LineMeans = (m : Mode) (t : List ℕ) (from to : ℕ) (is : List Placed) → (chain_at m t from to).outcome ≡ Ok tt → (p : Blocks m from (slice from to t) is)
    → meaning_of (one t) (chain_at m t from to).set ≡ merged [] (map meaning (block_items p))
