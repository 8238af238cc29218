-- What the set of a payload means, and that of a line: the meanings of its blocks, merged left to right.
-- Assumes nothing.
use Rattle.std.specs.Prelude.{Ok}
use mathlib.Core.Path.{◌≡◌, refl, ap, ◌∙◌}
use mathlib.Core.Bool.{Bool, true, false, cond}
use mathlib.Core.List.{List}
use Prim.Native.Nat.{ℕ}
use lib.Dec.{ltb}
use lib.ListN.{length}
use lib.Seq.{slice}
use Rattle.base_lists.proofs.More.{contra}
use Rattle.block_grammar.specs.Grammar.{Placed, Reading}
use Rattle.block_grammar.specs.Computed.{read_payload}
use Rattle.proved_grammar.specs.Meaning.{meaning, listed}
use Rattle.block_chain.specs.Computed.{read_blocks}
use Rattle.proved_grammar.proofs.Stands.{read_stands}
use Rattle.proved_grammar.proofs.Merged.{line_merges}
use Rattle.proved_grammar.proofs.Blocks.{complete}
use Rattle.base_refusals.specs.declared.Refusal.TheVariants.{TextTooLong, TooManyClasses, TooManyKeys}
use Rattle.base_refusals.specs.Numbers.{max_text}
use Rattle.set_table.specs.Types.{one, max_classes, max_keys}
use Rattle.set_table.specs.Rows.{Rows, no_rows, with_puts, table_of, meaning_of, listed_of}
use Rattle.set_table.specs.Puts.{puts_in}
use Rattle.proved_sets.proofs.Items.{rows_list, payload_stands}
use Rattle.proved_grammar.proofs.Places.{Standing}
use Rattle.proved_sets.specs.Read.{FillLists, LineLists, FillMeans, LineMeans}
use Rattle.proved_sets.proofs.TableWhole.{table_lists}
use Rattle.set_table.specs.declared.Filled.{Filled}
use Rattle.set_table.specs.Filled.{refusing, limited}
use Rattle.set_fill.specs.Fill.{filled_by, filled_of, fill_at, chain_at}
use Rattle.block_grammar.specs.Meaning.{classes_once}

-- what is handed out is the table of the rows
done : (s : Rows) → (limited s).outcome ≡ Ok tt → (limited s).set ≡ table_of s
unfolding limited
done s = go (ltb max_classes (length s.classes)) (ltb max_keys (length s.keys))
  where
    made : Filled
    made = record { outcome = Ok tt; set = table_of s }

    go : (x y : Bool) → (cond x (refusing TooManyClasses) (cond y (refusing TooManyKeys) made)).outcome ≡ Ok tt
        → (cond x (refusing TooManyClasses) (cond y (refusing TooManyKeys) made)).set ≡ table_of s
    go true y e = contra true refl (cc)
    go false true e = contra true refl (cc)
    go false false e = refl

-- the set of a reading whose items stand in the text
filled_lists : (t : List ℕ) (x : Bool) (r : Reading) {is : List Placed} → r ≡ Reading.items is → Standing t is
    → (cond x (refusing TextTooLong) (filled_by (one t) r)).outcome ≡ Ok tt → listed_of (one t) (cond x (refusing TextTooLong) (filled_by (one t) r)).set ≡ listed is
filled_lists t x r {is} e h d = rw e (go x (rw e at d))
  where
    s : Rows
    s = with_puts (one t) no_rows (puts_in is)

    go : (x : Bool) → (cond x (refusing TextTooLong) (limited s)).outcome ≡ Ok tt → listed_of (one t) (cond x (refusing TextTooLong) (limited s)).set ≡ listed is
    go true q = contra true refl (cc)
    go false q = ap (listed_of (one t)) (done s q) ∙ table_lists s (one t) ∙ rows_list h

pub fill_lists : FillLists
unfolding fill_at filled_of
fill_lists m t at end is d e = filled_lists t (ltb max_text (length t)) (read_payload m at (slice at end t)) e (payload_stands m t at end is e) d

pub fill_means : FillMeans
unfolding meaning meaning_of
fill_means m t at end is d e = ap classes_once (fill_lists m t at end is d e)

pub line_lists : LineLists
unfolding chain_at
line_lists m t from to is d p =
    let e = complete p in
    filled_lists t (ltb max_text (length t)) (read_blocks m from (slice from to t)) e (read_stands m t from to is e) d

pub line_merged : LineMeans
unfolding meaning_of meaning
line_merged m t from to is d p = ap classes_once (line_lists m t from to is d p) ∙ line_merges p
