-- Number 8 was given by nothing: however a set is put together, it has a slot for the id, one for the classes and one for each key.
-- Assumes nothing.
use Rattle.std.specs.Prelude.{Err, Ok, Result}
use mathlib.Core.Path.{◌≡◌, refl, sym, ◌∙◌}
use mathlib.Core.Bool.{Bool, true, false, cond, ◌&&◌}
use mathlib.Core.List.{List, [], ◌∷◌}
use Prim.Native.Nat.{ℕ, zero, suc, ◌≤◌}
use native.Mathlib.Omega.{arith}
use lib.Dec.{ltb}
use lib.ListN.{length}
use lib.Seq.{slice}
use borrow.Author.Tests.{ltb-false, le-ltb}
use Rattle.base_lists.proofs.Scan.{both}
use Rattle.base_refusals.specs.Numbers.{max_text, number_of, outcome_no}
use Rattle.base_refusals.specs.declared.Refusal.TheVariants.{TextTooLong, TooManyClasses, TooManyKeys, NotWellFormed}
use Rattle.base_refusals.proofs.Numbers.{eight_unused}
use Rattle.text_checks.specs.Check.{both_of}
use Rattle.block_grammar.specs.Computed.{read_payload}
use Rattle.block_grammar.specs.Grammar.{Reading}
use Rattle.block_chain.specs.Computed.{read_blocks}
use Rattle.set_table.specs.Types.{Texts, one, max_classes, max_keys, max_slots}
use Rattle.set_table.specs.Rows.{Rows, Put, no_rows, with_put, with_puts, table_of, rows_in}
use Rattle.set_table.specs.Puts.{puts_in}
use Rattle.set_table.specs.Filled.{refusing, limited}
use Rattle.set_table.specs.Inner.{OneEach}
use Rattle.set_table.specs.declared.Attrs.{Attrs}
use Rattle.set_table.specs.declared.Filled.{Filled}
use Rattle.set_table.proofs.Puts.{shaped_none, slots, shaped_put}
use Rattle.set_table.proofs.Slots.{slots_length}
use Rattle.set_fill.specs.Fill.{filled_by, filled_of, fill_at, chain_at}
use Rattle.set_wellformed.specs.WellFormed.{table_ok}
use Rattle.set_wellformed.proofs.Shape.{shaped}
use Rattle.set_merge.specs.Merge.{puts_by, merged_by, merge_of}
use Rattle.proved_sets.specs.HandedOut.{Throughout}
use Rattle.proved_sets.specs.Eight.{first_no, FirstOrder, NeverEight, NeverGiven, SetsNeverGiven}
use Rattle.base_refusals.specs.declared.Refusal.{Refusal}

-- ---- the order with 8

pub first_order : FirstOrder
unfolding limited number_of table_of
first_order s = go (ltb max_classes (length s.classes)) (ltb max_keys (length s.keys))
  where
    R : Bool → Bool → Filled
    R x y = cond x (refusing TooManyClasses) (cond y (refusing TooManyKeys) (record { outcome = Ok tt; set = table_of s }))

    go : (x y : Bool) → first_no (outcome_no (R x y).outcome) (R x y).set ≡ cond x 6 (cond y 7 (cond (ltb max_slots (length s.order)) 8 0))
    go true y = refl
    go false true = refl
    go false false = refl

-- ---- few slots are enough

abbrev pub Few : Attrs → Type 0
Few a = a.norder ≤ max_slots

stays : (n : ℕ) (a : Attrs) → (n ≡ 0 → Few a) → first_no n a ≡ n
stays zero a h = rw (le-ltb max_slots a.norder (h refl))
stays (suc n) a h = refl

pub never_eight : (n : ℕ) (a : Attrs) → (n ≡ 8 → ⊥) → (n ≡ 0 → Few a) → NeverEight n a
never_eight n a k h = let s = stays n a h in record { same = s; never = λ e. k (sym s ∙ e) }

pub outcome_eight : (o : Result (Unit {0}) Refusal) → outcome_no o ≡ 8 → ⊥
outcome_eight (Ok _) e = absurd (omega arith)
outcome_eight (Err r) e = eight_unused r e

pub never_given : (f : Filled) → Few f.set → NeverGiven f
never_given f h = never_eight (outcome_no f.outcome) f.set (outcome_eight f.outcome) (λ z. h)

-- ---- whatever is read or merged has few

-- rows keep a slot for each thing behind puts
each_puts : (t : Texts) {s : Rows} (ps : List Put) → OneEach s → OneEach (with_puts t s ps)
unfolding with_puts
each_puts t [] h = h
each_puts t {s = s} (p ∷ ps) h = each_puts t {s = with_put t s p} ps (shaped_put t p h)

limited_few : (s : Rows) → OneEach s → Few (limited s).set
unfolding limited table_of
limited_few s h = go (ltb max_classes (length s.classes)) (ltb max_keys (length s.keys)) refl
  where
    go : (x y : Bool) → ltb max_keys (length s.keys) ≡ y → Few (cond x (refusing TooManyClasses) (cond y (refusing TooManyKeys) (record { outcome = Ok tt; set = table_of s }))).set
    go true y k = omega arith
    go false true k = omega arith
    go false false k = slots h (ltb-false max_keys (length s.keys) k)

-- a reading puts its items into the set with nothing in it
reading_few : (t : Texts) (r : Reading) → Few (filled_by t r).set
reading_few t Reading.refused = omega arith
reading_few t (Reading.items is) = limited_few (with_puts t no_rows (puts_in is)) (each_puts t (puts_in is) shaped_none)

sized_few : (t : List ℕ) (r : Reading) (b : Bool) → Few (cond b (refusing TextTooLong) (filled_by (one t) r)).set
sized_few t r true = omega arith
sized_few t r false = reading_few (one t) r

-- a merge puts the second table's rows into the first's, which has a slot for each thing as it is well-formed
merge_few : (t : Texts) (a b : Attrs) → Few (merge_of t a b).set
unfolding merge_of
merge_few t a b = go (both_of t.first t.second)
  where
    S : Rows
    S = with_puts t (rows_in a) (puts_by (rows_in b))

    pair : (x : Bool) → (table_ok t a && table_ok t b) ≡ x → Few (cond x (limited S) (refusing NotWellFormed)).set
    pair true e = limited_few S (each_puts t (puts_by (rows_in b)) (record { is = slots_length (shaped t a (both (table_ok t a) (table_ok t b) e).0) }))
    pair false e = omega arith

    go : (c : Result (Unit {0}) Refusal) → Few (merged_by c t a b).set
    go (Err r) = omega arith
    go (Ok _) = pair (table_ok t a && table_ok t b) refl

pub few_slots : Throughout (λ f. Few f.set)
unfolding fill_at filled_of chain_at
few_slots =
    record {
      fill = λ m t at end. sized_few t (read_payload m at (slice at end t)) (ltb max_text (length t));
      chain = λ m t from to. sized_few t (read_blocks m from (slice from to t)) (ltb max_text (length t));
      merge = merge_few;
    }

pub sets_never_given : SetsNeverGiven
sets_never_given =
    record {
      fill = λ m t at end. never_given (fill_at m t at end) (few_slots.fill m t at end);
      chain = λ m t from to. never_given (chain_at m t from to) (few_slots.chain m t from to);
      merge = λ t a b. never_given (merge_of t a b) (few_slots.merge t a b);
    }
