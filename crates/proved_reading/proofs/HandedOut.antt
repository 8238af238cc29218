-- The set that reading at a brace hands out is well-formed, that of a refusal too: it is the empty one.
-- Assumes nothing.
use Rattle.std.specs.Prelude.{None, Ok, Option, Some}
use mathlib.Core.Path.{◌≡◌, refl}
use mathlib.Core.Bool.{Bool, true, false, cond}
use mathlib.Core.List.{List, [], ◌∷◌}
use Prim.Native.Nat.{ℕ, suc}
use native.Mathlib.Omega.{arith}
use borrow.Author.Tests.{eqb-true, ltb-true, ltb-false}
use lib.Dec.{ltb, eqb}
use lib.ListN.{length, get_or}
use lib.Seq.{slice}
use Rattle.base_lists.specs.Lists.{all}
use Rattle.base_lists.proofs.Scan.{both}
use Rattle.base_lists.proofs.More.{contra}
use Rattle.text_utf8.specs.Computed.{is_utf8}
use Rattle.text_checks.proofs.Texts.{text_utf8}
use Rattle.base_refusals.specs.Numbers.{max_text}
use Rattle.base_refusals.specs.declared.Refusal.TheVariants.{NotUtf8, NothingThere, TextTooLong, TooManyClasses, TooManyKeys}
use Rattle.block_grammar.specs.Grammar.{Placed, Reading}
use Rattle.block_grammar.specs.Computed.{read_from, read_payload}
use Rattle.block_grammar.specs.ComputedClose.{find_close}
use Rattle.block_places.specs.Computed.{payload_place}
use Rattle.set_table.specs.Types.{Texts, one, empty_set, max_classes, max_keys}
use Rattle.set_table.specs.Rows.{Rows, no_rows, with_puts, table_of}
use Rattle.set_table.specs.Puts.{puts_in}
use Rattle.proved_origins.proofs.Checks.{empty_text}
use Rattle.set_wellformed.specs.WellFormed.{rows_ok, table_ok, well_formed}
use Rattle.proved_sets.proofs.PutsKept.{put_ok, rows_none, rows_puts, table_ok_lem}
use Rattle.proved_sets.proofs.PutsParts.{own_part}
use Rattle.proved_sets.proofs.PutsRead.{read_ok, brace_part, brace_flat}
use Rattle.proved_sets.proofs.TableWhole.{empty_table}
use Rattle.set_fill.specs.Fill as fills
use Rattle.set_table.specs.declared.Filled.{Filled}
use Rattle.proved_reading.specs.HandedSets.{BraceFormed, FillFormed}
use Rattle.read_brace.specs.Brace.{refusing_read, brace_at, payload_of, finished, read_to, at_brace, read_attrs_at}
use Rattle.set_table.specs.Filled as filled
use Rattle.set_table.specs.Filled.{limited}

-- ---- sets that were filled
pub empty_ok : (t : Texts) → table_ok t empty_set ≡ true
empty_ok t = rw (← empty_table) (table_ok_lem t no_rows (rows_none t) (omega arith) (omega arith))

limited_ok : (t : Texts) (s : Rows) → rows_ok t s ≡ true → table_ok t (limited s).set ≡ true
unfolding limited
limited_ok t s h = go (ltb max_classes (length s.classes)) refl (ltb max_keys (length s.keys)) refl
  where
    go : (a : Bool) → ltb max_classes (length s.classes) ≡ a → (b : Bool) → ltb max_keys (length s.keys) ≡ b
        → table_ok t (cond {A = Filled} a (filled.refusing TooManyClasses) (cond b (filled.refusing TooManyKeys) (record { outcome = Ok tt; set = table_of s }))).set ≡ true
    go true p b q = empty_ok t
    go false p true q = empty_ok t
    go false p false q = table_ok_lem t s h (ltb-false max_classes (length s.classes) p) (ltb-false max_keys (length s.keys) q)

-- by a reading whose items put only what is good
pub filled_ok : (t : Texts) (r : Reading) → ((is : List Placed) → r ≡ Reading.items is → all (put_ok t) (puts_in is) ≡ true) → table_ok t (fills.filled_by t r).set ≡ true
filled_ok t Reading.refused h = empty_ok t
filled_ok t (Reading.items is) h = limited_ok t (with_puts t no_rows (puts_in is)) (rows_puts t no_rows (puts_in is) (rows_none t) (h is refl))

-- ---- at a brace

pub handed_out_ok : BraceFormed
unfolding well_formed read_attrs_at at_brace brace_at finished fills.filled_of
handed_out_ok m t i h = rw (h, empty_text) (go (ltb max_text (length t)) (brace_at t i) refl)
  where
    payload : (e : ℕ) → brace_at t i ≡ true → find_close t (suc i) ≡ Some e → (is : List Placed) → read_payload m (suc i) (payload_of t i e) ≡ Reading.items is → all (put_ok (one t)) (puts_in is) ≡ true
    payload e o c is r =
        let z = both (ltb i (length t)) (eqb (get_or t i 0) 123) o in
        read_ok t m is (brace_part t i e (text_utf8 t h) (ltb-true i (length t) z.0) (eqb-true (get_or t i 0) 123 z.1) c) (brace_flat t i e c) r

    closed : (p : Option ℕ) → brace_at t i ≡ true → find_close t (suc i) ≡ p → table_ok (one t) (read_to m t i p).set ≡ true
    closed None o c = empty_ok (one t)
    closed (Some e) o c = cut (is_utf8 (payload_of t i e))
      where
        cut : (b : Bool) → table_ok (one t) (cond b (finished (fills.filled_of m (one t) (suc i) (payload_of t i e)) (suc e) (payload_place m (payload_of t i e))) (refusing_read NotUtf8)).set ≡ true
        cut true = filled_ok (one t) (read_payload m (suc i) (payload_of t i e)) (payload e o c)
        cut false = empty_ok (one t)

    go : (a b : Bool) → brace_at t i ≡ b → table_ok (one t) (cond a (refusing_read TextTooLong) (cond b (read_to m t i (find_close t (suc i))) (refusing_read NothingThere))).set ≡ true
    go true b o = empty_ok (one t)
    go false true o = closed (find_close t (suc i)) o refl
    go false false o = empty_ok (one t)

-- ---- of any part that is UTF-8 by itself and holds no LF

pub fill_out_ok : FillFormed
unfolding well_formed fills.fill_at fills.filled_of read_payload read_from
fill_out_ok m t at end h u f = rw (h, empty_text) (go (ltb max_text (length t)))
  where
    some : (s : List ℕ) → slice at end t ≡ s → (is : List Placed) → read_payload m at s ≡ Reading.items is → all (put_ok (one t)) (puts_in is) ≡ true
    some [] q is e = contra true refl (cc)
    some (a ∷ x) q is e = read_ok t m is (own_part t at end (text_utf8 t h) q u) f (rw q e)

    go : (a : Bool) → table_ok (one t) (cond a (filled.refusing TextTooLong) (fills.filled_by (one t) (read_payload m at (slice at end t)))).set ≡ true
    go true = empty_ok (one t)
    go false = filled_ok (one t) (read_payload m at (slice at end t)) (some (slice at end t) refl)
