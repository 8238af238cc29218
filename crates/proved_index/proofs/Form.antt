-- The form of an index, in both directions.
-- Assumes nothing.
use Rattle.std.specs.Prelude.{Err, None, Ok, Option, Some}
use mathlib.Core.Path.{◌≡◌, refl, sym, ◌∙◌, ap}
use mathlib.Core.Bool.{Bool, true, false, cond}
use mathlib.Core.List.{List, [], ◌∷◌, ◌++◌, flat_map}
use Prim.Native.Nat.{ℕ, zero, suc, ◌+◌, ◌-◌, ◌<◌, ◌≤◌}
use native.Mathlib.Omega.{arith}
use borrow.Author.Tests.{ltb-false, lt-ltb, le-ltb}
use lib.Dec.{ltb}
use lib.ListN.{length, take, drop, length-drop, length-append, drop_of_length-le, take-append-drop}
use lib.Seq.{take-append_seam, drop-append_seam}
use Rattle.base_lists.proofs.Same.{same_refl, same_true}
use Rattle.base_refusals.specs.Orders.{in_order}
use Rattle.base_refusals.specs.declared.Refusal.TheVariants.{NotAnIndex}
use Rattle.sheet_records.specs.Records.{Record, AllIn, record_line, index_version, header_of, index_header, index_text, row_at, rows_at, index_rows, IsIndex}
use Rattle.sheet_records.specs.Computed.{Index, not_index, rows, with_row, on_row, record_at, record_in, rows_from, is_headed_by, is_headed, is_other, other_told, head_in, index_by, read_index_of, read_index}
use Rattle.sheet_records.specs.declared.IndexRow.{IndexRow}
use Rattle.sheet_records.proofs.Further.{further}
use Rattle.sheet_records.proofs.Lines.{headed-passes, row_next}
use Rattle.sheet_records.proofs.Written.{row_reads}
use Rattle.sheet_index.specs.Finding.{records_by}
use Rattle.sheet_index.proofs.Rows.{Whys, whys}
use Rattle.proved_index.specs.Form.{ReadIsIndex, IndexIsRead, OneList}
use Rattle.proved_index.proofs.Back.{record_back}

-- ---- what is written is read

past_end : (t : List ℕ) (at : ℕ) → drop at t ≡ [] → length t ≤ at
past_end t at d = omega (arith, sym (length-drop at t) ∙ ap length d)

from_reads : (left : ℕ) (t : List ℕ) (at : ℕ) (rs : List Record) → AllIn rs → drop at t ≡ flat_map record_line rs → length t - at < left
    → (rows_from left t at ≡ rows (rows_at at rs)) × (records_by t (rows_at at rs) ≡ rs)
unfolding rows_from AllIn flat_map on_row rows_at
from_reads zero t at rs w d h = absurd (omega arith)
from_reads (suc left) t at [] w d h = (rw (le-ltb at (length t) (past_end t at d)), refl)
from_reads (suc left) t at (r ∷ rs) w d h =
    let x = row_reads t at r (flat_map record_line rs) w.0 d in
    let k : length t - at ≡ length (record_line r) + length (flat_map record_line rs) = sym (length-drop at t) ∙ (ap length d ∙ length-append (record_line r) (flat_map record_line rs)) in
    let f = further t at (row_at at r) x.0 in
    let s : at < length t = omega (arith, k, row_next at r, f) in
    let y = from_reads left t (row_at at r).next rs w.1 x.1.1 (omega (arith, s, f)) in
    (rw (lt-ltb at (length t) s, x.0) (ap (with_row (row_at at r)) y.0), ap (λ (q : Record). q ∷ records_by t (rows_at (row_at at r).next rs)) x.1.0 ∙ ap (λ (qs : List Record). r ∷ qs) y.1)

-- an index of the version v is read by a reader of v
pub version_read : (v : ℕ) (rs : List Record) → AllIn rs
    → (read_index_of v (header_of v ++ flat_map record_line rs) ≡ rows (rows_at (length (header_of v)) rs)) × (records_by (header_of v ++ flat_map record_line rs) (rows_at (length (header_of v)) rs) ≡ rs)
unfolding read_index_of
version_read v rs w =
    let x : List ℕ = flat_map record_line rs in
    let y = from_reads (suc (length (header_of v ++ x))) (header_of v ++ x) (length (header_of v)) rs w (drop-append_seam (header_of v) x) (omega (arith, length-append (header_of v) x)) in
    let h : is_headed_by v (header_of v ++ x) ≡ true = rw (take-append_seam (header_of v) x) (same_refl (header_of v)) in
    (ap (index_by v (header_of v ++ x)) (sym (headed-passes v (header_of v ++ x) refl h)) ∙ y.0, y.1)

text_read : (rs : List Record) → AllIn rs → (read_index (index_text rs) ≡ rows (index_rows rs)) × (records_by (index_text rs) (index_rows rs) ≡ rs)
unfolding index_text index_rows
text_read rs w = version_read index_version rs w

pub index_is_read : IndexIsRead
index_is_read t rs w = rw w.text (text_read rs w.in_range)

-- what is read has the first line of this version
pub read_own : (t : List ℕ) {es : List IndexRow} → read_index t ≡ rows es → is_other index_version t ≡ false
unfolding Whys
read_own t e = rw e at (whys index_version t)

-- ---- what is read was written

pub record Held (t : List ℕ) (at : ℕ) (rs : List Record) : Type 0 where
  pub in_range : AllIn rs
  pub text : drop at t ≡ flat_map record_line rs

from_back : (left : ℕ) (t : List ℕ) (at : ℕ) (es : List IndexRow) → rows_from left t at ≡ rows es → Held t at (records_by t es)
unfolding rows_from on_row AllIn flat_map
from_back zero t at es e = let z : ◌≡◌ {A = ℕ} 0 1 = cc in absurd (omega arith)
from_back (suc left) t at es e = go (ltb at (length t)) refl e (from_back left t)
  where
    more : (en : IndexRow) → record_at t at ≡ Some en → (x : Index) → rows_from left t en.next ≡ x → with_row en x ≡ rows es
        → ((at : ℕ) (es : List IndexRow) → rows_from left t at ≡ rows es → Held t at (records_by t es)) → Held t at (records_by t es)
    more en q (not_index r) g f ih = let z : ◌≡◌ {A = ℕ} 0 1 = cc in absurd (omega arith)
    more en q (rows ys) g f ih =
        let v : en ∷ ys ≡ es = cc in
        let w = record_back t at en q in
        let y = ih en.next ys g in
        rw (← v) (record { in_range = (w.in_range, y.in_range); text = w.text ∙ ap (λ (l : List ℕ). record_line (record_in t en) ++ l) y.text })

    one : (r : Option IndexRow) → record_at t at ≡ r → on_row r (rows_from left t) ≡ rows es
        → ((at : ℕ) (es : List IndexRow) → rows_from left t at ≡ rows es → Held t at (records_by t es)) → Held t at (records_by t es)
    one None q f ih = let z : ◌≡◌ {A = ℕ} 0 1 = cc in absurd (omega arith)
    one (Some en) q f ih = more en q (rows_from left t en.next) refl f ih

    go : (x : Bool) → ltb at (length t) ≡ x → cond x (on_row (record_at t at) (rows_from left t)) (rows []) ≡ rows es
        → ((at : ℕ) (es : List IndexRow) → rows_from left t at ≡ rows es → Held t at (records_by t es)) → Held t at (records_by t es)
    go true b f ih = one (record_at t at) refl f ih
    go false b f ih =
        let v : [] ≡ es = cc in
        rw (← v) (record { in_range = tt; text = drop_of_length-le t {i = at} (ltb-false at (length t) b) })

pub read_is_index : ReadIsIndex
unfolding read_index_of head_in in_order index_text
read_is_index t es e = go (is_other index_version t) (is_headed t) refl e
  where
    go : (o x : Bool) → is_headed t ≡ x → index_by index_version t (cond o (Err (other_told index_version)) (cond x (Ok tt) (Err NotAnIndex))) ≡ rows es → IsIndex t (records_by t es)
    go true x b f = let z : ◌≡◌ {A = ℕ} 0 1 = cc in absurd (omega arith)
    go false true b f =
        let w = from_back (suc (length t)) t (length index_header) es f in
        let h : take (length index_header) t ≡ index_header = same_true (take (length index_header) t) index_header b in
        record { in_range = w.in_range; text = sym (take-append-drop (length index_header) t) ∙ (ap (λ (l : List ℕ). l ++ drop (length index_header) t) h ∙ ap (λ (l : List ℕ). index_header ++ l) w.text) }
    go false false b f = let z : ◌≡◌ {A = ℕ} 0 1 = cc in absurd (omega arith)

-- one list for each text
pub one_list : OneList
one_list rs qs w v e =
    let a = text_read rs w in
    let b = text_read qs v in
    let c : rows (index_rows rs) ≡ rows (index_rows qs) = sym a.0 ∙ (ap read_index e ∙ b.0) in
    let d : index_rows rs ≡ index_rows qs = cc in
    sym a.1 ∙ (ap (λ t. records_by t (index_rows rs)) e ∙ (ap (records_by (index_text qs)) d ∙ b.1))
