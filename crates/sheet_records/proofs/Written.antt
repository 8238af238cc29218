-- A record's line is read as that record.
-- Assumes nothing.
use Rattle.std.specs.Prelude.{Option, Some}
use mathlib.Core.Path.{◌≡◌, refl, sym, ◌∙◌, ap}
use mathlib.Core.Bool.{true}
use mathlib.Core.List.{List, [], ◌∷◌, ◌++◌, append_assoc}
use Prim.Native.Nat.{ℕ, suc, ◌+◌, ◌-◌, ◌≤◌}
use native.Mathlib.Omega.{arith}
use borrow.Author.Tests.{lt-ltb, le-ltb}
use lib.ListN.{length, take, drop, length-drop, length-append}
use lib.Seq.{take-append_seam}
use Rattle.base_lists.specs.Lists.{all, run}
use Rattle.base_lists.proofs.More.{stops, run_is}
use Rattle.base_lists.proofs.Parts.{drop_past, slice_add}
use Rattle.base_bytes.specs.Bytes.{is_digit, within}
use Rattle.text_digits.specs.Decimal.{decimal}
use Rattle.text_numbers.proofs.Numbers.{number_read, all_digits}
use Rattle.sheet_records.specs.Records.{RecordId, no_id, an_id, Record, InBounds, id_fits, id_field, not_lf, most_number, numbers_text, record_line, row_by, row_at}
use Rattle.sheet_records.specs.Computed.{least_number, field_of, field_at, on_field, behind_tab, id_end, id_at, end_at, offset_at, count_at, record_at, record_in}
use Rattle.sheet_records.proofs.Lines.{numbers_long}
use Rattle.sheet_records.specs.declared.IndexRow.{IndexRow}

-- ---- numbers

module _ (t : List ℕ) (at n : ℕ) (s : List ℕ) (d : drop at t ≡ decimal n ++ s) where
  pub field_reads : (least : ℕ) → stops is_digit s ≡ true → least ≤ n → n ≤ most_number → field_at t at least ≡ Some (n, at + length (decimal n))
  unfolding field_at field_of least_number
  field_reads least st h l =
      rw (d, run_is is_digit (decimal n) s (all_digits n) st, take-append_seam (decimal n) s, number_read most_number n l, le-ltb n least h)

  pub field_past : drop (at + length (decimal n)) t ≡ s
  field_past = drop_past t (decimal n) s at (at + length (decimal n)) d refl

-- ---- a byte

tab_reads : (t : List ℕ) (at : ℕ) (s : List ℕ) (k : ℕ → Option IndexRow) → drop at t ≡ 9 ∷ s → behind_tab t at k ≡ k (suc at)
unfolding behind_tab
tab_reads t at s k d = rw d

pub byte_past : (t : List ℕ) (at b : ℕ) (s : List ℕ) → drop at t ≡ b ∷ s → drop (suc at) t ≡ s
byte_past t at b s d = drop_past t (b ∷ []) s at (suc at) d (omega arith)

-- ---- a record: what is read of it, and where the next begins

-- the row that stands there: of a record whose numbers end at e
record Reads (t : List ℕ) (got : Option IndexRow) (e : ℕ) (r : Record) (s : List ℕ) : Type 0 where
  pub is : got ≡ Some (row_by e r r.id)
  pub says : record_in t (row_by e r r.id) ≡ r
  pub on : drop (row_by e r r.id).next t ≡ s

id_reads : (t : List ℕ) (l c o at : ℕ) (i : List ℕ) (s : List ℕ) → drop at t ≡ 9 ∷ (i ++ (10 ∷ s)) → all not_lf i ≡ true
    → Reads t (end_at t l c o at) at (record { line = l; count = c; offset = o; id = an_id i }) s
unfolding end_at behind_tab id_at id_end
id_reads t l c o at i s d f =
    let e : drop (suc at) t ≡ i ++ (10 ∷ s) = byte_past t at 9 (i ++ (10 ∷ s)) d in
    let k : run not_lf (drop (suc at) t) ≡ length i = rw e (run_is not_lf i (10 ∷ s) f refl) in
    let m : length t - suc at ≡ length i + suc (length s) = sym (length-drop (suc at) t) ∙ (rw e (length-append i (10 ∷ s))) in
    record {
      is = rw (d, k, lt-ltb (suc at + length i) (length t) (omega arith));
      says = ap (λ (x : List ℕ). record { line = l; count = c; offset = o; id = an_id x }) (slice_add (suc at) (length i) t ∙ (ap (take (length i)) e ∙ take-append_seam i (10 ∷ s)));
      on = byte_past t (suc at + length i) 10 s (drop_past t i (10 ∷ s) (suc at) (suc at + length i) e refl);
    }

end_reads : (t : List ℕ) (l c o at : ℕ) (i : RecordId) (s : List ℕ) → drop at t ≡ id_field i ++ (10 ∷ s) → id_fits i
    → Reads t (end_at t l c o at) at (record { line = l; count = c; offset = o; id = i }) s
unfolding end_at
end_reads t l c o at no_id s d f = record { is = rw d; says = refl; on = byte_past t at 10 s d }
end_reads t l c o at (an_id i) s d f = id_reads t l c o at i s d f

-- the line, bracketed as it is read
pub line_parts : (r : Record) (s : List ℕ)
    → record_line r ++ s ≡ decimal r.line ++ (9 ∷ (decimal r.count ++ (9 ∷ (decimal r.offset ++ (id_field r.id ++ (10 ∷ s))))))
unfolding record_line numbers_text
line_parts r s = simp append_assoc

id_stops : (i : RecordId) (s : List ℕ) → stops is_digit (id_field i ++ (10 ∷ s)) ≡ true
unfolding is_digit within
id_stops no_id s = refl
id_stops (an_id i) s = refl

record_reads : (t : List ℕ) (at : ℕ) (r : Record) (s : List ℕ) → InBounds r → drop at t ≡ record_line r ++ s → Reads t (record_at t at) (at + length (numbers_text r.line r.count r.offset)) r s
unfolding record_at count_at offset_at on_field is_digit within
record_reads t at r s w d =
    let p₁ : ℕ = at + length (decimal r.line) in
    let s₃ : List ℕ = id_field r.id ++ (10 ∷ s) in
    let s₂ : List ℕ = decimal r.offset ++ s₃ in
    let s₁ : List ℕ = decimal r.count ++ (9 ∷ s₂) in
    let d₀ : drop at t ≡ decimal r.line ++ (9 ∷ s₁) = d ∙ line_parts r s in
    let d₁ : drop p₁ t ≡ 9 ∷ s₁ = field_past t at r.line (9 ∷ s₁) d₀ in
    let e₁ : drop (suc p₁) t ≡ s₁ = byte_past t p₁ 9 s₁ d₁ in
    let p₂ : ℕ = suc p₁ + length (decimal r.count) in
    let d₂ : drop p₂ t ≡ 9 ∷ s₂ = field_past t (suc p₁) r.count (9 ∷ s₂) e₁ in
    let e₂ : drop (suc p₂) t ≡ s₂ = byte_past t p₂ 9 s₂ d₂ in
    let p₃ : ℕ = suc p₂ + length (decimal r.offset) in
    let d₃ : drop p₃ t ≡ s₃ = field_past t (suc p₂) r.offset s₃ e₂ in
    let x = end_reads t r.line r.count r.offset p₃ r.id s d₃ w.id_fits_lem in
    let z : p₃ ≡ at + length (numbers_text r.line r.count r.offset) = omega (arith, numbers_long r.line r.count r.offset) in
    rw (← z)
    (record {
      is =
          ap (λ f. on_field f (λ n p. behind_tab t p (count_at t n))) (field_reads t at r.line (9 ∷ s₁) d₀ 1 refl w.line_from w.line_to)
          ∙ (tab_reads t p₁ s₁ (count_at t r.line) d₁
          ∙ (ap (λ f. on_field f (λ n p. behind_tab t p (offset_at t r.line n))) (field_reads t (suc p₁) r.count (9 ∷ s₂) e₁ 1 refl w.count_from w.count_to)
          ∙ (tab_reads t p₂ s₂ (offset_at t r.line r.count) d₂
          ∙ (ap (λ f. on_field f (end_at t r.line r.count)) (field_reads t (suc p₂) r.offset s₃ e₂ 0 (id_stops r.id s) (omega arith) w.offset_to)
          ∙ x.is))));
      says = x.says;
      on = x.on;
    })

-- the row of a record whose line begins at a place
pub row_reads : (t : List ℕ) (at : ℕ) (r : Record) (s : List ℕ) → InBounds r → drop at t ≡ record_line r ++ s
    → (record_at t at ≡ Some (row_at at r)) × ((record_in t (row_at at r) ≡ r) × (drop (row_at at r).next t ≡ s))
unfolding row_at
row_reads t at r s w d = let x = record_reads t at r s w d in (x.is, (x.says, x.on))
