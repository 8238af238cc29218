-- The listing laid part by part: the fields of a line, the lines of a table, the line of a refusal, and the whole.
-- Assumes nothing.
use Rattle.std.specs.Prelude.{Option}
use mathlib.Core.Path.{◌≡◌, refl, sym, ◌∙◌}
use mathlib.Core.List.{List, [], ◌∷◌, ◌++◌, append_assoc, append-nil}
use Prim.Native.Nat.{ℕ, zero, suc, ◌+◌, ◌-◌, ◌*◌, ◌^◌, ◌≤◌, ◌<◌}
use native.Mathlib.Nat.{zero-add}
use native.Mathlib.Numerals.{add-one}
use native.Mathlib.Omega.{arith}
use borrow.Author.Tests.{le-ltb, lt-ltb}
use lib.ListN.{length, set}
use lib.Seq.{sets-eq}
use Rattle.base_lists.specs.Lists.{over}
use Rattle.base_refusals.specs.Numbers.{number_of}
use Rattle.base_refusals.specs.declared.Refusal.{Refusal}
use Rattle.text_digits.specs.Decimal.{decimal}
use Rattle.text_digits.proofs.Decimals.{decimal_le}
use Rattle.sheet_valves.specs.Tables.{variant_count, wheels}
use Rattle.sheet_valves.specs.Pairs.{row_of}
use Rattle.sheet_valves.proofs.Pairs.{row_from, row_from_lem}
use Rattle.sheet_valves.specs.declared.Table.{Table}
use Rattle.sheet_variants.specs.declared.Variants.{Variants}
use Rattle.sheet_report.specs.Puts.{PutAt, line_front}
use Rattle.sheet_report.specs.Report.{refused_word}
use Rattle.sheet_report.proofs.Laying.{put_then, put_byte, line_is}
use Rattle.sheet_listing.specs.Listing.{valve_field, fields_text, row_text, rows_text, table_text, variant_field, refusal_text, listing, max_listing, listing_in}

-- nothing put
pub put_none : (buf : List ℕ) (at : ℕ) → PutAt buf at [] at buf
put_none buf at = record { behind = omega arith; content = refl }

-- ---- a line

-- a valve has at most three digits, a variant two
pub valve_le : {n k : ℕ} → k ≡ length (9 ∷ decimal n) → n < 256 → k ≤ 4
valve_le {n} e h = omega (arith, e, decimal_le n 3 (omega arith) (omega arith))

pub variant_le : {n k : ℕ} → k ≡ length (decimal n) → n ≤ variant_count → k ≤ 2
variant_le {n} e h = omega (arith, e, decimal_le n 2 (omega arith) (omega arith))

pub field_le : {n k : ℕ} → k ≡ length (9 ∷ decimal n) → n < 2 ^ 64 → k ≤ 21
field_le {n} e h = omega (arith, e, decimal_le n 20 (omega arith) (omega arith))

pub fields_put : (a b c d : Option ℕ) {buf : List ℕ} {at e f g h : ℕ} {p q r s : List ℕ}
    → PutAt buf at (valve_field a) e p → PutAt p e (valve_field b) f q → PutAt q f (valve_field c) g r → PutAt r g (valve_field d) h s
    → PutAt buf at (fields_text (a ∷ b ∷ c ∷ d ∷ [])) h s
unfolding fields_text mathlib.Core.List.flat_map
fields_put a b c d {h = h} {s = s} w x y z = put_then w (put_then x (put_then y (put_then z (put_none s h))))

pub row_put : (t : Table) (v : ℕ) {buf : List ℕ} {at e f : ℕ} {p q : List ℕ} → PutAt buf at (decimal (v + 1)) e p → PutAt p e (fields_text (row_from t (v * wheels))) f q
    → PutAt buf at (row_text t (suc v)) (f + 1) (set q f 10)
unfolding row_text
row_put t v {buf} {at} {e} {f} {p} {q} w x =
    let z : PutAt buf at (decimal (suc v)) e p = rw add-one at w in
    let y : PutAt p e (fields_text (row_of t (suc v))) f q = rw (row_from_lem t v) x in
    put_then z (put_byte y 10)

-- ---- the lines: v were laid, and `rest` is still to come

pub record Lists (t : Table) (out₀ out : List ℕ) (at v : ℕ) : Type 0 where
  pub done : List ℕ
  pub put : PutAt out₀ 0 done at out
  pub within : v ≤ variant_count
  pub short : at ≤ v * 19
  pub rest : table_text t ≡ done ++ rows_text t (suc v) (variant_count - v)

pub lists_start : (t : Table) (out : List ℕ) → Lists t out out 0 0
unfolding table_text
lists_start t out = record { done = []; put = put_none out 0; within = omega arith; short = omega arith; rest = refl }

module _ {t : Table} {out₀ out : List ℕ} {at v : ℕ} (inv : Lists t out₀ out at v) where
  pub lists_go : {r : ℕ} {out' : List ℕ} → v < variant_count → r ≤ at + 19 → PutAt out at (row_text t (suc v)) r out' → Lists t out₀ out' r (v + 1)
  unfolding rows_text
  lists_go {r} {out'} h l p =
      record {
        done = inv.done ++ row_text t (suc v);
        put = put_then inv.put p;
        within = omega arith;
        short = omega (arith, inv.short);
        rest = rw add-one ((rw left at inv.rest) ∙ sym (append_assoc inv.done (row_text t (suc v)) (rows_text t (suc (suc v)) (variant_count - suc v))));
      }
    where
      left : variant_count - v ≡ suc (variant_count - suc v)
      left = omega arith

  pub lists_end : variant_count ≤ v → PutAt out₀ 0 (table_text t) at out × (at ≤ max_listing)
  unfolding rows_text
  lists_end h =
      let e : variant_count - v ≡ 0 = omega arith in
      (rw (inv.rest, e, append-nil inv.done) inv.put, omega (arith, inv.within, inv.short))

-- ---- the line of a refusal

pub variant_put : (v : ℕ) {buf : List ℕ} {at r : ℕ} {b : List ℕ} → (v ≡ 0 → ⊥) → PutAt buf at (9 ∷ decimal v) r b → PutAt buf at (variant_field v) r b
variant_put zero h p = absurd (h refl)
variant_put (suc v) h p = p

pub refusal-put : (n k v : ℕ) (why : Refusal) {m a b c d : ℕ} {buf o p q r s : List ℕ} → m ≡ number_of why
    → PutAt buf 0 refused_word 7 o → PutAt o 7 (9 ∷ decimal n) a p → PutAt p a (9 ∷ decimal k) b q → PutAt q b (9 ∷ decimal m) c r → PutAt r c (variant_field v) d s
    → PutAt buf 0 (refusal_text n k v why) (d + 1) (set s d 10)
unfolding refusal_text line_front
refusal-put n k v why {m} e w x y z u =
    rw (← e, line_is refused_word n k (decimal m ++ variant_field v)) (put_then (put_then w (put_then x y)) (put_byte (put_then z u) 10))

-- ---- the whole

module _ (a : Variants) (out : List ℕ) where
  pub listing_none : length out < max_listing → (0 ≡ length (listing_in (length out) a)) × (out ≡ over (listing_in (length out) a) out)
  unfolding listing_in
  listing_none h = rw (lt-ltb (length out) max_listing h) (refl, refl)

  pub listing_whole : {r : ℕ} {out' : List ℕ} → max_listing ≤ length out → PutAt out 0 (listing a) r out' → r ≤ max_listing → (r ≡ length (listing_in (length out) a)) × (out' ≡ over (listing_in (length out) a) out)
  unfolding listing_in
  listing_whole {r} h w l =
      rw (le-ltb (length out) max_listing h)
      (ends, w.content ∙ (rw (zero-add (length (listing a))) at (sets-eq (listing a) out 0 (omega (arith, ends)))))
    where
      ends : r ≡ length (listing a)
      ends = w.behind ∙ zero-add (length (listing a))
