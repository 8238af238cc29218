-- What is read as a record is that record's line.
-- Assumes nothing.
use Rattle.std.proofs.lemmas.Option.{some_pair_parts}
use Rattle.std.specs.Prelude.{None, Option, Some}
use mathlib.Core.Path.{◌≡◌, refl, sym, ◌∙◌, ap}
use mathlib.Core.Bool.{Bool, true, false, cond}
use mathlib.Core.List.{List, [], ◌∷◌, ◌++◌}
use Prim.Native.Nat.{ℕ, suc, ◌+◌, ◌-◌, ◌<◌, ◌≤◌}
use native.Mathlib.Omega.{arith}
use borrow.Author.Tests.{ltb-true, ltb-false, eqb-true, not-false}
use lib.Dec.{ltb}
use lib.ListN.{length, get_or, take, drop, length-drop, take-append-drop}
use lib.Seq.{drop-drop, drop-cons}
use Rattle.base_lists.specs.Lists.{run, begins}
use Rattle.base_lists.proofs.More.{run_stops}
use Rattle.base_lists.proofs.Parts.{slice_part}
use Rattle.base_lists.proofs.Scan.{run-all}
use Rattle.base_bytes.specs.Bytes.{is_digit}
use Rattle.text_digits.specs.Decimal.{decimal}
use Rattle.text_digits.specs.Digits.{number_in}
use Rattle.proved_valves.proofs.Numbers.{read_is}
use Rattle.sheet_records.specs.Records.{InBounds, id_fits, id_field, not_lf, most_number, record_line}
use Rattle.sheet_records.specs.Computed.{least_number, field_of, field_at, on_field, behind_tab, id_end, id_at, end_at, offset_at, count_at, record_at, id_in, record_in}
use Rattle.sheet_records.specs.declared.IndexRow.{IndexRow}
use Rattle.sheet_records.proofs.Written.{byte_past, line_parts}

-- ---- numbers

pub record Number (t : List ℕ) (at least n p : ℕ) : Type 0 where
  pub text : drop at t ≡ decimal n ++ drop p t
  pub above : least ≤ n
  pub below : n ≤ most_number
  pub behind : at ≤ p

pub field_back : (t : List ℕ) (at least n p : ℕ) → field_at t at least ≡ Some (n, p) → Number t at least n p
unfolding field_at field_of least_number
field_back t at least n p e = go (number_in most_number (take (run is_digit (drop at t)) (drop at t))) refl e
  where
    bounded : (m : ℕ) (x : Bool) → ltb m least ≡ x → number_in most_number (take (run is_digit (drop at t)) (drop at t)) ≡ Some m → cond {A = Option (ℕ × ℕ)} x None (Some (m, at + (run is_digit (drop at t)))) ≡ Some (n, p) → Number t at least n p
    bounded m true b q f = let z : ◌≡◌ {A = ℕ} 0 1 = cc in absurd (omega arith)
    bounded m false b q f =
        let m≡ : m ≡ n = (some_pair_parts m n _ p f).0 in
        let p≡ : at + (run is_digit (drop at t)) ≡ p = (some_pair_parts m n _ p f).1 in
        let w = read_is {most = most_number} {n = m} {s = take (run is_digit (drop at t)) (drop at t)} q in
        record {
          text = sym (take-append-drop (run is_digit (drop at t)) (drop at t)) ∙ rw (w.written, m≡, drop-drop (run is_digit (drop at t)) at t, p≡);
          above = omega (arith, ltb-false m least b);
          below = omega (arith, w.within);
          behind = omega arith;
        }

    go : (x : Option ℕ) → number_in most_number (take (run is_digit (drop at t)) (drop at t)) ≡ x → least_number least (at + (run is_digit (drop at t))) x ≡ Some (n, p) → Number t at least n p
    go None q f = let z : ◌≡◌ {A = ℕ} 0 1 = cc in absurd (omega arith)
    go (Some m) q f = bounded m (ltb m least) refl q f

-- ---- bytes

begins_is : (s : List ℕ) (b : ℕ) → begins s b ≡ true → s ≡ b ∷ drop 1 s
begins_is [] b e = let z : ◌≡◌ {A = ℕ} 0 1 = cc in absurd (omega arith)
begins_is (a ∷ s) b e = ap (λ (x : ℕ). x ∷ s) (eqb-true a b e)

pub byte_is : (t : List ℕ) (at b : ℕ) → begins (drop at t) b ≡ true → drop at t ≡ b ∷ drop (suc at) t
byte_is t at b e =
    let q : drop at t ≡ b ∷ drop 1 (drop at t) = begins_is (drop at t) b e in
    q ∙ ap (λ (l : List ℕ). b ∷ l) (sym (byte_past t at b (drop 1 (drop at t)) q))

pub record Tab (t : List ℕ) (at : ℕ) (got : Option IndexRow) (e : IndexRow) : Type 0 where
  pub text : drop at t ≡ 9 ∷ drop (suc at) t
  pub is : got ≡ Some e

tab_back : (t : List ℕ) (at : ℕ) (k : ℕ → Option IndexRow) (e : IndexRow) → behind_tab t at k ≡ Some e → Tab t at (k (suc at)) e
unfolding behind_tab
tab_back t at k e q = go (begins (drop at t) 9) refl q
  where
    go : (x : Bool) → begins (drop at t) 9 ≡ x → cond x (k (suc at)) None ≡ Some e → Tab t at (k (suc at)) e
    go true b f = record { text = byte_is t at 9 b; is = f }
    go false b f = let z : ◌≡◌ {A = ℕ} 0 1 = cc in absurd (omega arith)

pub record Field-is (f : Option (ℕ × ℕ)) (k : ℕ → ℕ → Option IndexRow) (e : IndexRow) : Type 0 where
  pub n : ℕ
  pub p : ℕ
  pub is : f ≡ Some (n, p)
  pub on : k n p ≡ Some e

on_back : (f : Option (ℕ × ℕ)) (k : ℕ → ℕ → Option IndexRow) (e : IndexRow) → on_field f k ≡ Some e → Field-is f k e
unfolding on_field
on_back None k e q = let z : ◌≡◌ {A = ℕ} 0 1 = cc in absurd (omega arith)
on_back (Some (n, p)) k e q = record { n = n; p = p; is = refl; on = q }

-- ---- the id

-- what stands behind the offset, up to the next record
pub record End (t : List ℕ) (l c o at : ℕ) (e : IndexRow) : Type 0 where
  pub lines : e.line ≡ l
  pub counts : e.count ≡ c
  pub offsets : e.offset ≡ o
  pub text : drop at t ≡ id_field (id_in t e.from e.to) ++ (10 ∷ drop e.next t)
  pub fits : id_fits (id_in t e.from e.to)
  pub further : at < e.next

id_back : (t : List ℕ) (l c o at : ℕ) (e : IndexRow) → drop at t ≡ 9 ∷ drop (suc at) t → id_at t l c o (suc at) ≡ Some e → End t l c o at e
unfolding id_at id_end
id_back t l c o at e d q = go (ltb (suc at + (run not_lf (drop (suc at) t))) (length t)) refl q
  where
    stop : (run not_lf (drop (suc at) t)) < length (drop (suc at) t) → get_or (drop (suc at) t) (run not_lf (drop (suc at) t)) 0 ≡ 10
    stop h = eqb-true (get_or (drop (suc at) t) (run not_lf (drop (suc at) t)) 0) 10 (not-false _ (run_stops not_lf (drop (suc at) t) h))

    go : (x : Bool) → ltb (suc at + (run not_lf (drop (suc at) t))) (length t) ≡ x
        → cond x (Some (record { line = l; count = c; offset = o; from = suc at; to = suc at + (run not_lf (drop (suc at) t)); next = suc (suc at + (run not_lf (drop (suc at) t))) })) None ≡ Some e → End t l c o at e
    go true b f =
        let m : (run not_lf (drop (suc at) t)) < length (drop (suc at) t) = omega (arith, ltb-true (suc at + (run not_lf (drop (suc at) t))) (length t) b, length-drop (suc at) t) in
        let r : drop (run not_lf (drop (suc at) t)) (drop (suc at) t) ≡ 10 ∷ drop (suc (run not_lf (drop (suc at) t))) (drop (suc at) t) = drop-cons (drop (suc at) t) (run not_lf (drop (suc at) t)) 0 m ∙ ap (λ (x : ℕ). x ∷ drop (suc (run not_lf (drop (suc at) t))) (drop (suc at) t)) (stop m) in
        let j : suc at + suc (run not_lf (drop (suc at) t)) ≡ suc (suc at + (run not_lf (drop (suc at) t))) = omega arith in
        let y : drop (suc (run not_lf (drop (suc at) t))) (drop (suc at) t) ≡ drop (suc (suc at + (run not_lf (drop (suc at) t)))) t = drop-drop (suc (run not_lf (drop (suc at) t))) (suc at) t ∙ ap (λ (x : ℕ). drop x t) j in
        let g : (drop (suc at) t) ≡ take (run not_lf (drop (suc at) t)) (drop (suc at) t) ++ (10 ∷ drop (suc (suc at + (run not_lf (drop (suc at) t)))) t) = sym (take-append-drop (run not_lf (drop (suc at) t)) (drop (suc at) t)) ∙ ap (λ (x : List ℕ). take (run not_lf (drop (suc at) t)) (drop (suc at) t) ++ x) (r ∙ ap (λ (x : List ℕ). 10 ∷ x) y) in
        let z : suc at + (run not_lf (drop (suc at) t)) - suc at ≡ (run not_lf (drop (suc at) t)) = omega arith in
        let v : record { line = l; count = c; offset = o; from = suc at; to = suc at + (run not_lf (drop (suc at) t)); next = suc (suc at + (run not_lf (drop (suc at) t))) } ≡ e = cc in
        rw (← v)
        (record {
          lines = refl;
          counts = refl;
          offsets = refl;
          text = rw (slice_part (suc at) (suc at + (run not_lf (drop (suc at) t))) t, z) (d ∙ ap (λ (x : List ℕ). 9 ∷ x) g);
          fits = rw (slice_part (suc at) (suc at + (run not_lf (drop (suc at) t))) t, z) (run-all not_lf (drop (suc at) t));
          further = omega arith;
        })
    go false b f = let z : ◌≡◌ {A = ℕ} 0 1 = cc in absurd (omega arith)

end_back : (t : List ℕ) (l c o at : ℕ) (e : IndexRow) → end_at t l c o at ≡ Some e → End t l c o at e
unfolding end_at
end_back t l c o at e q = go (begins (drop at t) 10) refl q
  where
    go : (x : Bool) → begins (drop at t) 10 ≡ x
        → cond x (Some (record { line = l; count = c; offset = o; from = 0; to = 0; next = suc at })) (behind_tab t at (id_at t l c o)) ≡ Some e → End t l c o at e
    go true b f =
        let v : record { line = l; count = c; offset = o; from = 0; to = 0; next = suc at } ≡ e = cc in
        rw (← v) (record { lines = refl; counts = refl; offsets = refl; text = byte_is t at 10 b; fits = tt; further = omega arith })
    go false b f = let w = tab_back t at (id_at t l c o) e f in id_back t l c o at e w.text w.is

-- ---- a record

pub record Wrote (t : List ℕ) (at : ℕ) (e : IndexRow) : Type 0 where
  pub in_range : InBounds (record_in t e)
  pub text : drop at t ≡ record_line (record_in t e) ++ drop e.next t
  pub further : at < e.next

joined : {t : List ℕ} {at l c o p₁ p₂ p₃ : ℕ} {e : IndexRow} → Number t at 1 l p₁ → drop p₁ t ≡ 9 ∷ drop (suc p₁) t → Number t (suc p₁) 1 c p₂
    → drop p₂ t ≡ 9 ∷ drop (suc p₂) t → Number t (suc p₂) 0 o p₃ → End t l c o p₃ e → Wrote t at e
joined {t} {at} {l} {c} {o} {p₁} {p₂} {p₃} {e} n₁ b₁ n₂ b₂ n₃ x =
    record {
      in_range =
          record {
            line_from = omega (arith, n₁.above, x.lines);
            line_to = omega (arith, n₁.below, x.lines);
            count_from = omega (arith, n₂.above, x.counts);
            count_to = omega (arith, n₂.below, x.counts);
            offset_to = omega (arith, n₃.below, x.offsets);
            id_fits_lem = x.fits;
          };
      text = rw (line_parts (record_in t e) (drop e.next t), x.lines, x.counts, x.offsets, ← x.text, ← n₃.text, ← b₂, ← n₂.text, ← b₁) n₁.text;
      further = omega (arith, n₁.behind, n₂.behind, n₃.behind, x.further);
    }

pub record_back : (t : List ℕ) (at : ℕ) (e : IndexRow) → record_at t at ≡ Some e → Wrote t at e
unfolding record_at count_at offset_at
record_back t at e q =
    let f₁ = on_back (field_at t at 1) (λ n p. behind_tab t p (count_at t n)) e q in
    let b₁ = tab_back t f₁.p (count_at t f₁.n) e f₁.on in
    let f₂ = on_back (field_at t (suc f₁.p) 1) (λ n p. behind_tab t p (offset_at t f₁.n n)) e b₁.is in
    let b₂ = tab_back t f₂.p (offset_at t f₁.n f₂.n) e f₂.on in
    let f₃ = on_back (field_at t (suc f₂.p) 0) (end_at t f₁.n f₂.n) e b₂.is in
    joined (field_back t at 1 f₁.n f₁.p f₁.is) b₁.text (field_back t (suc f₁.p) 1 f₂.n f₂.p f₂.is) b₂.text
    (field_back t (suc f₂.p) 0 f₃.n f₃.p f₃.is) (end_back t f₁.n f₂.n f₃.n f₃.p e f₃.on)
