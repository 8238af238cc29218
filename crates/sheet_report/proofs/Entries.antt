-- The two entries: which refusal comes first, and what a refusal leaves.
-- Assumes nothing.
use Rattle.std.specs.Prelude.{Err, Ok, Result}
use mathlib.Core.Path.{◌≡◌, refl, sym, ◌∙◌}
use mathlib.Core.Bool.{Bool, true, false, ◌&&◌}
use mathlib.Core.List.{List}
use Prim.Native.Nat.{ℕ, zero, suc, ◌+◌, ◌-◌, ◌≤◌, ◌<◌}
use native.Mathlib.Nat.{zero-add}
use native.Mathlib.Omega.{arith}
use borrow.Author.Tests.{le-leb, lt-leb, leb-true, le-ltb, lt-ltb}
use lib.Dec.{eqb, leb, ltb}
use lib.ListN.{length, get_or}
use lib.Seq.{sets-eq}
use Rattle.base_lists.specs.Lists.{over}
use Rattle.base_lists.proofs.Scan.{both}
use Rattle.base_refusals.specs.Numbers.{max_text}
use Rattle.base_refusals.specs.declared.Refusal.{Refusal}
use Rattle.base_refusals.specs.declared.Refusal.TheVariants.{TextTooLong, NothingThere, JoinFull, CanonTooLong}
use Rattle.text_checks.specs.Check.{check_of}
use Rattle.sheet_blocks.specs.Sheets.{tries_at, join_behind}
use Rattle.sheet_report.specs.declared.Told.{Told}
use Rattle.sheet_report.specs.declared.Part.{Part}
use Rattle.sheet_report.specs.Report.{refused_line}
use Rattle.sheet_report.specs.Parts.{max_line, Laid, laid_none, lay_from, begins_line, may_begin, part_of, refusal, start_of, shown_part}
use Rattle.sheet_report.specs.Puts.{PutAt}
use Rattle.sheet_report.proofs.Laying.{refused_le}
use Rattle.sheet_report.proofs.Lays.{Tells}

-- ---- where a line begins

pub behind-lf : (t : List ℕ) (at : ℕ) → (at ≡ 0 → ⊥) → eqb (get_or t (at - 1) 0) 10 ≡ begins_line t at
behind-lf t zero h = absurd (h refl)
behind-lf t (suc i) h = let e : suc i - 1 ≡ i = omega arith in rw e

module _ (t : List ℕ) (at n : ℕ) where
  pub begins_far : length t < at → false ≡ may_begin t at n
  begins_far h = rw (lt-leb at (length t) h)

  pub begins_none : n ≡ 0 → false ≡ may_begin t at n
  begins_none e = rw e (go (leb at (length t)))
    where
      go : (x : Bool) → false ≡ (x && false)
      go true = refl
      go false = refl

  pub begins-over : at < n - 1 → false ≡ may_begin t at n
  begins-over h = rw (lt-leb n (suc at) (omega arith)) (go (leb at (length t)) (leb 1 n))
    where
      go : (x y : Bool) → false ≡ (x && (y && false))
      go true true = refl
      go true false = refl
      go false y = refl

  pub begins_is : {r : Bool} → at ≤ length t → (n ≡ 0 → ⊥) → n - 1 ≤ at → r ≡ begins_line t at → r ≡ may_begin t at n
  begins_is h z l e = rw (le-leb at (length t) h, le-leb 1 n (omega arith), le-leb n (suc at) (omega arith)) e

  pub begins_so : may_begin t at n ≡ true → (at ≤ length t) × ((1 ≤ n) × (n ≤ at + 1))
  begins_so e =
      let p = both (leb at (length t)) (leb 1 n && (leb n (suc at) && begins_line t at)) e in
      let q = both (leb 1 n) (leb n (suc at) && begins_line t at) p.1 in
      let r = both (leb n (suc at)) (begins_line t at) q.1 in
      (leb-true at (length t) p.0, (leb-true 1 n q.0, omega (arith, leb-true n (suc at) r.0)))

  -- ---- the report from there on

  module _ (cap size : ℕ) where
    pub part_long : max_text < length t → part_of t at n cap size ≡ laid_none (Err TextTooLong)
    unfolding part_of
    part_long h = rw (lt-ltb max_text (length t) h)

    module _ (h : length t ≤ max_text) where
      pub part_join : cap < max_text → part_of t at n cap size ≡ laid_none (Err JoinFull)
      unfolding part_of
      part_join j = rw (le-ltb max_text (length t) h, lt-ltb cap max_text j)

      module _ (j : max_text ≤ cap) where
        pub part-nowhere : may_begin t at n ≡ false → part_of t at n cap size ≡ laid_none (Err NothingThere)
        unfolding part_of
        part-nowhere e = rw (le-ltb max_text (length t) h, le-ltb cap max_text j, e)

        module _ (e : may_begin t at n ≡ true) where
          pub part_full : size < max_line → part_of t at n cap size ≡ laid_none (Err CanonTooLong)
          unfolding part_of
          part_full s = rw (le-ltb max_text (length t) h, e, le-ltb cap max_text j, lt-ltb size max_line s)

          pub part_lays : max_line ≤ size → part_of t at n cap size ≡ lay_from t size (tries_at t max_text n at)
          unfolding part_of
          part_lays s = rw (le-ltb max_text (length t) h, e, le-ltb cap max_text j, le-ltb size max_line s)

-- ---- what is told

module _ (join out : List ℕ) {R : Laid} where
  pub told_nothing : {a : Result Told Refusal} {p : Part} → R ≡ laid_none a → p ≡ shown_part (laid_none a) → Tells join out R p join out
  unfolding join_behind
  told_nothing e q = rw e (q, (refl, refl))

  pub told_by : {S : Laid} {p : Part} {join' out' : List ℕ} → R ≡ S → Tells join out S p join' out' → Tells join out R p join' out'
  told_by e q = rw e q

-- ---- a text that is refused

module _ (out : List ℕ) (why : Refusal) where
  pub refusal_none : {p : Part} → length out < max_line → p ≡ record { told = Err why; len = 0; at = 0; line = 0 } → (p ≡ shown_part (refusal (length out) why)) × (out ≡ over (refusal (length out) why).text out)
  refusal_none h e = rw (lt-ltb (length out) max_line h) (e, refl)

  pub refusal_laid : {p : Part} {k : ℕ} {out' : List ℕ} → max_line ≤ length out → PutAt out 0 (refused_line 0 0 why) k out' → p ≡ record { told = Err why; len = k; at = 0; line = 0 }
      → (p ≡ shown_part (refusal (length out) why)) × (out' ≡ over (refusal (length out) why).text out)
  refusal_laid h w e =
      rw (le-ltb (length out) max_line h)
      (e ∙ rw (w.behind, zero-add (length (refused_line 0 0 why))), w.content ∙ (rw (zero-add (length (refused_line 0 0 why))) at (sets-eq (refused_line 0 0 why) out 0 (omega (arith, refused_le 0 0 why (omega arith) (omega arith))))))

module _ (t join out : List ℕ) {c : Result (Unit {0}) Refusal} (e : c ≡ check_of t) where
  pub start_refused : {why : Refusal} {p : Part} {out' : List ℕ} → c ≡ Err why
      → (p ≡ shown_part (refusal (length out) why)) × (out' ≡ over (refusal (length out) why).text out) → Tells join out (start_of t (length join) (length out)) p join out'
  unfolding start_of join_behind
  start_refused q w = rw (sym e ∙ q) (w.0, (refl, w.1))

  pub start-passed : c ≡ Ok tt → start_of t (length join) (length out) ≡ part_of t 0 1 (length join) (length out)
  unfolding start_of
  start-passed q = rw (sym e ∙ q)
