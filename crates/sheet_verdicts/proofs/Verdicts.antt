-- What is measured of a canonical text says whether it can be printed, and the number of a verdict is that of its order.
-- Assumes nothing.
use Rattle.std.specs.Prelude.{Err, Ok, Result}
use mathlib.Core.Path.{◌≡◌, refl, sym, ◌∙◌}
use mathlib.Core.Bool.{Bool, true, false, cond, ◌&&◌}
use mathlib.Core.List.{List, [], ◌∷◌, ◌++◌}
use Prim.Native.Nat.{ℕ, ◌≤◌}
use native.Mathlib.Omega.{arith}
use borrow.Author.Tests.{ltb-true, ltb-false, le-leb, lt-leb}
use lib.Dec.{leb, ltb}
use lib.ListN.{length}
use Rattle.base_refusals.specs.Numbers.{max_text, outcome_no, passed, refused}
use Rattle.base_refusals.specs.Orders.{Ground, in_order, order_no}
use Rattle.base_refusals.specs.declared.Refusal.{Refusal}
use Rattle.base_refusals.specs.declared.Refusal.TheVariants.{CanonTooLong}
use Rattle.base_refusals.proofs.Said.{said}
use Rattle.set_canon.specs.Canon.{canon}
use Rattle.set_table.specs.Types.{Texts}
use Rattle.set_table.specs.Rows.{meaning_of}
use Rattle.set_table.specs.declared.Attrs.{Attrs}
use Rattle.set_writer.specs.Write.{has_room, wrote_of}
use Rattle.sheet_verdicts.specs.Verdicts.{printable, block_verdict, verdict_order}

module _ (xs : List ℕ) {w : Result ℕ Refusal} (e : w ≡ wrote_of xs max_text) where
  measured : (b : Bool) → ltb max_text (length xs) ≡ b → w ≡ cond b (Err CanonTooLong) (Ok (length xs))
  unfolding wrote_of has_room
  measured true q = e ∙ (rw (lt-leb (length xs) max_text (ltb-true max_text (length xs) q)))
  measured false q = e ∙ (rw (le-leb (length xs) max_text (ltb-false max_text (length xs) q)))

  pub room_none : {why : Refusal} → w ≡ Err why → Err why ≡ printable xs
  unfolding printable
  room_none {why} q = go (ltb max_text (length xs)) (sym q ∙ measured (ltb max_text (length xs)) refl)
    where
      go : (b : Bool) → Err why ≡ cond b (Err CanonTooLong) (Ok (length xs)) → refused why ≡ cond b (Err CanonTooLong) (Ok tt)
      go true z = let y : why ≡ CanonTooLong = cc in rw y
      go false z = let y : ◌≡◌ {A = ℕ} 0 1 = cc in absurd (omega arith)

  pub room_some : {k : ℕ} → w ≡ Ok k → Ok tt ≡ printable xs
  unfolding printable
  room_some {k} q = go (ltb max_text (length xs)) (sym q ∙ measured (ltb max_text (length xs)) refl)
    where
      go : (b : Bool) → Ok k ≡ cond b (Err CanonTooLong) (Ok (length xs)) → passed ≡ cond b (Err CanonTooLong) (Ok tt)
      go true z = let y : ◌≡◌ {A = ℕ} 0 1 = cc in absurd (omega arith)
      go false z = refl

pub verdict_no : (t : Texts) (a : Attrs) (o : Result (Unit {0}) Refusal) → outcome_no (block_verdict t a o) ≡ order_no (verdict_order t a o)
unfolding block_verdict printable order_no
verdict_no t a (Err r) = refl
verdict_no t a (Ok _) = go (ltb max_text (length (canon (meaning_of t a))))
  where
    go : (b : Bool) → outcome_no (cond b (Err CanonTooLong) (Ok tt)) ≡ order_no (Ground.given CanonTooLong b ∷ [])
    go true = refl
    go false = refl

-- ---- what is promised

refused_is : (t : Texts) (a : Attrs) (why : Refusal) → block_verdict t a (Err why) ≡ Err why
unfolding block_verdict
refused_is t a why = refl

passed_is : (t : Texts) (a : Attrs) → block_verdict t a (Ok tt) ≡ printable (canon (meaning_of t a))
unfolding block_verdict
passed_is t a = refl

module _ (t : Texts) (a : Attrs) where
  abbrev pub Judges : Result (Unit {0}) Refusal → Result (Unit {0}) Refusal → Type 0
  Judges o r = record { value : r ≡ block_verdict t a o; result_value : outcome_no r ≡ order_no (verdict_order t a o) }

  -- the set is refused already
  pub by_outcome : {o : Result (Unit {0}) Refusal} {why : Refusal} → o ≡ Err why → Judges o (Err why)
  by_outcome {o} {why} e = said outcome_no (verdict_no t a o) (rw e (sym (refused_is t a why)))

  -- or it is told by its canonical text
  pub by_text : {o r : Result (Unit {0}) Refusal} → o ≡ Ok tt → r ≡ printable (canon (meaning_of t a)) → Judges o r
  by_text {o} e q = said outcome_no (verdict_no t a o) (q ∙ (rw e (sym (passed_is t a))))
