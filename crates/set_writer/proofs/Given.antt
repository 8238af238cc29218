-- What is asked of a set that a caller gives, one check after the other.
-- Assumes nothing.
use Rattle.std.specs.Prelude.{Err, Ok, Result}
use mathlib.Core.Path.{◌≡◌, refl, sym}
use mathlib.Core.Bool.{true, false}
use mathlib.Core.List.{List}
use Prim.Native.Nat.{ℕ}
use native.Mathlib.Omega.{arith}
use lib.ListN.{length}
use Rattle.base_lists.proofs.Each.{is_some_lem}
use Rattle.base_refusals.specs.declared.Refusal.{Refusal}
use Rattle.base_refusals.specs.declared.Refusal.TheVariants.{NotWellFormed, EmptySet}
use Rattle.text_checks.specs.Check.{both_of}
use Rattle.set_canon.specs.Canon.{canon}
use Rattle.set_table.specs.Types.{Texts, max_slots}
use Rattle.set_table.specs.Rows.{meaning_of}
use Rattle.set_table.specs.declared.Attrs.{Attrs}
use Rattle.set_wellformed.specs.WellFormed.{table_ok}
use Rattle.set_table.proofs.Whole.{none_means}
use Rattle.set_writer.specs.Write.{wrote_of, content_after, writable, attrs_wrote, attrs_content}
use Rattle.set_writer.proofs.Walks.{slots_length}
use Rattle.set_writer.proofs.Kept.{means_length}

module _ (t : Texts) (a : Attrs) (buf : List ℕ) where
  abbrev pub Answers : Result ℕ Refusal → List ℕ → Type 0
  Answers r b = (r ≡ attrs_wrote t a (length buf)) × (b ≡ attrs_content t a buf)

  module _ {c : Result (Unit {0}) Refusal} (e : c ≡ both_of t.first t.second) where
    pub by_text : {why : Refusal} → c ≡ Err why → Answers (Err why) buf
    unfolding writable attrs_wrote attrs_content
    by_text q = rw (sym e, q) (refl, refl)

    module _ (p : c ≡ Ok tt) where
      pub by_table : table_ok t a ≡ false → Answers (Err NotWellFormed) buf
      unfolding writable attrs_wrote attrs_content
      by_table f = rw (sym e, p, f) (refl, refl)

      module _ (f : table_ok t a ≡ true) where
        pub by_none : a.norder ≡ 0 → Answers (Err EmptySet) buf
        unfolding writable attrs_wrote attrs_content
        by_none z = rw (sym e, p, f, none_means t a z) (refl, refl)

        pub passed : length a.order ≡ max_slots → (a.norder ≡ 0 → ⊥) → {w : Result ℕ Refusal} {b : List ℕ} → w ≡ wrote_of (canon (meaning_of t a)) (length buf) → b ≡ content_after buf (canon (meaning_of t a)) → Answers w b
        unfolding writable attrs_wrote attrs_content
        passed l z g h = rw (sym e, p, f, is_some_lem (meaning_of t a) (omega (arith, means_length t a, slots_length t a l))) (g, h)
