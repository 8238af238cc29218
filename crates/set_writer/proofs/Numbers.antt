-- The numbers of `write_set`, 10 alone, and of `write_attrs`: 1 and 2 of the first text, then of the second, then 11, 12 and 10.
-- Else none, and the length of what is written.
-- Assumes nothing.
use Rattle.std.specs.Prelude.{Err, Result}
use mathlib.Core.Path.{◌≡◌, refl, ap, ◌∙◌}
use mathlib.Core.Bool.{Bool, true, false}
use mathlib.Core.List.{List, [], ◌∷◌}
use Prim.Native.Nat.{ℕ}
use lib.ListN.{length}
use Rattle.base_lists.specs.Lists.{is_some}
use Rattle.base_refusals.specs.Numbers.{Paper}
use Rattle.base_refusals.specs.Orders.{Ground, in_order, on_paper}
use Rattle.base_refusals.specs.declared.Refusal.TheVariants.{NotWellFormed, EmptySet}
use Rattle.base_refusals.proofs.Orders.{paper_by}
use Rattle.text_checks.specs.Check.{both_order, both_of}
use Rattle.text_checks.specs.Outcomes.{unless, or_else}
use Rattle.set_canon.specs.Canon.{canon}
use Rattle.set_table.specs.Types.{Texts}
use Rattle.set_table.specs.Rows.{meaning_of}
use Rattle.set_table.specs.declared.Attrs.{Attrs}
use Rattle.set_wellformed.specs.WellFormed.{table_ok}
use Rattle.set_writer.specs.Write.{wrote_paper, room_order, wrote_of, writable, or_refused, attrs_wrote, writer_order}
use Rattle.base_refusals.specs.declared.Refusal.{Refusal}

-- an answer that comes with what then stands in the lent memory has the number and the values of what it is equal to
pub said : {w v : Result ℕ Refusal} {p : Paper} {B : Type 0} → wrote_paper v ≡ p → (w ≡ v) × B → record { value : w ≡ v; out_after : B; result_value : wrote_paper w ≡ p }
said k e = record { value = e.0; out_after = e.1; result_value = ap wrote_paper e.0 ∙ k }

module _ (xs : List ℕ) (size : ℕ) where
  pub set_no : wrote_paper (wrote_of xs size) ≡ on_paper (room_order xs size) (length xs ∷ [])
  unfolding wrote_of in_order on_paper
  set_no = paper_by wrote_paper Err (length xs ∷ []) (λ r. refl) (room_order xs size) [] refl

  -- "11, 12, 10", of a set that is well-formed and has a slot, or not
  given_no : (well some : Bool)
      → wrote_paper (or_refused (or_else (unless NotWellFormed well) (unless EmptySet some)) (wrote_of xs size))
      ≡ on_paper (Ground.lacking NotWellFormed well ∷ Ground.lacking EmptySet some ∷ room_order xs size) (length xs ∷ [])
  unfolding on_paper in_order
  given_no false some = refl
  given_no true false = refl
  given_no true true = set_no

pub wrote_no : (t : Texts) (a : Attrs) (size : ℕ) → wrote_paper (attrs_wrote t a size) ≡ on_paper (writer_order t a size) (length (canon (meaning_of t a)) ∷ [])
unfolding attrs_wrote writable both_of
wrote_no t a size =
    paper_by (λ o. wrote_paper (or_refused (or_else o (or_else (unless NotWellFormed well) (unless EmptySet some))) (wrote_of xs size))) Err (length xs ∷ []) (λ r. refl) (both_order t.first t.second)
    (Ground.lacking NotWellFormed well ∷ Ground.lacking EmptySet some ∷ room_order xs size) (given_no xs size well some)
  where
    xs : List ℕ
    xs = canon (meaning_of t a)

    well : Bool
    well = table_ok t a

    some : Bool
    some = is_some (meaning_of t a)
