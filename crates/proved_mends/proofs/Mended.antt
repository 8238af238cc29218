-- A mended index is the fresh one.
-- Assumes nothing.
use Rattle.std.specs.Prelude.{Err, Ok, Result}
use mathlib.Core.Path.{◌≡◌, refl, sym, ◌∙◌}
use mathlib.Core.Bool.{Bool, true, false}
use mathlib.Core.List.{List, [], ◌∷◌, ◌++◌}
use Prim.Native.Nat.{ℕ}
use native.Mathlib.Omega.{arith}
use lib.Dec.{ltb}
use lib.ListN.{length}
use Rattle.base_lists.specs.Lists.{same}
use Rattle.base_lists.proofs.Same.{same_true}
use Rattle.base_refusals.specs.Numbers.{max_text, passed}
use Rattle.base_refusals.specs.Orders.{Ground, in_order}
use Rattle.base_refusals.specs.declared.Refusal.{Refusal}
use Rattle.base_refusals.specs.declared.Refusal.TheVariants.{NothingThere, JoinFull}
use Rattle.text_checks.specs.Check.{text_order}
use Rattle.sheet_records.specs.Records.{index_text, index_rows, table_numbers}
use Rattle.sheet_records.specs.Listed.{records_of}
use Rattle.sheet_index.specs.Building.{sheet_order, room_for, build_order, built_of, built_text, built_table}
use Rattle.sheet_index.proofs.Steps.{order_past, order_parts}
use Rattle.sheet_edits.specs.Edits.{again_of, is_again}
use Rattle.sheet_edits.proofs.Cuts.{again_replaced}
use Rattle.sheet_mends.specs.Mending.{edit_order, version_order, old_order, mend_order, mended_of, mended_text, mended_table}
use Rattle.proved_mends.specs.Mended.{Afresh, MendedAfresh, RefusedLeaves}

-- ---- an order of which no ground holds

abbrev Clear : List Ground → Type 0
Clear gs = in_order Err gs passed ≡ passed

is_clear : (gs : List Ground) (x y k m : ℕ) → in_order {A = Result (ℕ × ℕ) Refusal} Err gs (Ok (x, y)) ≡ Ok (k, m) → Clear gs
unfolding in_order
is_clear [] x y k m e = refl
is_clear (Ground.given q true ∷ gs) x y k m e = let z : ◌≡◌ {A = ℕ} 0 1 = cc in absurd (omega arith)
is_clear (Ground.given q false ∷ gs) x y k m e = is_clear gs x y k m e
is_clear (Ground.lacking q true ∷ gs) x y k m e = is_clear gs x y k m e
is_clear (Ground.lacking q false ∷ gs) x y k m e = let z : ◌≡◌ {A = ℕ} 0 1 = cc in absurd (omega arith)

both_clear : (gs hs : List Ground) → Clear gs → Clear hs → Clear (gs ++ hs)
both_clear gs hs e f = order_past Err passed gs hs e ∙ f

-- then the value itself is given, whatever it is
clear_gives : {A : Type 0} (f : Refusal → A) (x : A) (gs : List Ground) → Clear gs → in_order f gs x ≡ x
unfolding in_order
clear_gives f x [] e = refl
clear_gives f x (Ground.given q true ∷ gs) e = let z : ◌≡◌ {A = ℕ} 0 1 = cc in absurd (omega arith)
clear_gives f x (Ground.given q false ∷ gs) e = clear_gives f x gs e
clear_gives f x (Ground.lacking q true ∷ gs) e = clear_gives f x gs e
clear_gives f x (Ground.lacking q false ∷ gs) e = let z : ◌≡◌ {A = ℕ} 0 1 = cc in absurd (omega arith)

-- one ground that doesn't hold
lacking_clear : (q : Refusal) (b : Bool) → Clear (Ground.lacking q b ∷ []) → b ≡ true
unfolding in_order
lacking_clear q true e = refl
lacking_clear q false e = let z : ◌≡◌ {A = ℕ} 0 1 = cc in absurd (omega arith)

-- where one holds, nothing is laid
met_lays : (gs : List Ground) (x y : ℕ) (r : Refusal) → in_order {A = Result (ℕ × ℕ) Refusal} Err gs (Ok (x, y)) ≡ Err r → (xs : List ℕ) → in_order {A = List ℕ} (λ q. []) gs xs ≡ []
unfolding in_order
met_lays [] x y r e xs = let z : ◌≡◌ {A = ℕ} 0 1 = cc in absurd (omega arith)
met_lays (Ground.given q true ∷ gs) x y r e xs = refl
met_lays (Ground.given q false ∷ gs) x y r e xs = met_lays gs x y r e xs
met_lays (Ground.lacking q true ∷ gs) x y r e xs = met_lays gs x y r e xs
met_lays (Ground.lacking q false ∷ gs) x y r e xs = refl

-- ---- mending

module _ (old new : List ℕ) (a b : ℕ) (index : List ℕ) (cap n size k m : ℕ) (e : mended_of old new a b index cap n size ≡ Ok (k, m)) where
  abbrev room : List Ground
  room = room_for n size (records_of new)

  clear : Clear (mend_order old new a b index cap n size)
  unfolding mended_of
  clear = is_clear (mend_order old new a b index cap n size) (length (records_of new)) (length (index_text (records_of new))) k m e

  edit_clear : Clear (edit_order old new a b cap) × Clear (version_order index ++ (old_order old index ++ room))
  unfolding mend_order
  edit_clear = order_parts (edit_order old new a b cap) (version_order index ++ (old_order old index ++ room)) clear

  rest_clear : Clear (old_order old index) × Clear room
  rest_clear = order_parts (old_order old index) room (order_parts (version_order index) (old_order old index ++ room) edit_clear.1).1

  -- 1 and 2 of the new text, 9, and 3
  new_clear : Clear (text_order new ++ (Ground.given JoinFull (ltb cap max_text) ∷ [])) × Clear (Ground.lacking NothingThere (is_again (again_of old new a b)) ∷ [])
  unfolding edit_order
  new_clear =
      let w = order_parts (text_order old) (text_order new ++ (Ground.given JoinFull (ltb cap max_text) ∷ Ground.lacking NothingThere (is_again (again_of old new a b)) ∷ [])) edit_clear.0 in
      order_parts (text_order new ++ (Ground.given JoinFull (ltb cap max_text) ∷ [])) (Ground.lacking NothingThere (is_again (again_of old new a b)) ∷ []) w.1

  build_clear : Clear (build_order new cap n size)
  unfolding build_order sheet_order
  build_clear = both_clear (text_order new ++ (Ground.given JoinFull (ltb cap max_text) ∷ [])) room new_clear.0 rest_clear.1

  afresh : Afresh old new a b index cap n size k m
  unfolding mended_of mended_text mended_table built_of built_text built_table
  afresh =
      record {
        replaced = again_replaced old new a b (lacking_clear NothingThere (is_again (again_of old new a b)) new_clear.1);
        own = same_true index (index_text (records_of old)) (lacking_clear _ (same index (index_text (records_of old))) rest_clear.0);
        answer =
            clear_gives {A = Result (ℕ × ℕ) Refusal} Err (Ok (length (records_of new), length (index_text (records_of new)))) (build_order new cap n size) build_clear
            ∙ (sym (clear_gives {A = Result (ℕ × ℕ) Refusal} Err (Ok (length (records_of new), length (index_text (records_of new)))) (mend_order old new a b index cap n size) clear) ∙ e);
        text =
            clear_gives (λ q. []) (index_text (records_of new)) (mend_order old new a b index cap n size) clear
            ∙ sym (clear_gives (λ q. []) (index_text (records_of new)) (build_order new cap n size) build_clear);
        table =
            clear_gives (λ q. []) (table_numbers (index_rows (records_of new))) (mend_order old new a b index cap n size) clear
            ∙ sym (clear_gives (λ q. []) (table_numbers (index_rows (records_of new))) (build_order new cap n size) build_clear);
      }

pub mended_afresh : MendedAfresh
mended_afresh = afresh

pub refused_leaves : RefusedLeaves
unfolding mended_of mended_text mended_table
refused_leaves old new a b index cap n size r e = (
  met_lays (mend_order old new a b index cap n size) (length (records_of new)) (length (index_text (records_of new))) r e (index_text (records_of new)),
  met_lays (mend_order old new a b index cap n size) (length (records_of new)) (length (index_text (records_of new))) r e (table_numbers (index_rows (records_of new))),
)
