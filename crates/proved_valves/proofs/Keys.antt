-- The value of a key, by its rule.
-- Assumes nothing.
use Rattle.std.specs.Prelude.{None, Option, Some}
use mathlib.Core.Path.{◌≡◌, refl, sym, ◌∙◌, ap}
use mathlib.Core.Bool.{Bool, true, false, cond, not, ◌&&◌}
use mathlib.Core.List.{List, [], ◌∷◌, ◌++◌, append-nil}
use Prim.Native.Nat.{ℕ}
use borrow.Author.Tests.{not-true}
use lib.ListN.{get_or}
use Rattle.base_lists.specs.Lists.{same, all}
use Rattle.base_lists.proofs.More.{contra}
use Rattle.base_lists.proofs.Scan.{both}
use Rattle.set_table.specs.Types.{Texts, zero_row, name_bytes}
use Rattle.set_table.specs.Rows.{rows_in}
use Rattle.set_table.specs.declared.Row.{Row}
use Rattle.set_table.specs.declared.Slot.{Slot}
use Rattle.set_table.specs.declared.Slot.TheVariants.{Id, Class, Key}
use Rattle.set_keyed.specs.Keyed.{slot_found, or_keyed, first_by, key_in, key_found}
use Rattle.proved_valves.specs.Keys.{slot_has, none_has, KeyedIn, KeyByRule}
use Rattle.set_table.specs.declared.Value.{Value}

module _ (t : Texts) (rs : List Row) (n : List ℕ) where
  -- a slot that isn't the key gives nothing
  not_it : (s : Slot) → slot_has t rs n s ≡ false → slot_found t rs n s ≡ None
  unfolding slot_has slot_found
  not_it Id e = refl
  not_it Class e = refl
  not_it (Key k) e = rw e

  it : (k : ℕ) → slot_has t rs n (Key k) ≡ true → slot_found t rs n (Key k) ≡ Some (get_or rs k zero_row).value
  unfolding slot_has slot_found
  it k e = rw e

  -- ---- what is found

  further : (s : Slot) (o : List Slot) {r : Option Value} → slot_has t rs n s ≡ false → KeyedIn t rs n o r → KeyedIn t rs n (s ∷ o) r
  unfolding none_has all
  further s o e (KeyedIn.missing h) = KeyedIn.missing (rw e h)
  further s o e (KeyedIn.given b k c p h q) = KeyedIn.given (s ∷ b) k c (ap (λ (l : List Slot). s ∷ l) p) (rw e h) q

  by_rule : (o : List Slot) → KeyedIn t rs n o (first_by (slot_found t rs n) o)
  unfolding first_by none_has all slot_has
  by_rule [] = KeyedIn.missing refl
  by_rule (s ∷ o) = go s (slot_has t rs n s) refl (by_rule o)
    where
      go : (s : Slot) (b : Bool) → slot_has t rs n s ≡ b → KeyedIn t rs n o (first_by (slot_found t rs n) o) → KeyedIn t rs n (s ∷ o) (or_keyed (slot_found t rs n s) (first_by (slot_found t rs n) o))
      go s false e ih = rw (not_it s e) (further s o e ih)
      go Id true e ih = contra false e refl
      go Class true e ih = contra false e refl
      go (Key k) true e ih = rw (it k e) (KeyedIn.given [] k o refl refl e)

  -- ---- and nothing else

  passed : (b o : List Slot) → none_has t rs n b ≡ true → first_by (slot_found t rs n) (b ++ o) ≡ first_by (slot_found t rs n) o
  unfolding first_by none_has all
  passed [] o e = refl
  passed (s ∷ b) o e = let z = both (not (slot_has t rs n s)) (none_has t rs n b) e in rw (not_it s (not-true (slot_has t rs n s) z.0)) (passed b o z.1)

  by_value : (o : List Slot) {r : Option Value} → KeyedIn t rs n o r → r ≡ first_by (slot_found t rs n) o
  unfolding first_by
  by_value o (KeyedIn.missing h) = sym (rw (append-nil o) at (passed o [] h))
  by_value o (KeyedIn.given b k c p h q) = sym (rw p (passed b (Key k ∷ c) h ∙ rw (it k q)))

pub key_by_rule : KeyByRule
unfolding key_found key_in
key_by_rule t a n r = (λ e. rw e (by_rule t (rows_in a).keys n (rows_in a).order), by_value t (rows_in a).keys n (rows_in a).order)
