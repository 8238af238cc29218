-- A table lists what the rows list that it was made of, and what lies past its counts is zero, as is an id that isn't given.
-- Assumes nothing.
use Prim.Native.Nat.{ℕ, zero, suc, ◌+◌, ◌≤◌, ◌-◌}
use mathlib.Core.Path.{◌≡◌, refl, ap}
use mathlib.Core.Bool.{true, false}
use mathlib.Core.List.{List, [], map}
use native.Mathlib.Omega.{arith}
use lib.ListN.{length, get_or, replicate, length-map}
use lib.Seq.{get_or-append-add}
use Rattle.base_lists.proofs.More.{contra}
use Rattle.set_table.specs.Types.{Texts, max_classes, max_keys, max_slots, zero_value, zero_row, zero_slot, empty_set}
use Rattle.set_table.specs.Rows.{Ident, Rows, no_rows, is_there, padded, held, id_or, table_of, rows_in, meant, meaning_of, listed_of}
use Rattle.set_table.proofs.Whole.{rows_table}
use Rattle.block_grammar.specs.Meaning.{classes_once}

module _ {A : Type 0} (n : ℕ) (z : A) where
  pub padded_past : (xs : List A) (k : ℕ) → length xs ≤ k → get_or (padded n z xs) k z ≡ z
  unfolding padded
  padded_past xs k h = let e : k ≡ length xs + (k - length xs) = omega arith in rw (e, get_or-append-add xs (replicate (n - length xs) z) (k - length xs) z) (none (n - length xs) (k - length xs))
    where
      none : (m j : ℕ) → get_or (replicate m z) j z ≡ z
      none zero j = refl
      none (suc m) zero = refl
      none (suc m) (suc j) = none m j

module _ (s : Rows) where
  pub table_lists : (t : Texts) → listed_of t (table_of s) ≡ meant t s
  unfolding listed_of
  table_lists t = ap (meant t) (rows_table s)

  pub table_means : (t : Texts) → meaning_of t (table_of s) ≡ classes_once (meant t s)
  unfolding meaning_of
  table_means t = ap classes_once (table_lists t)

  pub past_id : (table_of s).given ≡ false → (table_of s).id ≡ zero_value
  unfolding table_of
  past_id = go s.ident
    where
      go : (i : Ident) → is_there i ≡ false → id_or i ≡ zero_value
      go Ident.missing e = refl
      go (Ident.given v) e = contra true refl e

  module _ (k : ℕ) where
    pub past_classes : (table_of s).nclass ≤ k → get_or (table_of s).classes k zero_value ≡ zero_value
    unfolding table_of
    past_classes h = padded_past max_classes zero_value s.classes k h

    pub past_keys : (table_of s).nkey ≤ k → get_or (table_of s).keys k zero_row ≡ zero_row
    unfolding table_of
    past_keys h = padded_past max_keys zero_row s.keys k h

    pub past_slots : (table_of s).norder ≤ k → get_or (table_of s).order k zero_slot ≡ zero_slot
    unfolding table_of
    past_slots h = padded_past max_slots zero_slot (map held s.order) k (rw length-map h)

-- the set with nothing in it
pub empty_table : table_of no_rows ≡ empty_set
unfolding table_of padded
empty_table = refl

pub empty_means : (t : Texts) → meaning_of t empty_set ≡ []
unfolding meaning_of listed_of rows_in meant classes_once
empty_means t = refl
