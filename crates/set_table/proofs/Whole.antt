-- The rows read back out of a table are the rows that it was made of; and a table without slots means nothing.
-- Assumes nothing.
use mathlib.Core.Path.{◌≡◌, refl}
use mathlib.Core.Bool.{cond}
use mathlib.Core.List.{List, [], map, map-map, map-id}
use Prim.Native.Nat.{ℕ, ◌-◌}
use lib.ListN.{length, take, replicate, length-map}
use lib.Seq.{take-append_seam}
use Rattle.block_grammar.specs.Meaning.{classes_once}
use Rattle.set_table.specs.Types.{Texts, max_classes, max_keys, max_slots, zero_value, zero_row, zero_slot}
use Rattle.set_table.specs.Rows.{Rows, Ident, is_there, id_or, padded, held, slot_in, table_of, rows_in, meant, listed_of, meaning_of}
use Rattle.set_table.specs.declared.Attrs.{Attrs}

module _ {A : Type 0} (n : ℕ) (z : A) where
  pub padded_front : (xs : List A) → take (length xs) (padded n z xs) ≡ xs
  unfolding padded
  padded_front xs = take-append_seam xs (replicate (n - length xs) z)

module _ (s : Rows) where
  order_back : map slot_in (take (length s.order) (padded max_slots zero_slot (map held s.order))) ≡ s.order
  order_back = rw (← length-map s.order held, padded_front max_slots zero_slot (map held s.order), map-map slot_in held s.order) (map-id s.order)

  id_back : (i : Ident) → cond (is_there i) (Ident.given (id_or i)) Ident.missing ≡ i
  id_back Ident.missing = refl
  id_back (Ident.given v) = refl

  -- the limits aren't needed: the counts say how many rows the arrays begin with
  pub rows_table : rows_in (table_of s) ≡ s
  unfolding rows_in table_of
  rows_table = rw (padded_front max_classes zero_value s.classes, padded_front max_keys zero_row s.keys, order_back, id_back s.ident)

pub none_means : (t : Texts) (a : Attrs) → a.norder ≡ 0 → meaning_of t a ≡ []
unfolding meaning_of listed_of meant rows_in classes_once
none_means t a e = rw e
