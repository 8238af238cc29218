-- What a set means is settled by the bytes of its names and values.
-- Assumes nothing.
use mathlib.Core.Path.{◌≡◌, refl, ◌∙◌, ap}
use mathlib.Core.List.{map}
use Rattle.set_table.specs.Types.{Texts, range_bytes, name_bytes, value_bytes, zero_row}
use Rattle.set_table.specs.Rows.{Rows, slot_entry, meant, meaning_of, listed_of}
use Rattle.set_table.specs.declared.Slot.{Slot}
use Rattle.set_table.specs.declared.Slot.TheVariants.{Id, Class, Key}
use Rattle.proved_origins.specs.Meaning.{row_name, row_value, BytesMean}
use Rattle.proved_origins.proofs.Pairs.{same_map, same_at}
use Rattle.block_grammar.specs.Meaning.{classes_once}
pub use Rattle.proved_origins.specs.Meaning.{SameBytes}

module _ {t t' : Texts} {s s' : Rows} (h : SameBytes t t' s s') where
  -- a slot past the count is that of the zero row, which is of no bytes in any text
  slot_means : (x : Slot) → slot_entry t' s' x ≡ slot_entry t s x
  unfolding slot_entry name_bytes value_bytes range_bytes
  slot_means Id = rw h.ident
  slot_means Class = rw h.classes
  slot_means (Key k) =
      rw (same_at (row_name t') (row_name t) zero_row s'.keys s.keys h.names name k, same_at (row_value t') (row_value t) zero_row s'.keys s.keys h.values value k)
    where
      name : row_name t' zero_row ≡ row_name t zero_row
      name = refl

      value : row_value t' zero_row ≡ row_value t zero_row
      value = refl

  pub rows_mean : meant t' s' ≡ meant t s
  unfolding meant
  rows_mean = ap (map (slot_entry t' s')) h.order ∙ same_map (slot_entry t' s') (slot_entry t s) slot_means s.order

pub bytes_mean : BytesMean
unfolding meaning_of listed_of
bytes_mean t t' a a' h = ap classes_once (rows_mean h)
