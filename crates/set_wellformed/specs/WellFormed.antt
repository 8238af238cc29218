-- Which tables are well-formed over their texts, point by point.
use Rattle.std.specs.Prelude.{ℕ, zero, suc, Bool, true, cond, not, ◌&&◌, List, [], ◌∷◌, eqb, leb, length}
use Rattle.base_lists.specs.Lists.{all}
use Rattle.text_checks.specs.Check.{is_text}
use Rattle.set_table.specs.Types.{Texts, max_classes, max_keys, max_slots}
use Rattle.set_table.specs.Rows.{Rows, rows_in, has_key}
use Rattle.set_table.specs.Shape.{times, is_present}
use Rattle.set_table.specs.declared.Row.{Row}
use Rattle.set_table.specs.declared.Slot.{Slot}
use Rattle.set_table.specs.declared.Slot.TheVariants as slot
use Rattle.set_table.specs.declared.Attrs.{Attrs}
use Rattle.set_values.specs.Values.{ident_ok, class_ok, key_ok}

-- "counts within the limits"
unfoldable pub counts_ok : Attrs → Bool
counts_ok a = leb a.nclass max_classes && (leb a.nkey max_keys && leb a.norder max_slots)

-- ".., distinct, .."
unfoldable pub keys_apart : Texts → List Row → Bool
keys_apart t [] = true
keys_apart t (r ∷ rs) = not (has_key t r.name rs) && keys_apart t rs

-- "slots name exactly the Id, Class and keys present, once each"
abbrev pub is_once : Rows → Slot → Bool
is_once s x = eqb (times x s.order) (cond (is_present s x) 1 0)

unfoldable pub keys_once : Rows → ℕ → Bool
keys_once s zero = true
keys_once s (suc k) = is_once s (slot.Key k) && keys_once s k

unfoldable pub slots_ok : Rows → Bool
slots_ok s = all (is_present s) s.order && (is_once s slot.Id && (is_once s slot.Class && keys_once s (length s.keys)))

unfoldable pub rows_ok : Texts → Rows → Bool
rows_ok t s = ident_ok t s.ident && (all (class_ok t) s.classes && (all (key_ok t) s.keys && (keys_apart t s.keys && slots_ok s)))

-- all but what is said of the texts themselves
unfoldable pub table_ok : Texts → Attrs → Bool
table_ok t a = counts_ok a && rows_ok t (rows_in a)

-- "Well-formed: the texts give neither 1 nor 2; .."; "merging, well-formedness and writing take both texts"
unfoldable pub well_formed : Texts → Attrs → Bool
well_formed t a = is_text t.first && (is_text t.second && table_ok t a)
