-- "meaning doesn't include the origin": what a set means is settled by the bytes that its names and values stand for.
use Rattle.std.specs.Prelude.{◌≡◌, List, map, ℕ}
use Rattle.set_table.specs.Types.{Texts, name_bytes, value_bytes}
use Rattle.set_table.specs.Rows.{Rows, id_values, rows_in, meaning_of}
use Rattle.set_table.specs.declared.Row.{Row}
use Rattle.set_table.specs.declared.Attrs.{Attrs}

abbrev pub row_name : Texts → Row → List ℕ
row_name t r = name_bytes t r.name

abbrev pub row_value : Texts → Row → List ℕ
row_value t r = value_bytes t r.value

-- the rows s over the texts t and the rows s' over t' stand for the same bytes, in the same order
pub record SameBytes (t t' : Texts) (s s' : Rows) : Type 0 where
  pub ident : id_values t' s'.ident ≡ id_values t s.ident
  pub classes : map (value_bytes t') s'.classes ≡ map (value_bytes t) s.classes
  pub names : map (row_name t') s'.keys ≡ map (row_name t) s.keys
  pub values : map (row_value t') s'.keys ≡ map (row_value t) s.keys
  pub order : s'.order ≡ s.order

-- of any two tables, hand-made ones too, each over its own texts
abbrev pub BytesMean : Type 0
BytesMean = (t t' : Texts) (a a' : Attrs) → SameBytes t t' (rows_in a) (rows_in a') → meaning_of t' a' ≡ meaning_of t a
