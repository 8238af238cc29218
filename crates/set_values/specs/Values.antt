-- Which values, ids, classes and keys may stand in a well-formed table over its texts.
use Rattle.std.specs.Prelude.{ℕ, Bool, true, ◌&&◌, leb}
use Rattle.text_utf8.specs.Utf8.{is_boundary}
use Rattle.text_names.specs.Names.{is_key}
use Rattle.block_grammar.specs.Close.{no_lf}
use Rattle.set_canon.specs.Canon.{is_class_value}
use Rattle.set_table.specs.Types.{Texts, text_at, name_bytes, value_bytes}
use Rattle.set_table.specs.Rows.{Ident}
use Rattle.set_table.specs.Shape.{is_free}
use Rattle.set_table.specs.declared.Origin.{Origin}
use Rattle.set_table.specs.declared.Text.{Text}
use Rattle.set_table.specs.declared.Text.TheVariants.{Plain, Quoted, Empty}
use Rattle.set_table.specs.declared.Value.{Value}
use Rattle.set_table.specs.declared.Name.{Name}
use Rattle.set_table.specs.declared.Name.TheVariants.{Range, Lang}
use Rattle.set_table.specs.declared.Row.{Row}

-- "ranges inside their text on character boundaries"
unfoldable pub range_ok : Texts → Origin → ℕ → ℕ → Bool
range_ok t o from to = leb from to && (is_boundary (text_at t o) from && is_boundary (text_at t o) to)

unfoldable pub text_ok : Texts → Text → Bool
text_ok t (Plain o from to) = range_ok t o from to
text_ok t (Quoted o from to) = range_ok t o from to
text_ok t Empty = true

unfoldable pub name_ok : Texts → Name → Bool
name_ok t (Range o from to) = range_ok t o from to
name_ok t Lang = true

-- "no LF in an unescaped id, class or key value"
unfoldable pub value_ok : Texts → Value → Bool
value_ok t v = text_ok t v.text && no_lf (value_bytes t v)

abbrev pub ident_ok : Texts → Ident → Bool
ident_ok t Ident.missing = true
ident_ok t (Ident.given v) = value_ok t v

-- "a class is free of whitespace or nothing but whitespace"
unfoldable pub class_ok : Texts → Value → Bool
class_ok t v = value_ok t v && is_class_value (value_bytes t v)

-- "keys by the grammar, .., not `id` or `class`"
unfoldable pub key_ok : Texts → Row → Bool
key_ok t r = name_ok t r.name && (is_key (name_bytes t r.name) && (is_free (name_bytes t r.name) && value_ok t r.value))
