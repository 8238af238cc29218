-- A set's limits, its empty value, the texts that it is over, and the bytes that its names and values stand for.
use Rattle.std.specs.Prelude.{ℕ, false, cond, List, [], eqb, replicate, take}
use Rattle.std.proofs.Math.Seq.{slice}
use Rattle.block_grammar.specs.Meaning.{lang_name}
use Rattle.text_escapes.specs.Unescape.{unescape}
use Rattle.set_table.specs.declared.Origin.{Origin}
use Rattle.set_table.specs.declared.Origin.TheVariants.{First, Second}
use Rattle.set_table.specs.declared.Text.{Text}
use Rattle.set_table.specs.declared.Text.TheVariants.{Plain, Quoted, Empty}
use Rattle.set_table.specs.declared.Value.{Value}
use Rattle.set_table.specs.declared.Name.{Name}
use Rattle.set_table.specs.declared.Name.TheVariants.{Range, Lang}
use Rattle.set_table.specs.declared.Row.{Row}
use Rattle.set_table.specs.declared.Slot.TheVariants.{Key}
use Rattle.set_table.specs.declared.SlotRecord.{SlotRecord}
use Rattle.set_table.specs.declared.Attrs.{Attrs}

-- "64 classes, 64 keys, 66 slots."
abbrev pub max_classes : ℕ
max_classes = 64

abbrev pub max_keys : ℕ
max_keys = 64

abbrev pub max_slots : ℕ
max_slots = 66

-- "Rows past the counts are zero"
abbrev pub zero_value : Value
zero_value = record { text = Plain First 0 0 }

abbrev pub zero_row : Row
zero_row = record { name = Range First 0 0; value = zero_value }

abbrev pub zero_slot : SlotRecord
zero_slot = record { slot = Key 0 }

abbrev pub empty_set : Attrs
empty_set = record { id = zero_value; given = false; nclass = 0; nkey = 0; norder = 0; classes = replicate max_classes zero_value; keys = replicate max_keys zero_row; order = replicate max_slots zero_slot }

-- "Every range shall say which of two lent texts it belongs to": the texts that ranges are of
pub record Texts : Type 0 where
  pub first : List ℕ
  pub second : List ℕ

abbrev pub two : List ℕ → List ℕ → Texts
two t u = record { first = t; second = u }

abbrev pub one : List ℕ → Texts
one t = two t []

abbrev pub text_at : Texts → Origin → List ℕ
text_at t First = t.first
text_at t Second = t.second

-- the bytes from `from` up to `to`; what lies past the end is left out
unfoldable pub range_bytes : Texts → Origin → ℕ → ℕ → List ℕ
range_bytes t o from to = slice from to (text_at t o)

-- the one text that the ranges of a block's set are of: "the joined text, whose length is answered too", or the lent one where nothing was joined
unfoldable pub text_over : List ℕ → List ℕ → ℕ → List ℕ
text_over t join joined = cond (eqb joined 0) t (take joined join)

-- "A key's name is a range or the fixed name `lang`, which `:` gives"
unfoldable pub name_bytes : Texts → Name → List ℕ
name_bytes t (Range o from to) = range_bytes t o from to
name_bytes t Lang = lang_name

-- "In the meaning a plain id, class or value stands as it is, a quoted one unescaped, an empty one as no bytes"
abbrev pub text_bytes : Texts → Text → List ℕ
text_bytes t (Plain o from to) = range_bytes t o from to
text_bytes t (Quoted o from to) = unescape (range_bytes t o from to)
text_bytes t Empty = []

unfoldable pub value_bytes : Texts → Value → List ℕ
value_bytes t v = text_bytes t v.text
