-- A set with its two texts changed over. "Every range shall say which of two lent texts it belongs to": it then belongs to the other.
use Rattle.std.specs.Prelude.{ℕ, cond, List, ◌++◌, map, take, drop}
use Rattle.set_table.specs.Types.{Texts, two}
use Rattle.set_table.specs.declared.Origin.{Origin}
use Rattle.set_table.specs.declared.Origin.TheVariants.{First, Second}
use Rattle.set_table.specs.declared.Text.{Text}
use Rattle.set_table.specs.declared.Text.TheVariants.{Plain, Quoted, Empty}
use Rattle.set_table.specs.declared.Value.{Value}
use Rattle.set_table.specs.declared.Name.{Name}
use Rattle.set_table.specs.declared.Name.TheVariants.{Range, Lang}
use Rattle.set_table.specs.declared.Row.{Row}
use Rattle.set_table.specs.declared.Attrs.{Attrs}

abbrev pub other_origin : Origin → Origin
other_origin First = Second
other_origin Second = First

-- the texts changed over
abbrev pub changed_over : Texts → Texts
changed_over t = two t.second t.first

abbrev pub other_text : Text → Text
other_text (Plain o from to) = Plain (other_origin o) from to
other_text (Quoted o from to) = Quoted (other_origin o) from to
other_text Empty = Empty

abbrev pub other_value : Value → Value
other_value v = record { text = other_text v.text }

-- "the fixed name `lang`" is of no text
abbrev pub other_name : Name → Name
other_name (Range o from to) = Range (other_origin o) from to
other_name Lang = Lang

abbrev pub other_row : Row → Row
other_row r = record { name = other_name r.name; value = other_value r.value }

-- the first n, which count; those past them stay
unfoldable pub firsts_by : {A : Type 0} → (A → A) → ℕ → List A → List A
firsts_by f n xs = map f (take n xs) ++ drop n xs

unfoldable pub exchanged : Attrs → Attrs
exchanged a =
    record {
      id = cond a.given (other_value a.id) a.id;
      given = a.given;
      nclass = a.nclass;
      nkey = a.nkey;
      norder = a.norder;
      classes = firsts_by other_value a.nclass a.classes;
      keys = firsts_by other_row a.nkey a.keys;
      order = a.order;
    }
