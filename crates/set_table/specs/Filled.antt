-- What a reading or a merge hands out: a set within the limits, or a refusal with the empty set.
use Rattle.std.specs.Prelude.{List, [], ◌∷◌, ltb, length, Err, Ok}
use Rattle.base_refusals.specs.Orders.{Ground, in_order}
use Rattle.base_refusals.specs.declared.Refusal.{Refusal}
use Rattle.base_refusals.specs.declared.Refusal.TheVariants.{TooManyClasses, TooManyKeys}
use Rattle.set_table.specs.Types.{empty_set, max_classes, max_keys}
use Rattle.set_table.specs.Rows.{Rows, table_of}
use Rattle.set_table.specs.declared.Filled.{Filled}

-- the set of a refusal is the empty one
abbrev pub refusing : Refusal → Filled
refusing r = record { outcome = Err r; set = empty_set }

-- "grammatical, more than 64 classes", then "more than 64 distinct keys"
abbrev pub limit_order : Rows → List Ground
limit_order s =
    Ground.given TooManyClasses (ltb max_classes (length s.classes))
    ∷ Ground.given TooManyKeys (ltb max_keys (length s.keys))
    ∷ []

unfoldable pub limited : Rows → Filled
unfolding in_order
limited s = in_order refusing (limit_order s) (record { outcome = Ok tt; set = table_of s })
