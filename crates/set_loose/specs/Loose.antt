-- "Port `consume_loose`: it acts only if the key's unescaped value is empty, removes the key and its slot, and answers whether it did."
use Rattle.std.specs.Prelude.{ℕ, suc, Bool, false, cond, not, List, [], ◌∷◌, ◌++◌, Err, Ok, Result, true}
use Rattle.base_lists.specs.Lists.{is_some, same}
use Rattle.base_refusals.specs.Numbers.{Paper, refused_paper, passed_paper}
use Rattle.base_refusals.specs.Orders.{Ground}
use Rattle.base_refusals.specs.declared.Refusal.{Refusal}
use Rattle.base_refusals.specs.declared.Refusal.TheVariants.{NotWellFormed}
use Rattle.text_checks.specs.Check.{both_order, both_of}
use Rattle.block_grammar.specs.Meaning.{Entry, lookup}
use Rattle.set_table.specs.Types.{Texts, empty_set, name_bytes}
use Rattle.set_table.specs.Rows.{Rows, rows_in, table_of, meaning_of}
use Rattle.set_table.specs.declared.Row.{Row}
use Rattle.set_table.specs.declared.Attrs.{Attrs}
use Rattle.set_wellformed.specs.WellFormed.{table_ok}
use Rattle.set_loose.specs.declared.Consumed.{Consumed}
use Rattle.set_loose.specs.Without.{without_row}

-- `loose`
abbrev pub loose_name : List ℕ
loose_name = 108 ∷ 111 ∷ 111 ∷ 115 ∷ 101 ∷ []

-- "only if the key's unescaped value is empty": of the values that a meaning has under the name
abbrev pub is_no_bytes : List (List ℕ) → Bool
is_no_bytes [] = false
is_no_bytes (v ∷ vs) = not (is_some v)

unfoldable pub is_loose : List Entry → Bool
is_loose m = is_no_bytes (lookup loose_name m)

-- the row that has the name, counted from 0; the number of rows where none has
abbrev pub has_name : Texts → List ℕ → Row → Bool
has_name t w r = same (name_bytes t r.name) w

unfoldable pub row_named : Texts → List ℕ → List Row → ℕ
row_named t w [] = 0
row_named t w (r ∷ rs) = cond (has_name t w r) 0 (suc (row_named t w rs))

abbrev pub without_loose : Texts → Rows → Rows
without_loose t s = without_row (row_named t loose_name s.keys) s

-- "answers whether it did", with the set that is left; its rows past the counts are zero, also where it stays
abbrev pub consumed_by : Bool → Texts → Rows → Consumed
consumed_by loose t s = cond loose (record { did = Ok true; set = table_of (without_loose t s) }) (record { did = Ok false; set = table_of s })

-- a refusal hands out no set: the empty one
abbrev pub not_consumed : Refusal → Consumed
not_consumed r = record { did = Err r; set = empty_set }

-- "Refusals: 1, 2 and 11, in the writer's order."
abbrev pub loose_order : Texts → Attrs → List Ground
loose_order t a = both_order t.first t.second ++ (Ground.lacking NotWellFormed (table_ok t a) ∷ [])

abbrev pub loose_by : Result (Unit {0}) Refusal → Texts → Attrs → Consumed
loose_by (Err r) t a = not_consumed r
loose_by (Ok _) t a = cond (table_ok t a) (consumed_by (is_loose (meaning_of t a)) t (rows_in a)) (not_consumed NotWellFormed)

unfoldable pub loose_of : Texts → Attrs → Consumed
loose_of t a = loose_by (both_of t.first t.second) t a

-- on paper: the number of a refusal, else whether it acted, yes and no as 1 and 0
abbrev pub acted_no : Bool → ℕ
acted_no loose = cond loose 1 0

abbrev pub did_paper : Result Bool Refusal → Paper
did_paper (Err r) = refused_paper r
did_paper (Ok true) = passed_paper (1 ∷ [])
did_paper (Ok false) = passed_paper (0 ∷ [])
