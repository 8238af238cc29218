-- "It reads all blocks of a sheet, as the sheet program finds them, and fills a table"
use Rattle.std.specs.Prelude.{ℕ, zero, suc, Bool, true, false, cond, ◌&&◌, eqb, ltb, Err, Ok, Result, None, Option, Some}
use mathlib.Core.List.{List, [], ◌∷◌, ◌++◌, map, flat_map}
use Rattle.base_refusals.specs.Numbers.{max_text, Paper, refused_paper, passed_paper}
use Rattle.base_refusals.specs.Orders.{Ground, met}
use Rattle.base_refusals.specs.declared.Refusal.{Refusal}
use Rattle.base_refusals.specs.declared.Refusal.TheVariants.{JoinFull, BadSetting, SharedValve}
use Rattle.text_checks.specs.Check.{text_order, check_of}
use Rattle.set_table.specs.Types.{Texts}
use Rattle.set_table.specs.Rows.{meaning_of}
use Rattle.set_table.specs.declared.Attrs.{Attrs}
use Rattle.read_blocks.specs.Blocks.{lines_of, texts_in, filled_found}
use Rattle.sheet_blocks.specs.Sheets.{Try, is_block, blocks_of, tries_at}
use Rattle.sheet_valves.specs.Tables.{empty_table, with_setting, filled_with, cell_no}
use Rattle.sheet_valves.specs.Pairs.{first_pair}
use Rattle.sheet_valves.specs.Settings.{setting_of}
use Rattle.sheet_valves.specs.declared.Table.{Table}
use Rattle.sheet_valves.specs.declared.Setting.{Setting}
use Rattle.sheet_variants.specs.declared.Variants as answer

-- ---- what one block says

-- "by 6, 7 or 20": 20 only of a block that is read; its set is over the texts t
abbrev pub heard_by : Texts → Attrs → Result (Unit {0}) Refusal → Result (Option Setting) Refusal
heard_by t a (Err r) = Err r
heard_by t a (Ok _) = setting_of (meaning_of t a)

unfoldable pub heard : List ℕ → Try → Result (Option Setting) Refusal
heard t x = heard_by (texts_in t x.found) (filled_found t x.at x.found).set (filled_found t x.at x.found).outcome

-- ---- the sheet

-- "A refusal hands out no table.": n and k are the first line and the line count of the block that is refused, v the variant of a 21
abbrev pub no_table : Refusal → ℕ → ℕ → ℕ → answer.Variants
no_table r n k v = record { outcome = Err r; line = n; lines = k; variant = v; table = empty_table }

abbrev pub whole_by : Table → ℕ → answer.Variants
whole_by t zero = record { outcome = Ok tt; line = 0; lines = 0; variant = 0; table = t }
whole_by t (suc v) = no_table SharedValve 0 0 (suc v)

-- "last 21, a valve at two wheels"
unfoldable pub whole_table : Table → answer.Variants
whole_table t = whole_by t (first_pair t)

-- "then the first block refused"; "Blocks without any of the three keys are passed over."; `rest` is what comes behind this block
abbrev pub heard_then : Try → Result (Option Setting) Refusal → Table → (Table → answer.Variants) → answer.Variants
heard_then x (Err r) u rest = no_table r x.line (lines_of x.found) 0
heard_then x (Ok None) u rest = rest u
heard_then x (Ok (Some s)) u rest = rest (with_setting u s)

-- the blocks to come, where so much of the table is filled
unfoldable pub variants_from : List ℕ → Table → List Try → answer.Variants
variants_from t u [] = whole_table u
variants_from t u (x ∷ xs) = heard_then x (heard t x) u (λ y. variants_from t y xs)

-- ---- the tries gone past: up to and including the block that is refused

abbrev pub is_stop : Result (Option Setting) Refusal → Bool
is_stop (Err r) = true
is_stop (Ok None) = false
is_stop (Ok (Some s)) = false

unfoldable pub past_of : List ℕ → List Try → List Try
past_of t [] = []
past_of t (x ∷ xs) = x ∷ cond (is_block x.found && is_stop (heard t x)) [] (past_of t xs)

-- ---- the whole: "Refusals: 1 and 2 first"; "answer 9, right after 2, for a shorter one"; none of these has read anything

unfoldable pub variants_in : List ℕ → ℕ → answer.Variants
variants_in t cap = cond (ltb cap max_text) (no_table JoinFull 0 0 0) (variants_from t empty_table (blocks_of t))

abbrev pub variants_by : List ℕ → ℕ → Result (Unit {0}) Refusal → answer.Variants
variants_by t cap (Err r) = no_table r 0 0 0
variants_by t cap (Ok _) = variants_in t cap

unfoldable pub variants_of : List ℕ → ℕ → answer.Variants
variants_of t cap = variants_by t cap (check_of t)

unfoldable pub past_in : List ℕ → ℕ → List Try
past_in t cap = cond (ltb cap max_text) [] (past_of t (tries_at t max_text 1 0))

abbrev pub past_by : List ℕ → ℕ → Result (Unit {0}) Refusal → List Try
past_by t cap (Err r) = []
past_by t cap (Ok _) = past_in t cap

unfoldable pub variants_past : List ℕ → ℕ → List Try
variants_past t cap = past_by t cap (check_of t)

-- ---- the settings of blocks, and the table that they fill

abbrev pub setting_in : Result (Option Setting) Refusal → List Setting
setting_in (Err r) = []
setting_in (Ok None) = []
setting_in (Ok (Some s)) = s ∷ []

unfoldable pub settings_of : List ℕ → List Try → List Setting
settings_of t xs = flat_map (λ x. setting_in (heard t x)) xs

-- "the final table"
unfoldable pub sheet_table : List ℕ → Table
sheet_table t = filled_with (settings_of t (blocks_of t))

-- ---- on paper: the number of a refusal, else the cells one after the other

abbrev pub cell_nos : Table → List ℕ
cell_nos t = map cell_no t.cells

abbrev pub paper_by : Table → Result (Unit {0}) Refusal → Paper
paper_by t (Err r) = refused_paper r
paper_by t (Ok _) = passed_paper (cell_nos t)

abbrev pub variants_paper : answer.Variants → Paper
variants_paper r = paper_by r.table r.outcome

-- ---- the order: 1, 2, 9, then of one block after the other "6, 7 or 20", last 21

unfoldable pub setting_order : List ℕ → Try → List Ground
setting_order t x =
    met (filled_found t x.at x.found).outcome
    ++ (Ground.given BadSetting (is_stop (setting_of (meaning_of (texts_in t x.found) (filled_found t x.at x.found).set))) ∷ [])

abbrev pub pair_order : Table → List Ground
pair_order t = Ground.lacking SharedValve (eqb (first_pair t) 0) ∷ []

unfoldable pub variants_order : List ℕ → ℕ → List Ground
variants_order t cap = text_order t ++ (Ground.given JoinFull (ltb cap max_text) ∷ (flat_map (setting_order t) (blocks_of t) ++ pair_order (sheet_table t)))
