-- `variants_of` on paper: 1, 2, 9, then of one block after the other 6, 7 and 20, last 21; else the cells of the table.
-- Assumes nothing.
use Rattle.std.specs.Prelude.{Err, Ok, Result, None, Option, Some}
use mathlib.Core.Path.{◌≡◌, refl, sym, ◌∙◌, ap}
use mathlib.Core.Bool.{Bool, true, false, cond}
use mathlib.Core.List.{List, [], ◌∷◌, ◌++◌, foldl, flat_map}
use Prim.Native.Nat.{ℕ, zero, suc}
use lib.Dec.{eqb, eqb-suc-zero, ltb}
use lib.ListN.{length}
use Rattle.base_refusals.specs.Numbers.{max_text}
use Rattle.base_refusals.specs.Orders.{Ground, in_order, on_paper, met}
use Rattle.base_refusals.specs.declared.Refusal.{Refusal}
use Rattle.base_refusals.specs.declared.Refusal.TheVariants.{JoinFull, BadSetting, SharedValve}
use Rattle.base_refusals.proofs.Orders.{paper_by}
use Rattle.text_checks.specs.Check.{text_order, check_of}
use Rattle.set_table.specs.Types.{Texts}
use Rattle.set_table.specs.Rows.{meaning_of}
use Rattle.set_table.specs.declared.Attrs.{Attrs}
use Rattle.read_blocks.specs.Blocks.{texts_in, filled_found}
use Rattle.sheet_blocks.specs.Sheets.{Try, blocks_of, join_behind}
use Rattle.sheet_valves.specs.Tables.{empty_table, with_setting, filled_with}
use Rattle.sheet_valves.specs.Pairs.{first_pair}
use Rattle.sheet_valves.specs.Settings.{setting_of}
use Rattle.sheet_valves.specs.declared.Table.{Table}
use Rattle.sheet_valves.proofs.Settings.{only_bad}
use Rattle.sheet_variants.specs.Variants.{heard_by, heard, no_table, whole_by, whole_table, heard_then, variants_from, is_stop, variants_in, variants_by, variants_of, past_in, past_by, variants_past, setting_in, settings_of, sheet_table, cell_nos, variants_paper, setting_order, pair_order, variants_order}
use Rattle.sheet_variants.specs.declared.Variants as answer
use Rattle.sheet_valves.specs.declared.Setting.{Setting}

-- the end of a sheet
whole_paper : (u : Table) → variants_paper (whole_table u) ≡ on_paper (pair_order u) (cell_nos u)
unfolding whole_table on_paper in_order
whole_paper u = go (first_pair u)
  where
    go : (v : ℕ) → variants_paper (whole_by u v) ≡ on_paper (Ground.lacking SharedValve (eqb v 0) ∷ []) (cell_nos u)
    go zero = refl
    go (suc v) = rw (eqb-suc-zero v)

-- the blocks to come, where so much of the table is filled
abbrev OnPaper : List ℕ → List Try → Table → Type 0
OnPaper t xs u = variants_paper (variants_from t u xs) ≡ on_paper (flat_map (setting_order t) xs ++ pair_order (foldl with_setting u (settings_of t xs))) (cell_nos (foldl with_setting u (settings_of t xs)))

-- a block before them, by its outcome and by what its set says
module _ (t : List ℕ) (u : Table) (x : Try) (xs : List Try) (ih : (y : Table) → OnPaper t xs y) (T : Texts) (a : Attrs) where
  abbrev end : Result (Option Setting) Refusal → Table
  end h = foldl with_setting u (setting_in h ++ settings_of t xs)

  by_setting : (h : Result (Option Setting) Refusal) → setting_of (meaning_of T a) ≡ h
      → variants_paper (heard_then x h u (λ y. variants_from t y xs)) ≡ on_paper (Ground.given BadSetting (is_stop h) ∷ (flat_map (setting_order t) xs ++ pair_order (end h))) (cell_nos (end h))
  unfolding on_paper in_order
  by_setting (Err r) e = rw (only_bad (meaning_of T a) e)
  by_setting (Ok None) e = ih u
  by_setting (Ok (Some s)) e = ih (with_setting u s)

  by_outcome : (o : Result (Unit {0}) Refusal) → variants_paper (heard_then x (heard_by T a o) u (λ y. variants_from t y xs))
      ≡ on_paper (((met o ++ (Ground.given BadSetting (is_stop (setting_of (meaning_of T a))) ∷ [])) ++ flat_map (setting_order t) xs) ++ pair_order (end (heard_by T a o))) (cell_nos (end (heard_by T a o)))
  unfolding on_paper in_order
  by_outcome (Err r) = refl
  by_outcome (Ok _) = by_setting (setting_of (meaning_of T a)) refl

from_paper : (t : List ℕ) (xs : List Try) (u : Table) → OnPaper t xs u
unfolding variants_from settings_of flat_map setting_order heard
from_paper t [] u = whole_paper u
from_paper t (x ∷ xs) u = by_outcome t u x xs (from_paper t xs) (texts_in t x.found) (filled_found t x.at x.found).set (filled_found t x.at x.found).outcome

-- ---- the whole

in_paper : (t : List ℕ) (cap : ℕ)
    → variants_paper (variants_in t cap) ≡ on_paper (Ground.given JoinFull (ltb cap max_text) ∷ (flat_map (setting_order t) (blocks_of t) ++ pair_order (sheet_table t))) (cell_nos (sheet_table t))
unfolding variants_in on_paper in_order sheet_table filled_with
in_paper t cap = go (ltb cap max_text)
  where
    go : (b : Bool) → variants_paper (cond b (no_table JoinFull 0 0 0) (variants_from t empty_table (blocks_of t)))
        ≡ on_paper (Ground.given JoinFull b ∷ (flat_map (setting_order t) (blocks_of t) ++ pair_order (sheet_table t))) (cell_nos (sheet_table t))
    go true = refl
    go false = from_paper t (blocks_of t) empty_table

variants_paper_lem : (t : List ℕ) (cap : ℕ) → variants_paper (variants_of t cap) ≡ on_paper (variants_order t cap) (cell_nos (sheet_table t))
unfolding variants_of variants_order check_of
variants_paper_lem t cap =
    paper_by (λ o. variants_paper (variants_by t cap o)) Err (cell_nos (sheet_table t)) (λ r. refl) (text_order t)
    (Ground.given JoinFull (ltb cap max_text) ∷ (flat_map (setting_order t) (blocks_of t) ++ pair_order (sheet_table t))) (in_paper t cap)

-- ---- what is answered, beside what the join buffer then holds, is on paper as what it is equal to

abbrev Answers : List ℕ → List ℕ → answer.Variants → List ℕ → Type 0
Answers t join₀ r join =
    (r ≡ variants_of t (length join₀)) × ((join ≡ join_behind join₀ (variants_past t (length join₀)))
    × (variants_paper r ≡ on_paper (variants_order t (length join₀)) (cell_nos (sheet_table t))))

module _ (t join₀ : List ℕ) {r : answer.Variants} where
  told : {join : List ℕ} → r ≡ variants_of t (length join₀) → join ≡ join_behind join₀ (variants_past t (length join₀)) → Answers t join₀ r join
  told h j = (h, (j, ap variants_paper h ∙ variants_paper_lem t (length join₀)))

  module _ {c : Result (Unit {0}) Refusal} (e : c ≡ check_of t) where
    pub told_refused : {why : Refusal} → c ≡ Err why → r ≡ no_table why 0 0 0 → Answers t join₀ r join₀
    unfolding variants_of variants_past join_behind
    told_refused q h = told (h ∙ ap (variants_by t (length join₀)) (sym q ∙ e)) (ap (λ o. join_behind join₀ (past_by t (length join₀) o)) (sym q ∙ e))

    pub told_passed : {join : List ℕ} → c ≡ Ok tt → (r ≡ variants_in t (length join₀)) × (join ≡ join_behind join₀ (past_in t (length join₀))) → Answers t join₀ r join
    unfolding variants_of variants_past
    told_passed q h = told (h.0 ∙ ap (variants_by t (length join₀)) (sym q ∙ e)) (h.1 ∙ ap (λ o. join_behind join₀ (past_by t (length join₀) o)) (sym q ∙ e))
