-- What a table of settings holds: each cell the valve of the last setting for it, and a setting for one variant changes no other row.
-- Assumes nothing.
use Rattle.std.specs.Prelude.{None, Some}
use mathlib.Core.Path.{◌≡◌, refl, sym, ◌∙◌, ap}
use mathlib.Core.Bool.{Bool, true, false, cond}
use mathlib.Core.List.{List, [], ◌∷◌, ◌++◌, foldl, foldl-append}
use Prim.Native.Nat.{ℕ, ◌<◌}
use native.Mathlib.Omega.{arith}
use borrow.Author.Tests.{eqb-true, eq-eqb, ne_eqb}
use lib.Dec.{eqb}
use lib.ListN.{length, get_or, set, length-set, length-replicate, get_or-replicate}
use lib.Seq.{get_or-set_same, get_or-set_other}
use Rattle.base_lists.proofs.More.{contra}
use Rattle.base_lists.proofs.Scan.{both}
use Rattle.sheet_valves.specs.Tables.{cell_count, unfilled, empty_table, IsPlace, is_place, cell_place, valve_at, with_setting, filled_with}
use Rattle.sheet_valves.specs.declared.Cell.{Cell}
use Rattle.sheet_valves.specs.declared.Table.{Table}
use Rattle.sheet_valves.specs.declared.Setting.{Setting}
use Rattle.sheet_valves.proofs.Cells.{place_yes, yes_place}
use Rattle.proved_valves.specs.Cells.{is_for, any_for, LastFor, LastCounts, UnfilledElse, AllCells, RowStays, RowWithout}

-- a table keeps its size
step_long : (t : Table) (s : Setting) → length (with_setting t s).cells ≡ length t.cells
unfolding with_setting
step_long t s = go (is_place s.variant s.wheel)
  where
    go : (b : Bool) → length (cond b (record { cells = set t.cells (cell_place s.variant s.wheel) (record { valve = Some s.valve }) }) t).cells ≡ length t.cells
    go true = length-set t.cells (cell_place s.variant s.wheel) _
    go false = refl

pub fold_long : (t : Table) (ss : List Setting) → length (foldl with_setting t ss).cells ≡ length t.cells
fold_long t [] = refl
fold_long t (s ∷ ss) = fold_long (with_setting t s) ss ∙ step_long t s

pub table_long : (ss : List Setting) → length (filled_with ss).cells ≡ cell_count
unfolding filled_with
table_long ss = fold_long empty_table ss ∙ length-replicate cell_count unfilled

pub for_both : (v w : ℕ) (s : Setting) → is_for v w s ≡ true → (s.variant ≡ v) × (s.wheel ≡ w)
unfolding is_for
for_both v w s e = let z = both (eqb s.variant v) (eqb s.wheel w) e in (eqb-true s.variant v z.0, eqb-true s.wheel w z.1)

not_for : (v w : ℕ) (s : Setting) → is_for v w s ≡ false → s.variant ≡ v → s.wheel ≡ w → ⊥
unfolding is_for
not_for v w s e p q = contra (is_for v w s) (rw (eq-eqb s.variant v p, eq-eqb s.wheel w q)) e

for_it : (v w x : ℕ) → is_for v w (record { variant = v; wheel = w; valve = x }) ≡ true
unfolding is_for
for_it v w x = rw (eq-eqb v v refl, eq-eqb w w refl)

module _ {v w : ℕ} (p : IsPlace v w) where
  inside : cell_place v w < cell_count
  inside = omega arith

  -- the cell of the setting
  step_same : (t : Table) (s : Setting) → length t.cells ≡ cell_count → is_for v w s ≡ true → valve_at (with_setting t s) v w ≡ Some s.valve
  unfolding valve_at with_setting
  step_same t s l e =
      let z = for_both v w s e in
      rw (z.0, z.1, place_yes p)
      (ap (λ (c : Cell). c.valve) (get_or-set_same t.cells (cell_place v w) (record { valve = Some s.valve }) unfilled (omega (arith, inside))))

  -- any other cell
  step_other : (t : Table) (s : Setting) → is_for v w s ≡ false → valve_at (with_setting t s) v w ≡ valve_at t v w
  unfolding valve_at with_setting
  step_other t s e = go (is_place s.variant s.wheel) refl
    where
      go : (b : Bool) → is_place s.variant s.wheel ≡ b
          → (get_or (cond b (record { cells = set t.cells (cell_place s.variant s.wheel) (record { valve = Some s.valve }) }) t).cells (cell_place v w) unfilled).valve
          ≡ (get_or t.cells (cell_place v w) unfilled).valve
      go true q =
          let z = yes_place s.variant s.wheel q in
          ap (λ (c : Cell). c.valve)
          (get_or-set_other t.cells (cell_place s.variant s.wheel) (cell_place v w) _ unfilled
          (λ h. not_for v w s e (omega arith) (omega arith)))
      go false q = refl

  -- ---- a list of settings

  fold_none : (t : Table) (ss : List Setting) → any_for v w ss ≡ false → valve_at (foldl with_setting t ss) v w ≡ valve_at t v w
  unfolding any_for
  fold_none t [] e = refl
  fold_none t (s ∷ ss) e = go (is_for v w s) refl e (fold_none (with_setting t s) ss)
    where
      go : (b : Bool) → is_for v w s ≡ b → cond b true (any_for v w ss) ≡ false
          → (any_for v w ss ≡ false → valve_at (foldl with_setting (with_setting t s) ss) v w ≡ valve_at (with_setting t s) v w)
          → valve_at (foldl with_setting (with_setting t s) ss) v w ≡ valve_at t v w
      go true q f ih = contra true refl f
      go false q f ih = ih f ∙ step_other t s q

  -- two tables that agree at the cell still do behind the same settings
  pub fold_same : (t u : Table) → length t.cells ≡ cell_count → length u.cells ≡ cell_count → valve_at t v w ≡ valve_at u v w
      → (ss : List Setting) → valve_at (foldl with_setting t ss) v w ≡ valve_at (foldl with_setting u ss) v w
  fold_same t u l m e [] = e
  fold_same t u l m e (s ∷ ss) = fold_same (with_setting t s) (with_setting u s) (step_long t s ∙ l) (step_long u s ∙ m) (go (is_for v w s) refl) ss
    where
      go : (b : Bool) → is_for v w s ≡ b → valve_at (with_setting t s) v w ≡ valve_at (with_setting u s) v w
      go true q = step_same t s l q ∙ sym (step_same u s m q)
      go false q = step_other t s q ∙ (e ∙ sym (step_other u s q))

  -- ---- "Later blocks override earlier ones of the same variant and wheel."

  -- the cell has the valve of the last setting for it
  pub cell_last : {x : ℕ} {ss : List Setting} → LastFor v w x ss → valve_at (filled_with ss) v w ≡ Some x
  unfolding filled_with
  cell_last {x} l =
      let s : Setting = record { variant = v; wheel = w; valve = x } in
      let t : Table = foldl with_setting empty_table l.before in
      rw (l.split, foldl-append)
      (fold_none (with_setting t s) l.behind l.none ∙ step_same t s (fold_long empty_table l.before ∙ length-replicate cell_count unfilled) (for_it v w x))

  -- and is unfilled where there is none
  pub cell_none : (ss : List Setting) → any_for v w ss ≡ false → valve_at (filled_with ss) v w ≡ None
  unfolding filled_with valve_at
  cell_none ss e = fold_none empty_table ss e ∙ ap (λ (c : Cell). c.valve) (get_or-replicate cell_count (cell_place v w) unfilled unfilled inside)

  last_split : (ss : List Setting) → any_for v w ss ≡ true → (x : ℕ) × LastFor v w x ss
  unfolding any_for
  last_split [] e = contra false e refl
  last_split (s ∷ ss) e = go (any_for v w ss) refl (last_split ss)
    where
      go : (b : Bool) → any_for v w ss ≡ b → (any_for v w ss ≡ true → (x : ℕ) × LastFor v w x ss) → (x : ℕ) × LastFor v w x (s ∷ ss)
      go true q ih =
          let z = ih q in
          (z.0, record { before = s ∷ z.1.before; behind = z.1.behind; split = ap (λ (l : List Setting). s ∷ l) z.1.split; none = z.1.none })
      go false q ih = (s.valve, record { before = []; behind = ss; split = ap (λ (x : Setting). x ∷ ss) (it (for_both v w s (is (is_for v w s) refl e))); none = q })
        where
          it : (s.variant ≡ v) × (s.wheel ≡ w) → s ≡ record { variant = v; wheel = w; valve = s.valve }
          it (a, b) = rw (← a, ← b)

          is : (b : Bool) → is_for v w s ≡ b → cond b true (any_for v w ss) ≡ true → is_for v w s ≡ true
          is true r f = r
          is false r f = contra _ f q

  -- so what the cell has says which setting was the last for it
  pub last_cell : {x : ℕ} (ss : List Setting) → valve_at (filled_with ss) v w ≡ Some x → LastFor v w x ss
  last_cell {x} ss e = go (any_for v w ss) refl
    where
      go : (b : Bool) → any_for v w ss ≡ b → LastFor v w x ss
      go true q =
          let z = last_split ss q in
          let f : Some z.0 ≡ Some x = sym (cell_last z.1) ∙ e in
          let g : z.0 ≡ x = cc in
          rw g at z.1
      go false q = let f : None ≡ Some x = sym (cell_none ss q) ∙ e in let g : ◌≡◌ {A = ℕ} 0 1 = cc in absurd (omega arith)

  pub none_cell : (ss : List Setting) → valve_at (filled_with ss) v w ≡ None → any_for v w ss ≡ false
  none_cell ss e = go (any_for v w ss) refl
    where
      go : (b : Bool) → any_for v w ss ≡ b → any_for v w ss ≡ false
      go true q = let z = last_split ss q in let f : Some z.0 ≡ None = sym (cell_last z.1) ∙ e in let g : ◌≡◌ {A = ℕ} 0 1 = cc in absurd (omega arith)
      go false q = q

  -- ---- "a block for one variant changes no other row"

  module _ (s : Setting) (other : s.variant ≡ v → ⊥) where
    not_it : is_for v w s ≡ false
    unfolding is_for
    not_it = rw (ne_eqb s.variant v other)

    -- of one step
    pub step_stays : (t : Table) → valve_at (with_setting t s) v w ≡ valve_at t v w
    step_stays t = step_other t s not_it

    -- of a whole list of settings with one more, wherever it stands
    pub list_without : (a b : List Setting) → valve_at (filled_with (a ++ (s ∷ b))) v w ≡ valve_at (filled_with (a ++ b)) v w
    unfolding filled_with
    list_without a b =
        let t : Table = foldl with_setting empty_table a in
        let l : length t.cells ≡ cell_count = fold_long empty_table a ∙ length-replicate cell_count unfilled in
        rw (foldl-append, foldl-append) (fold_same (with_setting t s) t (step_long t s ∙ l) l (step_stays t) b)

-- ======== the theorems

pub last_counts : LastCounts
last_counts v w p x ss = (cell_last p, last_cell p ss)

pub unfilled_else : UnfilledElse
unfilled_else v w p ss = (cell_none p ss, none_cell p ss)

pub all_cells : AllCells
all_cells = table_long

pub row_stays : RowStays
row_stays v w p = step_stays p

pub row_without : RowWithout
row_without v w p = list_without p
