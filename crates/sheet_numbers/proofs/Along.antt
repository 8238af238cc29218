-- The text of a report along the row of its names: behind each tab the next number and an LF.
-- Assumes nothing.
use mathlib.Core.Path.{◌≡◌, refl, sym, ◌∙◌, ap}
use mathlib.Core.Bool.{Bool, true, false, cond, not}
use mathlib.Core.List.{List, [], ◌∷◌, ◌++◌, flat_map, append_assoc}
use Prim.Native.Nat.{ℕ, zero, suc, ◌+◌, ◌≤◌, ◌<◌}
use native.Mathlib.Omega.{arith}
use borrow.Author.Tests.{eq-eqb, ne_eqb}
use lib.Dec.{eqb}
use lib.ListN.{length, get_or, drop, drop_of_length-le}
use lib.Seq.{drop-cons}
use Rattle.base_lists.specs.Lists.{all}
use Rattle.base_lists.proofs.Scan.{both}
use Rattle.base_bytes.specs.Bytes.{tab, lf}
use Rattle.text_digits.specs.Decimal.{decimal}
use Rattle.sheet_totals.specs.Totals.{total_places}
use Rattle.sheet_numbers.specs.Text.{totals_names, number_line, number_lines, totals_text}
use Rattle.sheet_numbers.specs.Computed.{names_row}
use Rattle.sheet_numbers.specs.Inner.{number_end}

abbrev pub at_tab : List ℕ → (List ℕ → List ℕ) → List ℕ
at_tab [] rest = []
at_tab (n ∷ ns) rest = number_end n ++ rest ns

unfoldable pub filled : List ℕ → List ℕ → List ℕ
filled [] ns = []
filled (c ∷ w) ns = cond (eqb c tab) (at_tab ns (λ r. filled w r)) (c ∷ filled w ns)

unfoldable pub tabs_in : List ℕ → ℕ
tabs_in [] = 0
tabs_in (c ∷ w) = cond (eqb c tab) (suc (tabs_in w)) (tabs_in w)

-- ---- it is the text of a report

no_tab : ℕ → Bool
no_tab c = not (eqb c tab)

no_tab_lem : (c : ℕ) → no_tab c ≡ true → eqb c tab ≡ false
unfolding no_tab
no_tab_lem c = go (eqb c tab)
  where
    go : (x : Bool) → not x ≡ true → x ≡ false
    go true e = sym e
    go false e = refl

name_filled : (w r : List ℕ) (n : ℕ) (ns : List ℕ) → all no_tab w ≡ true → filled (w ++ (tab ∷ r)) (n ∷ ns) ≡ w ++ (number_end n ++ filled r ns)
unfolding filled all
name_filled [] r n ns h = refl
name_filled (c ∷ w) r n ns h =
    let z = both (no_tab c) (all no_tab w) h in
    rw (no_tab_lem c z.0) (ap (λ (l : List ℕ). c ∷ l) (name_filled w r n ns z.1))

line_append : (w : List ℕ) (n : ℕ) (s : List ℕ) → number_line w n ++ s ≡ w ++ (number_end n ++ s)
unfolding number_line
line_append w n s = append_assoc w (number_end n) s

none_filled : (ns : List ℕ) → filled [] ns ≡ []
unfolding filled
none_filled ns = refl

names_filled : (ws : List (List ℕ)) (ns : List ℕ) → all (all no_tab) ws ≡ true → length ws ≡ length ns → filled (flat_map (λ w. w ++ (tab ∷ [])) ws) ns ≡ number_lines ws ns
unfolding all number_lines mathlib.Core.List.flat_map
names_filled [] ns h l = none_filled ns
names_filled (w ∷ ws) [] h l = absurd (omega arith)
names_filled (w ∷ ws) (n ∷ ns) h l =
    let z = both (all no_tab w) (all (all no_tab) ws) h in
    let r : List ℕ = flat_map (λ w. w ++ (tab ∷ [])) ws in
    ap (λ (l : List ℕ). filled l (n ∷ ns)) (append_assoc w (tab ∷ []) r)
    ∙ (name_filled w r n ns z.0
    ∙ (ap (λ (l : List ℕ). w ++ (number_end n ++ l)) (names_filled ws ns z.1 (omega arith)) ∙ sym (line_append w n (number_lines ws ns))))

pub row_filled : (ns : List ℕ) → length ns ≡ total_places → filled names_row ns ≡ totals_text ns
unfolding names_row totals_text no_tab all
row_filled ns h = names_filled totals_names ns refl (sym h)

pub row_long : length names_row ≡ 111
unfolding names_row mathlib.Core.List.flat_map
row_long = refl

pub row_tabs : tabs_in names_row ≡ total_places
unfolding names_row tabs_in mathlib.Core.List.flat_map
row_tabs = refl

-- ---- one byte of the row more

module _ (row : List ℕ) {j : ℕ} (h : j < length row) where
  pub tab_left : get_or row j 0 ≡ tab → tabs_in (drop j row) ≡ suc (tabs_in (drop (suc j) row))
  unfolding tabs_in
  tab_left e = rw (drop-cons row j 0 h, eq-eqb (get_or row j 0) tab e)

  pub name_left : (get_or row j 0 ≡ tab → ⊥) → tabs_in (drop j row) ≡ tabs_in (drop (suc j) row)
  unfolding tabs_in
  name_left n = rw (drop-cons row j 0 h, ne_eqb (get_or row j 0) tab n)

  pub tab_filled : (ns : List ℕ) (i : ℕ) → get_or row j 0 ≡ tab → i < length ns
      → filled (drop j row) (drop i ns) ≡ number_end (get_or ns i 0) ++ filled (drop (suc j) row) (drop (suc i) ns)
  unfolding filled
  tab_filled ns i e l = rw (drop-cons row j 0 h, eq-eqb (get_or row j 0) tab e, drop-cons ns i 0 l)

  pub byte_filled : (ns : List ℕ) → (get_or row j 0 ≡ tab → ⊥) → filled (drop j row) ns ≡ get_or row j 0 ∷ filled (drop (suc j) row) ns
  unfolding filled
  byte_filled ns n = rw (drop-cons row j 0 h, ne_eqb (get_or row j 0) tab n)

pub filled_end : (row ns : List ℕ) {j : ℕ} → length row ≤ j → filled (drop j row) ns ≡ []
unfolding filled
filled_end row ns {j} h = rw (drop_of_length-le row {i = j} h)

pub tabs_end : (row : List ℕ) {j : ℕ} → length row ≤ j → tabs_in (drop j row) ≡ 0
unfolding tabs_in
tabs_end row {j} h = rw (drop_of_length-le row {i = j} h)
