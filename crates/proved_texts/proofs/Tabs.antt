-- A tab goes to the next multiple of 4. With each tab replaced by spaces, a column is a number of characters, and indentation a number of leading spaces.
-- Assumes nothing.
use mathlib.Core.Path.{◌≡◌, refl, sym, ◌∙◌}
use mathlib.Core.Bool.{Bool, true, false, cond, not, ◌||◌}
use mathlib.Core.List.{List, [], ◌∷◌, ◌++◌}
use Prim.Native.Nat.{ℕ, zero, suc, ◌+◌, ◌-◌, ◌%◌}
use native.Mathlib.Nat.{add-zero, zero-add}
use native.Mathlib.Omega.{arith}
use borrow.Author.Tests.{eqb-true, not-true}
use lib.Dec.{eqb}
use lib.ListN.{replicate}
use Rattle.base_lists.specs.Lists.{all, run, is_in}
use Rattle.base_lists.proofs.Scan.{both}
use Rattle.base_bytes.specs.Bytes.{is_indent, is_tail, within}
use Rattle.text_utf8.specs.Utf8.{char_count}
use Rattle.text_tabs.specs.Columns.{tab_stop, column_after, columns_from, indent_from, indent_columns}
use Rattle.proved_texts.specs.Tabs.{expand_from, TabGoesToStop, NoTabLeft, SameColumn, ColumnCounts, IndentCounts, IndentIsSpaces}

-- ---- the next multiple of 4
pub next_stop : TabGoesToStop
unfolding tab_stop
next_stop c = record { behind = omega arith; multiple = omega arith; first = λ d h e. omega arith }

-- ---- spaces in a row
all-spaces : (f : ℕ → Bool) (n : ℕ) (t : List ℕ) → f 32 ≡ true → all f (replicate n 32 ++ t) ≡ all f t
unfolding all
all-spaces f zero t e = refl
all-spaces f (suc n) t e = rw (e, all-spaces f n t e)

run-spaces : (f : ℕ → Bool) (n : ℕ) (t : List ℕ) → f 32 ≡ true → run f (replicate n 32 ++ t) ≡ n + run f t
unfolding run
run-spaces f zero t e = sym (zero-add (run f t))
run-spaces f (suc n) t e = rw (e, run-spaces f n t e) (omega arith)

char_count-spaces : (n : ℕ) (t : List ℕ) → char_count (replicate n 32 ++ t) ≡ n + char_count t
unfolding char_count is_tail within
char_count-spaces zero t = sym (zero-add (char_count t))
char_count-spaces (suc n) t = rw (char_count-spaces n t) (omega arith)

-- ---- no tab is left
pub no_tab_lem : NoTabLeft
unfolding expand_from all
no_tab_lem c [] = refl
no_tab_lem c (b ∷ s) = go (eqb b 9) refl (no_tab_lem (tab_stop c) s) (no_tab_lem (column_after c b) s)
  where
    go : (x : Bool) → eqb b 9 ≡ x → all (λ b. not (eqb b 9)) (expand_from (tab_stop c) s) ≡ true → all (λ b. not (eqb b 9)) (expand_from (column_after c b) s) ≡ true
        → all (λ b. not (eqb b 9)) (cond x (replicate (4 - c % 4) 32 ++ expand_from (tab_stop c) s) (b ∷ expand_from (column_after c b) s)) ≡ true
    go true e p q = all-spaces (λ b. not (eqb b 9)) (4 - c % 4) (expand_from (tab_stop c) s) refl ∙ p
    go false e p q = rw (e, q)

-- ---- the three kinds of bytes
stop : (c : ℕ) → tab_stop c ≡ c + (4 - c % 4)
unfolding tab_stop
stop c = refl

module _ (c b : ℕ) where
  at_tab_lem : eqb b 9 ≡ true → column_after c b ≡ tab_stop c
  unfolding column_after
  at_tab_lem e = rw e

  at_tail : eqb b 9 ≡ false → is_tail b ≡ true → column_after c b ≡ c
  unfolding column_after
  at_tail e f = rw (e, f)

  at_char : eqb b 9 ≡ false → is_tail b ≡ false → column_after c b ≡ suc c
  unfolding column_after
  at_char e f = rw (e, f)

-- "leading spaces and tabs"
indents : (b : ℕ) → is_indent b ≡ (eqb b 32 || (eqb b 9 || false))
unfolding is_indent is_in
indents b = refl

space-begins : is_tail 32 ≡ false
unfolding is_tail within
space-begins = refl

-- ---- a column counts the characters before it
pub columns_count : ColumnCounts
unfolding columns_from expand_from char_count
columns_count c [] = sym (add-zero c)
columns_count c (b ∷ s) = go (eqb b 9) (is_tail b) refl refl (columns_count (column_after c b) s)
  where
    go : (x y : Bool) → eqb b 9 ≡ x → is_tail b ≡ y → columns_from (column_after c b) s ≡ column_after c b + char_count (expand_from (column_after c b) s)
        → columns_from (column_after c b) s ≡ c + char_count (cond x (replicate (4 - c % 4) 32 ++ expand_from (tab_stop c) s) (b ∷ expand_from (column_after c b) s))
    go true y e f h = rw (at_tab_lem c b e, char_count-spaces (4 - c % 4) (expand_from (tab_stop c) s)) (omega (arith, rw (at_tab_lem c b e) at h, stop c))
    go false true e f h = rw f (omega (arith, h, at_tail c b e f))
    go false false e f h = rw f (omega (arith, h, at_char c b e f))

-- without a tab that is all
columns_plain : (c : ℕ) (s : List ℕ) → all (λ b. not (eqb b 9)) s ≡ true → columns_from c s ≡ c + char_count s
unfolding columns_from char_count all
columns_plain c [] h = sym (add-zero c)
columns_plain c (b ∷ s) h =
    let g = both (not (eqb b 9)) (all (λ b. not (eqb b 9)) s) h in
    go (is_tail b) refl (not-true (eqb b 9) g.0) (columns_plain (column_after c b) s g.1)
  where
    go : (y : Bool) → is_tail b ≡ y → eqb b 9 ≡ false → columns_from (column_after c b) s ≡ column_after c b + char_count s → columns_from (column_after c b) s ≡ c + cond y (char_count s) (suc (char_count s))
    go true f e q = omega (arith, q, at_tail c b e f)
    go false f e q = omega (arith, q, at_char c b e f)

-- so the expanded text leads to the same column: it has no tab, and its characters were counted
pub columns_expand : SameColumn
columns_expand c s = columns_plain c (expand_from c s) (no_tab_lem c s) ∙ sym (columns_count c s)

-- ---- indentation counts the leading spaces
pub indent_count : IndentCounts
unfolding indent_from expand_from run
indent_count c [] = sym (add-zero c)
indent_count c (b ∷ s) = go (eqb b 9) (eqb b 32) refl refl (indent_count (column_after c b) s)
  where
    go : (x y : Bool) → eqb b 9 ≡ x → eqb b 32 ≡ y → indent_from (column_after c b) s ≡ column_after c b + run (λ b. eqb b 32) (expand_from (column_after c b) s)
        → cond (is_indent b) (indent_from (column_after c b) s) c ≡ c + run (λ b. eqb b 32) (cond x (replicate (4 - c % 4) 32 ++ expand_from (tab_stop c) s) (b ∷ expand_from (column_after c b) s))
    go true y e f h =
        let i : is_indent b ≡ true = rw (eqb-true b 9 e) (indents 9) in
        rw (i, at_tab_lem c b e, run-spaces (λ b. eqb b 32) (4 - c % 4) (expand_from (tab_stop c) s) refl) (omega (arith, rw (at_tab_lem c b e) at h, stop c))
    go false true e f h =
        let i : is_indent b ≡ true = indents b ∙ rw f in
        rw (i, f) (omega (arith, h, at_char c b e (rw (eqb-true b 32 f) space-begins)))
    go false false e f h =
        let i : is_indent b ≡ false = indents b ∙ rw (f, e) in
        rw (i, f) (sym (add-zero c))

pub indent_spaces : IndentIsSpaces
unfolding indent_columns
indent_spaces s = sym (indent_count 0 s ∙ zero-add (run (λ b. eqb b 32) (expand_from 0 s)))
