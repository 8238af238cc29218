-- Columns: bounds, texts in parts, what the greatest number leaves of them, and the walks over a text.
-- Assumes nothing.
use mathlib.Core.Path.{◌≡◌, refl, sym, ◌∙◌, ap}
use mathlib.Core.Bool.{Bool, true, false, cond}
use mathlib.Core.List.{List, [], ◌∷◌}
use Prim.Native.Nat.{ℕ, suc, ◌+◌, ◌-◌, ◌*◌, ◌%◌, ◌<◌, ◌≤◌}
use native.Mathlib.Omega.{arith}
use native.Mathlib.Numerals.{add-one}
use borrow.Author.Tests.{le-leb, leb-true, leb-false}
use lib.Dec.{eqb, leb}
use lib.ListN.{length, get_or, take, drop, length-take, drop_of_length-le}
use lib.Seq.{drop-cons}
use Rattle.std.specs.List.{fold}
use Rattle.base_lists.specs.Lists.{run}
use Rattle.base_bytes.specs.Bytes.{is_indent, is_tail}
use Rattle.text_tabs.specs.Columns.{tab_stop, column_after, columns_from, indent_from, indent_columns, most, capped}

-- ---- a byte goes on by at most four columns, and never back
pub after_ge : (c b : ℕ) → c ≤ column_after c b
unfolding column_after tab_stop
after_ge c b = go (eqb b 9) (is_tail b)
  where
    go : (x y : Bool) → c ≤ cond x (c + (4 - c % 4)) (cond y c (suc c))
    go true y = omega arith
    go false true = omega arith
    go false false = omega arith

pub after_le : (c b : ℕ) → column_after c b ≤ c + 4
unfolding column_after tab_stop
after_le c b = go (eqb b 9) (is_tail b)
  where
    go : (x y : Bool) → cond x (c + (4 - c % 4)) (cond y c (suc c)) ≤ c + 4
    go true y = omega arith
    go false true = omega arith
    go false false = omega arith

-- ---- a text
pub columns_le : (c : ℕ) (s : List ℕ) → columns_from c s ≤ c + 4 * length s
unfolding columns_from
columns_le c [] = omega arith
columns_le c (b ∷ s) = omega (arith, after_le c b, columns_le (column_after c b) s)

-- indentation is the columns of the spaces and tabs in front
pub indent_front : (c : ℕ) (s : List ℕ) → indent_from c s ≡ columns_from c (take (run is_indent s) s)
unfolding indent_from columns_from run
indent_front c [] = refl
indent_front c (b ∷ s) = go (is_indent b) refl (indent_front (column_after c b) s)
  where
    go : (x : Bool) → is_indent b ≡ x → indent_from (column_after c b) s ≡ columns_from (column_after c b) (take (run is_indent s) s)
        → cond x (indent_from (column_after c b) s) c ≡ columns_from c (take (cond x (suc (run is_indent s)) 0) (b ∷ s))
    go true e h = h
    go false e h = refl

pub indent_le : (s : List ℕ) → indent_columns s ≤ 4 * length s
unfolding indent_columns
indent_le s = rw (indent_front 0 s) (omega (arith, columns_le 0 (take (run is_indent s) s), length-take (run is_indent s) s))

-- ---- the greatest number
pub capped_id : (n : ℕ) → n ≤ most → capped n ≡ n
unfolding capped
capped_id n h = rw (le-leb n most h)

pub capped_is : {r : ℕ} (n : ℕ) → r ≡ n → n ≤ most → r ≡ capped n
capped_is n e h = e ∙ sym (capped_id n h)

pub capped_top : (n : ℕ) → most ≤ n → capped n ≡ most
unfolding capped
capped_top n h = go (leb n most) refl
  where
    go : (x : Bool) → leb n most ≡ x → cond x n most ≡ most
    go true e = omega (arith, leb-true n most e)
    go false e = refl

pub capped_le : (n : ℕ) → capped n ≤ most
unfolding capped
capped_le n = go (leb n most) refl
  where
    go : (x : Bool) → leb n most ≡ x → cond x n most ≤ most
    go true e = leb-true n most e
    go false e = omega arith

-- a column that was cut to the greatest number leads to no other cut column
pub capped-after : (c b : ℕ) → capped (column_after (capped c) b) ≡ capped (column_after c b)
capped-after c b = go (leb c most) refl
  where
    go : (x : Bool) → leb c most ≡ x → capped (column_after (capped c) b) ≡ capped (column_after c b)
    go true e = rw (capped_id c (leb-true c most e))
    go false e =
        let h = leb-false c most e in
        let t : capped c ≡ most = capped_top c (omega arith) in
        rw t (capped_top (column_after most b) (after_ge most b) ∙ sym (capped_top (column_after c b) (omega (arith, after_ge c b))))

pub capped_columns : (c : ℕ) (s : List ℕ) → capped (columns_from (capped c) s) ≡ capped (columns_from c s)
unfolding columns_from
capped_columns c [] = capped_id (capped c) (capped_le c)
capped_columns c (b ∷ s) = sym (capped_columns (column_after (capped c) b) s) ∙ ap (λ n. capped (columns_from n s)) (capped-after c b) ∙ capped_columns (column_after c b) s

pub capped_indent : (c : ℕ) (s : List ℕ) → capped (indent_from (capped c) s) ≡ capped (indent_from c s)
capped_indent c s = rw (indent_front (capped c) s, indent_front c s) (capped_columns c (take (run is_indent s) s))

-- nothing is cut of the indentation of a text that a number can count four times over
pub indent_whole : (s : List ℕ) → 4 * length s ≤ most → capped (indent_columns s) ≡ indent_columns s
indent_whole s h = capped_id (indent_columns s) (omega (arith, indent_le s))

-- ---- `columns`: the numbers that are cut on the way lead to the column of the whole text, cut once
pub columns_fold : (c : ℕ) (s : List ℕ) → c ≤ most → capped (columns_from c s) ≡ fold (λ n b. capped (column_after n b)) c s
unfolding columns_from
columns_fold c [] h = capped_id c h
columns_fold c (b ∷ s) h = sym (capped_columns (column_after c b) s) ∙ columns_fold (capped (column_after c b)) s (capped_le (column_after c b))

-- ---- the loop of `indent_columns`
pub record Indents (s : List ℕ) (r column i : ℕ) : Type 0 where
  pub small : column ≤ most
  pub rest : capped (indent_from column (drop i s)) ≡ r

module _ {s : List ℕ} {r column i : ℕ} (inv : Indents s r column i) where
  pub indents_stop : i < length s → is_indent (get_or s i 0) ≡ false → column ≡ r
  unfolding indent_from
  indents_stop h f = sym (capped_id column inv.small) ∙ (rw (drop-cons s i 0 h, f) at inv.rest)

  pub indents_go : {next : ℕ} → i < length s → is_indent (get_or s i 0) ≡ true → next ≡ capped (column_after column (get_or s i 0)) → Indents s r next (i + 1)
  unfolding indent_from
  indents_go h t e =
      record {
        small = rw e (capped_le (column_after column (get_or s i 0)));
        rest = rw (e, add-one) (capped_indent (column_after column (get_or s i 0)) (drop (suc i) s) ∙ (rw (drop-cons s i 0 h, t) at inv.rest));
      }

  pub indents_end : length s ≤ i → column ≡ r
  unfolding indent_from
  indents_end h = sym (capped_id column inv.small) ∙ (rw (drop_of_length-le s h) at inv.rest)
