-- Where a key stands: what the loop over the rows asks, and what holds of the row.
-- Assumes nothing.
use mathlib.Core.Path.{◌≡◌, refl, sym, ◌∙◌}
use mathlib.Core.Bool.{Bool, true, false, cond}
use mathlib.Core.List.{List, [], ◌∷◌}
use Prim.Native.Nat.{ℕ, zero, suc, ◌+◌, ◌<◌, ◌≤◌, zero-le}
use native.Mathlib.Nat.{zero-add, add-zero}
use native.Mathlib.Numerals.{add-one}
use native.Mathlib.Omega.{arith}
use lib.ListN.{length, get_or, take, drop, length-take, drop_of_length-le}
use lib.Seq.{drop-cons, get_or-take}
use Rattle.set_table.specs.Types.{Texts, zero_row, max_keys}
use Rattle.set_table.specs.declared.Row.{Row}
use Rattle.set_loose.specs.Loose.{has_name, row_named}

module _ (t : Texts) (w : List ℕ) where
  pub row_le : (rs : List Row) → row_named t w rs ≤ length rs
  unfolding row_named
  row_le [] = zero-le
  row_le (r ∷ rs) = go (has_name t w r) (row_le rs)
    where
      go : (b : Bool) → row_named t w rs ≤ length rs → cond b 0 (suc (row_named t w rs)) ≤ suc (length rs)
      go true h = omega arith
      go false h = omega arith

  -- the row has the name, and the rows before it have others
  pub row_has : (rs : List Row) → row_named t w rs < length rs → has_name t w (get_or rs (row_named t w rs) zero_row) ≡ true
  unfolding row_named
  row_has [] h = absurd (omega arith)
  row_has (r ∷ rs) h = go (has_name t w r) refl h (row_has rs)
    where
      go : (b : Bool) → has_name t w r ≡ b → cond b 0 (suc (row_named t w rs)) < suc (length rs) → (row_named t w rs < length rs → has_name t w (get_or rs (row_named t w rs) zero_row) ≡ true)
          → has_name t w (get_or (r ∷ rs) (cond b 0 (suc (row_named t w rs))) zero_row) ≡ true
      go true q h ih = q
      go false q h ih = ih (omega arith)

  pub row_before : (rs : List Row) (j : ℕ) → j < row_named t w rs → has_name t w (get_or rs j zero_row) ≡ false
  unfolding row_named
  row_before [] j h = absurd (omega arith)
  row_before (r ∷ rs) j h = go (has_name t w r) refl j h (row_before rs)
    where
      go : (b : Bool) → has_name t w r ≡ b → (j : ℕ) → j < cond b 0 (suc (row_named t w rs)) → ((j : ℕ) → j < row_named t w rs → has_name t w (get_or rs j zero_row) ≡ false)
          → has_name t w (get_or (r ∷ rs) j zero_row) ≡ false
      go true q j h ih = absurd (omega arith)
      go false q zero h ih = q
      go false q (suc j) h ih = ih j (omega arith)

-- ---- the loop over the first n rows: k were passed
pub record Finds (t : Texts) (w : List ℕ) (n : ℕ) (keys : List Row) (k : ℕ) : Type 0 where
  pub long : length keys ≡ max_keys
  pub rest : k + row_named t w (drop k (take n keys)) ≡ row_named t w (take n keys)

pub finds_start : (t : Texts) (w : List ℕ) (n : ℕ) (keys : List Row) → length keys ≡ max_keys → Finds t w n keys 0
finds_start t w n keys e = record { long = e; rest = zero-add (row_named t w (take n keys)) }

module _ {t : Texts} {w : List ℕ} {n : ℕ} {keys : List Row} {k : ℕ} (inv : Finds t w n keys k) where
  past : length (take n keys) ≤ k → k ≡ row_named t w (take n keys)
  unfolding row_named
  past h = sym (add-zero k) ∙ (rw (drop_of_length-le (take n keys) h) at inv.rest)

  -- the rows that count are passed
  pub finds_end : n ≤ k → k ≡ row_named t w (take n keys)
  finds_end h = past (omega (arith, length-take n keys))

  -- the table's rows are passed
  pub finds_out : max_keys ≤ k → k ≡ row_named t w (take n keys)
  finds_out h = past (omega (arith, length-take n keys, inv.long))

  here : k < max_keys → k < n → k < length (take n keys)
  here h l = omega (arith, length-take n keys, inv.long)

  pub finds_stop : k < max_keys → k < n → has_name t w (get_or keys k zero_row) ≡ true → k ≡ row_named t w (take n keys)
  unfolding row_named
  finds_stop h l e =
      let z : has_name t w (get_or (take n keys) k zero_row) ≡ true = rw (get_or-take n keys k zero_row l) e in
      sym (add-zero k) ∙ (rw (drop-cons (take n keys) k zero_row (here h l), z) at inv.rest)

  pub finds_go : k < max_keys → k < n → has_name t w (get_or keys k zero_row) ≡ false → Finds t w n keys (k + 1)
  unfolding row_named
  finds_go h l e =
      let z : has_name t w (get_or (take n keys) k zero_row) ≡ false = rw (get_or-take n keys k zero_row l) e in
      let y : k + suc (row_named t w (drop (suc k) (take n keys))) ≡ row_named t w (take n keys) = rw (drop-cons (take n keys) k zero_row (here h l), z) at inv.rest in
      record { long = inv.long; rest = rw add-one (omega arith) }
