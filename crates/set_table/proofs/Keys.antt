-- Where a key stands: what a loop over the rows asks, and what a put does there.
-- Assumes nothing.
use mathlib.Core.Path.{◌≡◌, refl, sym, ◌∙◌, ap}
use mathlib.Core.Bool.{Bool, true, false, cond, ◌||◌}
use mathlib.Core.List.{List, [], ◌∷◌, ◌++◌}
use Prim.Native.Nat.{ℕ, zero, suc, ◌+◌, ◌<◌, ◌≤◌, zero-le}
use native.Mathlib.Nat.{zero-add, add-zero}
use native.Mathlib.Numerals.{add-one}
use native.Mathlib.Omega.{arith}
use lib.ListN.{length, get_or, set, take, drop, length-take, drop_of_length-le}
use lib.Seq.{drop-cons, get_or-take}
use Rattle.base_lists.specs.Lists.{same}
use Rattle.set_table.specs.Types.{Texts, name_bytes, zero_row, max_keys}
use Rattle.set_table.specs.Rows.{is_named, has_key, key_at, put_row}
use Rattle.set_table.specs.declared.Name.{Name}
use Rattle.set_table.specs.declared.Value.{Value}
use Rattle.set_table.specs.declared.Row.{Row}

module _ (t : Texts) (n : Name) where
  pub key_le : (rs : List Row) → key_at t n rs ≤ length rs
  unfolding key_at
  key_le [] = zero-le
  key_le (r ∷ rs) = go (is_named t n r) (key_le rs)
    where
      go : (b : Bool) → key_at t n rs ≤ length rs → cond b 0 (suc (key_at t n rs)) ≤ suc (length rs)
      go true h = omega arith
      go false h = omega arith

  -- no row has the name
  pub key_none : (v : Value) (rs : List Row) → length rs ≤ key_at t n rs → (has_key t n rs ≡ false) × (put_row t n v rs ≡ rs ++ (record { name = n; value = v } ∷ []))
  unfolding key_at has_key put_row
  key_none v [] h = (refl, refl)
  key_none v (r ∷ rs) h = go (is_named t n r) _ h (key_none v rs)
    where
      -- l: what would become of a row that has the name
      go : (b : Bool) (l : List Row) → suc (length rs) ≤ cond b 0 (suc (key_at t n rs))
          → (length rs ≤ key_at t n rs → (has_key t n rs ≡ false) × (put_row t n v rs ≡ rs ++ (record { name = n; value = v } ∷ [])))
          → ((b || has_key t n rs) ≡ false) × (cond b l (r ∷ put_row t n v rs) ≡ r ∷ (rs ++ (record { name = n; value = v } ∷ [])))
      go true l h ih = absurd (omega arith)
      go false l h ih = let z = ih (omega arith) in (z.0, ap (λ (l : List Row). r ∷ l) z.1)

  -- the row at key_at has it
  pub key_some : (v : Value) (rs : List Row) → key_at t n rs < length rs
      → (has_key t n rs ≡ true) × (put_row t n v rs ≡ set rs (key_at t n rs) (record { name = (get_or rs (key_at t n rs) zero_row).name; value = v }))
  unfolding key_at has_key put_row
  key_some v [] h = absurd (omega arith)
  key_some v (r ∷ rs) h = go (is_named t n r) h (key_some v rs)
    where
      go : (b : Bool) → cond b 0 (suc (key_at t n rs)) < suc (length rs)
          → (key_at t n rs < length rs → (has_key t n rs ≡ true) × (put_row t n v rs ≡ set rs (key_at t n rs) (record { name = (get_or rs (key_at t n rs) zero_row).name; value = v })))
          → ((b || has_key t n rs) ≡ true)
          × (cond b (record { name = r.name; value = v } ∷ rs) (r ∷ put_row t n v rs) ≡ set (r ∷ rs) (cond b 0 (suc (key_at t n rs))) (record { name = (get_or (r ∷ rs) (cond b 0 (suc (key_at t n rs))) zero_row).name; value = v }))
      go true h ih = (refl, refl)
      go false h ih = let z = ih (omega arith) in (z.0, ap (λ (l : List Row). r ∷ l) z.1)

  -- so it has the name, and the rows before it have others
  pub key_named : (rs : List Row) → key_at t n rs < length rs → is_named t n (get_or rs (key_at t n rs) zero_row) ≡ true
  unfolding key_at
  key_named [] h = absurd (omega arith)
  key_named (r ∷ rs) h = go (is_named t n r) refl h (key_named rs)
    where
      go : (b : Bool) → is_named t n r ≡ b → cond b 0 (suc (key_at t n rs)) < suc (length rs) → (key_at t n rs < length rs → is_named t n (get_or rs (key_at t n rs) zero_row) ≡ true)
          → is_named t n (get_or (r ∷ rs) (cond b 0 (suc (key_at t n rs))) zero_row) ≡ true
      go true q h ih = q
      go false q h ih = ih (omega arith)

  pub key_before : (rs : List Row) (j : ℕ) → j < key_at t n rs → is_named t n (get_or rs j zero_row) ≡ false
  unfolding key_at
  key_before [] j h = absurd (omega arith)
  key_before (r ∷ rs) j h = go (is_named t n r) refl j h (key_before rs)
    where
      go : (b : Bool) → is_named t n r ≡ b → (j : ℕ) → j < cond b 0 (suc (key_at t n rs)) → ((j : ℕ) → j < key_at t n rs → is_named t n (get_or rs j zero_row) ≡ false)
          → is_named t n (get_or (r ∷ rs) j zero_row) ≡ false
      go true q j h ih = absurd (omega arith)
      go false q zero h ih = q
      go false q (suc j) h ih = ih j (omega arith)

-- ---- the loop over the rows: k were passed
pub record Looks (t : Texts) (n : Name) (rs : List Row) (k : ℕ) : Type 0 where
  pub rest : k + key_at t n (drop k rs) ≡ key_at t n rs

pub looks_start : (t : Texts) (n : Name) (rs : List Row) → Looks t n rs 0
looks_start t n rs = record { rest = zero-add (key_at t n rs) }

module _ {t : Texts} {n : Name} {rs : List Row} {k : ℕ} (inv : Looks t n rs k) where
  pub looks_end : length rs ≤ k → k ≡ key_at t n rs
  unfolding key_at
  looks_end h = sym (add-zero k) ∙ (rw (drop_of_length-le rs h) at inv.rest)

  pub looks_stop : k < length rs → is_named t n (get_or rs k zero_row) ≡ true → k ≡ key_at t n rs
  unfolding key_at
  looks_stop h e = sym (add-zero k) ∙ (rw (drop-cons rs k zero_row h, e) at inv.rest)

  pub looks_go : k < length rs → is_named t n (get_or rs k zero_row) ≡ false → Looks t n rs (k + 1)
  unfolding key_at
  looks_go h e =
      let z : k + suc (key_at t n (drop (suc k) rs)) ≡ key_at t n rs = rw (drop-cons rs k zero_row h, e) at inv.rest in
      record { rest = rw add-one (omega arith) }

-- the same over the first n rows of a table
pub record Finds (t : Texts) (name : Name) (n : ℕ) (keys : List Row) (k : ℕ) : Type 0 where
  pub long : length keys ≡ max_keys
  pub looks : Looks t name (take n keys) k

pub finds_start : (t : Texts) (name : Name) (n : ℕ) (keys : List Row) → length keys ≡ max_keys → Finds t name n keys 0
finds_start t name n keys e = record { long = e; looks = looks_start t name (take n keys) }

module _ {t : Texts} {name : Name} {n : ℕ} {keys : List Row} {k : ℕ} (inv : Finds t name n keys k) where
  -- the rows that count are passed
  pub finds_end : n ≤ k → k ≡ key_at t name (take n keys)
  finds_end h = looks_end inv.looks (omega (arith, length-take n keys))

  -- the table's rows are passed
  pub finds_out : max_keys ≤ k → k ≡ key_at t name (take n keys)
  finds_out h = looks_end inv.looks (omega (arith, length-take n keys, inv.long))

  here : k < max_keys → k < n → k < length (take n keys)
  here h l = omega (arith, length-take n keys, inv.long)

  -- x: whether its name is the bytes of the name that is looked for
  module _ {bytes : List ℕ} {x : Bool} (e : bytes ≡ name_bytes t name) (p : x ≡ same (name_bytes t (get_or keys k zero_row).name) bytes) (h : k < max_keys) (l : k < n) where
    named : {y : Bool} → x ≡ y → is_named t name (get_or (take n keys) k zero_row) ≡ y
    named q = rw (get_or-take n keys k zero_row l, ← e) (sym p ∙ q)

    pub finds_stop : x ≡ true → k ≡ key_at t name (take n keys)
    finds_stop q = looks_stop inv.looks (here h l) (named q)

    pub finds_go : x ≡ false → Finds t name n keys (k + 1)
    finds_go q = record { long = inv.long; looks = looks_go inv.looks (here h l) (named q) }
