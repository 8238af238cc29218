-- Rows without one of them: what they list, and that they stay shaped.
-- Assumes nothing.
use mathlib.Core.Path.{◌≡◌, refl, sym, ◌∙◌, ap}
use mathlib.Core.Bool.{Bool, true, false, cond}
use mathlib.Core.List.{List, [], ◌∷◌, map}
use Prim.Native.Nat.{ℕ, suc, ◌-◌, ◌<◌}
use native.Mathlib.Omega.{arith}
use borrow.Author.Tests.{eqb-true, eqb-false, eq-eqb, ne_eqb, ltb-true, ltb-false, le-ltb, lt-ltb}
use lib.Dec.{eqb, ltb}
use lib.ListN.{length, get_or}
use Rattle.base_lists.specs.Lists.{all}
use Rattle.base_lists.proofs.Scan.{both}
use Rattle.set_table.specs.Types.{Texts, zero_row}
use Rattle.set_table.specs.Rows.{Rows, slot_entry, meant}
use Rattle.set_table.specs.Shape.{is_slot, times, is_present, name_at, is_free, Shaped}
use Rattle.set_table.specs.declared.Slot.{Slot}
use Rattle.set_table.specs.declared.Slot.TheVariants.{Id, Class, Key}
use Rattle.set_loose.specs.Without.{without_at, lowered, slots_without, without_row}
use Rattle.set_loose.specs.Inner.{raised}
use Rattle.set_loose.specs.Loose.{row_named}
use Rattle.set_loose.proofs.Without.{gone-length, gone_get, low, high}
use Rattle.set_loose.proofs.Keys.{shaped_there, slot_named_lem}
use Rattle.proved_loose.specs.Loose.{without_name}

-- ---- numbers that go up and down again

eqb_iff : (a b c e : ℕ) → (a ≡ b → c ≡ e) → (c ≡ e → a ≡ b) → eqb a b ≡ eqb c e
eqb_iff a b c e f g = go (eqb a b) refl
  where
    go : (x : Bool) → eqb a b ≡ x → x ≡ eqb c e
    go true q = sym (eq-eqb c e (f (eqb-true a b q)))
    go false q = sym (ne_eqb c e (λ z. eqb-false a b q (g z)))

-- the slot that is to be sought in the old order for one of the new
abbrev pub lifted : ℕ → Slot → Slot
lifted k Id = Id
lifted k Class = Class
lifted k (Key j) = Key (raised k j)

key_turned : (k j i : ℕ) → eqb (suc (suc k)) (suc (suc i)) ≡ false → eqb (suc (suc j)) (suc (suc (cond (ltb k i) (i - 1) i))) ≡ eqb (suc (suc (cond (ltb j k) j (suc j)))) (suc (suc i))
key_turned k j i e = go (ltb k i) (ltb j k) refl refl (λ z. eqb-false (suc (suc k)) (suc (suc i)) e (ap (λ n. suc (suc n)) z))
  where
    go : (x y : Bool) → ltb k i ≡ x → ltb j k ≡ y → (k ≡ i → ⊥) → eqb (suc (suc j)) (suc (suc (cond x (i - 1) i))) ≡ eqb (suc (suc (cond y j (suc j)))) (suc (suc i))
    go true true p q n =
        let a = ltb-true k i p in
        let b = ltb-true j k q in
        eqb_iff (suc (suc j)) (suc (suc (i - 1))) (suc (suc j)) (suc (suc i)) (λ z. absurd (omega arith)) (λ z. absurd (omega arith))
    go true false p q n =
        let a = ltb-true k i p in
        let b = ltb-false j k q in
        eqb_iff (suc (suc j)) (suc (suc (i - 1))) (suc (suc (suc j))) (suc (suc i)) (λ z. omega arith) (λ z. omega arith)
    go false true p q n = refl
    go false false p q n =
        let a = ltb-false k i p in
        let b = ltb-false j k q in
        eqb_iff (suc (suc j)) (suc (suc i)) (suc (suc (suc j))) (suc (suc i)) (λ z. absurd (n (omega arith))) (λ z. absurd (omega arith))

turned : (k : ℕ) (x y : Slot) → is_slot (Key k) y ≡ false → is_slot x (lowered k y) ≡ is_slot (lifted k x) y
turned k Id Id e = refl
turned k Id Class e = refl
turned k Id (Key i) e = eqb_iff 0 (suc (suc (cond (ltb k i) (i - 1) i))) 0 (suc (suc i)) (λ z. absurd (omega arith)) (λ z. absurd (omega arith))
turned k Class Id e = refl
turned k Class Class e = refl
turned k Class (Key i) e = eqb_iff 1 (suc (suc (cond (ltb k i) (i - 1) i))) 1 (suc (suc i)) (λ z. absurd (omega arith)) (λ z. absurd (omega arith))
turned k (Key j) Id e = eqb_iff (suc (suc j)) 0 (suc (suc (raised k j))) 0 (λ z. absurd (omega arith)) (λ z. absurd (omega arith))
turned k (Key j) Class e = eqb_iff (suc (suc j)) 1 (suc (suc (raised k j))) 1 (λ z. absurd (omega arith)) (λ z. absurd (omega arith))
turned k (Key j) (Key i) e = key_turned k j i e

-- no new slot was the one that goes
gone : (k : ℕ) (x y : Slot) → is_slot (Key k) y ≡ true → is_slot (lifted k x) y ≡ false
gone k x Id e = absurd (omega (arith, eqb-true (suc (suc k)) 0 e))
gone k x Class e = absurd (omega (arith, eqb-true (suc (suc k)) 1 e))
gone k Id (Key i) e = ne_eqb 0 (suc (suc i)) (λ z. omega arith)
gone k Class (Key i) e = ne_eqb 1 (suc (suc i)) (λ z. omega arith)
gone k (Key j) (Key i) e = go (ltb j k) refl
  where
    go : (b : Bool) → ltb j k ≡ b → eqb (suc (suc (cond b j (suc j)))) (suc (suc i)) ≡ false
    go true q = ne_eqb (suc (suc j)) (suc (suc i)) (λ z. omega (arith, ltb-true j k q, eqb-true (suc (suc k)) (suc (suc i)) e))
    go false q = ne_eqb (suc (suc (suc j))) (suc (suc i)) (λ z. omega (arith, ltb-false j k q, eqb-true (suc (suc k)) (suc (suc i)) e))

pub times_without : (k : ℕ) (x : Slot) (o : List Slot) → times x (slots_without k o) ≡ times (lifted k x) o
unfolding times slots_without
times_without k x [] = refl
times_without k x (y ∷ o) = go (is_slot (Key k) y) refl (times_without k x o)
  where
    go : (b : Bool) → is_slot (Key k) y ≡ b → times x (slots_without k o) ≡ times (lifted k x) o
        → times x (cond b (slots_without k o) (lowered k y ∷ slots_without k o)) ≡ cond (is_slot (lifted k x) y) (suc (times (lifted k x) o)) (times (lifted k x) o)
    go true e ih = rw (gone k x y e) ih
    go false e ih = rw (turned k x y e, ih)

-- ---- the set that is left is shaped
module _ {t : Texts} {s : Rows} (h : Shaped t s) (k : ℕ) (l : k < length s.keys) where
  fewer : suc (length (without_at k s.keys)) ≡ length s.keys
  fewer = gone-length k s.keys l

  raised_below : (j : ℕ) → j < length (without_at k s.keys) → raised k j < length s.keys
  raised_below j i = go (ltb j k) refl
    where
      go : (b : Bool) → ltb j k ≡ b → cond b j (suc j) < length s.keys
      go true e = omega (arith, fewer)
      go false e = omega (arith, fewer)

  raised-same : (i j : ℕ) → raised k i ≡ raised k j → i ≡ j
  raised-same i j = go (ltb i k) (ltb j k) refl refl
    where
      go : (x y : Bool) → ltb i k ≡ x → ltb j k ≡ y → cond x i (suc i) ≡ cond y j (suc j) → i ≡ j
      go true true p q z = z
      go true false p q z = absurd (omega (arith, ltb-true i k p, ltb-false j k q))
      go false true p q z = absurd (omega (arith, ltb-false i k p, ltb-true j k q))
      go false false p q z = omega arith

  there_lifted : (x : Slot) → is_present (without_row k s) x ≡ is_present s (lifted k x)
  unfolding without_row
  there_lifted Id = refl
  there_lifted Class = refl
  there_lifted (Key j) = go (ltb j k) refl
    where
      go : (b : Bool) → ltb j k ≡ b → ltb j (length (without_at k s.keys)) ≡ ltb (cond b j (suc j)) (length s.keys)
      go true e = lt-ltb j (length (without_at k s.keys)) (omega (arith, fewer, ltb-true j k e)) ∙ sym (lt-ltb j (length s.keys) (omega (arith, ltb-true j k e)))
      go false e = rw (sym fewer) (ltb_suc j (length (without_at k s.keys)))
        where
          ltb_suc : (a b : ℕ) → ltb a b ≡ ltb (suc a) (suc b)
          ltb_suc a b = up (ltb a b) refl
            where
              up : (x : Bool) → ltb a b ≡ x → x ≡ ltb (suc a) (suc b)
              up true q = sym (lt-ltb (suc a) (suc b) (omega (arith, ltb-true a b q)))
              up false q = sym (le-ltb (suc a) (suc b) (omega (arith, ltb-false a b q)))

  name_raised : (j : ℕ) → name_at t (without_at k s.keys) j ≡ name_at t s.keys (raised k j)
  unfolding name_at
  name_raised j = rw (gone_get zero_row k j s.keys)

  pub shaped_without : Shaped t (without_row k s)
  unfolding without_row
  shaped_without =
      record {
        once = λ x. times_without k x s.order ∙ h.once (lifted k x) ∙ ap (λ b. cond b 1 0) (sym (there_lifted x));
        free = λ j i. rw (name_raised j) (h.free (raised k j) (raised_below j i));
        apart = λ i j a b e. raised-same i j (h.apart (raised k i) (raised k j) (raised_below i a) (raised_below j b) (rw (name_raised i, name_raised j) at e));
      }

  -- ---- the entries that stay
  entry_stays : (y : Slot) → is_present s y ≡ true → is_slot (Key k) y ≡ false → slot_entry t (without_row k s) (lowered k y) ≡ slot_entry t s y
  unfolding without_row slot_entry
  entry_stays Id p e = refl
  entry_stays Class p e = refl
  entry_stays (Key j) p e = rw (row (ltb k j) refl)
    where
      row : (b : Bool) → ltb k j ≡ b → get_or (without_at k s.keys) (cond b (j - 1) j) zero_row ≡ get_or s.keys j zero_row
      row true q =
          let a = ltb-true k j q in
          let n : suc (j - 1) ≡ j = omega arith in
          high zero_row k (j - 1) s.keys (omega arith) ∙ rw n
      row false q =
          let a = ltb-false k j q in
          low zero_row k j s.keys (omega (arith, other))
        where
          other : (k ≡ j → ⊥)
          other z = eqb-false (suc (suc k)) (suc (suc j)) e (ap (λ n. suc (suc n)) z)

module _ {t : Texts} {s : Rows} (h : Shaped t s) (w : List ℕ) (free : is_free w ≡ true) (l : row_named t w s.keys < length s.keys) where
  entries : (o : List Slot) → all (is_present s) o ≡ true
      → map (slot_entry t (without_row (row_named t w s.keys) s)) (slots_without (row_named t w s.keys) o) ≡ without_name w (map (slot_entry t s) o)
  unfolding all slots_without without_name
  entries [] a = refl
  entries (y ∷ o) a =
      let g = both (is_present s y) (all (is_present s) o) a in
      rw (slot_named_lem h w free y g.0) (go (is_slot (Key (row_named t w s.keys)) y) refl g.0 (entries o g.1))
    where
      go : (b : Bool) → is_slot (Key (row_named t w s.keys)) y ≡ b → is_present s y ≡ true
          → map (slot_entry t (without_row (row_named t w s.keys) s)) (slots_without (row_named t w s.keys) o) ≡ without_name w (map (slot_entry t s) o)
          → map (slot_entry t (without_row (row_named t w s.keys) s)) (cond b (slots_without (row_named t w s.keys) o) (lowered (row_named t w s.keys) y ∷ slots_without (row_named t w s.keys) o))
          ≡ cond b (without_name w (map (slot_entry t s) o)) (slot_entry t s y ∷ without_name w (map (slot_entry t s) o))
      go true e p ih = ih
      go false e p ih = rw (entry_stays h (row_named t w s.keys) l y p e, ih)

  -- the rows without the row of a name mean what they meant without the entry of that name
  pub without_means : meant t (without_row (row_named t w s.keys) s) ≡ without_name w (meant t s)
  unfolding meant without_row
  without_means = entries s.order (shaped_there h)
