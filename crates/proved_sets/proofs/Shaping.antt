-- What one put does to the slots of a shaped set: the order and its own slot's entry change, every other slot stays. Said once of all puts (Slotted),
-- then shown of each.
-- Assumes nothing.
use mathlib.Core.Path.{◌≡◌, refl, sym, ◌∙◌}
use mathlib.Core.Bool.{Bool, true, false, cond, not}
use mathlib.Core.List.{List, [], ◌∷◌, ◌++◌, map, map-append}
use Prim.Native.Nat.{ℕ, suc, ◌<◌, ◌≤◌}
use native.Mathlib.Omega.{arith}
use lib.Dec.{eqb, ltb, eqb-suc-suc}
use lib.ListN.{length, get_or, length-set, length-append, get_or-append}
use lib.Seq.{get_or-set_same, get_or-set_other, get_or-append_seam}
use borrow.Author.Tests.{eqb-false, ltb-true, ltb-false, lt-ltb, le-ltb, not-true}
use Rattle.base_lists.specs.Lists.{same, is_some}
use Rattle.base_lists.proofs.Scan.{both}
use Rattle.base_lists.proofs.Same.{same_true, same_of}
use Rattle.base_lists.proofs.More.{contra, same_sym}
use Rattle.block_grammar.specs.Meaning.{Entry, id_name, class_name, is_class}
use Rattle.proved_grammar.specs.Meaning.{with_values}
use Rattle.set_table.specs.Types.{Texts, name_bytes, value_bytes, zero_row}
use Rattle.set_table.specs.Rows.{Rows, Put, is_there, has_key, key_at, put_row, slot_unless, with_put, slot_entry}
use Rattle.set_table.specs.Shape.{is_slot, is_present, name_at, is_free, Shaped}
use Rattle.set_table.specs.declared.Name.{Name}
use Rattle.set_table.specs.declared.Row.{Row}
use Rattle.set_table.specs.declared.Slot.{Slot}
use Rattle.set_table.specs.declared.Slot.TheVariants.{Id, Class, Key}
use Rattle.set_table.specs.declared.Value.{Value}
use Rattle.set_table.proofs.Keys.{key_le, key_none, key_some, key_named, key_before}

-- what one put says
unfoldable pub put_entry : Texts → Put → Entry
put_entry t (Put.ident v) = record { name = id_name; values = value_bytes t v ∷ [] }
put_entry t (Put.class v) = record { name = class_name; values = value_bytes t v ∷ [] }
put_entry t (Put.key n v) = record { name = name_bytes t n; values = value_bytes t v ∷ [] }

-- ======== the rows of the keys: rs before, rs' behind a put of the value v under the name n, whose row is k
pub record Rowed (t : Texts) (n : Name) (v : Value) (rs rs' : List Row) (k : ℕ) : Type 0 where
  pub has : has_key t n rs ≡ ltb k (length rs)
  pub within : k < length rs'
  pub behind : length rs ≤ k → k ≡ length rs
  pub long : (j : ℕ) → eqb k j ≡ false → ltb j (length rs') ≡ ltb j (length rs)
  pub other : (j : ℕ) → eqb k j ≡ false → j < length rs → get_or rs' j zero_row ≡ get_or rs j zero_row
  pub apart : (j : ℕ) → eqb k j ≡ false → j < length rs → same (name_at t rs j) (name_bytes t n) ≡ false
  pub kept : k < length rs → name_at t rs k ≡ name_bytes t n
  pub name : name_at t rs' k ≡ name_bytes t n
  pub value : (get_or rs' k zero_row).value ≡ v

-- a bound one higher lets only that number in
lt_more : (j m : ℕ) → (j ≡ m → ⊥) → ltb j (suc m) ≡ ltb j m
lt_more j m h = go (ltb j m) refl
  where
    go : (b : Bool) → ltb j m ≡ b → ltb j (suc m) ≡ b
    go true q = lt-ltb j (suc m) (omega (arith, ltb-true j m q))
    go false q = le-ltb j (suc m) (omega (arith, ltb-false j m q))

module _ (t : Texts) (n : Name) (v : Value) (rs : List Row) where
  -- a new name: its row goes behind
  rowed_new : length rs ≤ key_at t n rs → Rowed t n v rs (put_row t n v rs) (key_at t n rs)
  unfolding name_at
  rowed_new h =
      let e : key_at t n rs ≡ length rs = omega (arith, key_le t n rs) in
      let z = key_none t n v rs h in
      let l : length (put_row t n v rs) ≡ suc (length rs) = rw z.1 (omega (arith, length-append rs (record { name = n; value = v } ∷ []))) in
      let g : get_or (put_row t n v rs) (key_at t n rs) zero_row ≡ record { name = n; value = v } = rw (z.1, e) (get_or-append_seam rs (record { name = n; value = v }) [] zero_row) in
      record {
        has = z.0 ∙ sym (le-ltb (key_at t n rs) (length rs) h);
        within = omega arith;
        behind = λ q. e;
        long = λ j q. rw l (lt_more j (length rs) (λ i. eqb-false (key_at t n rs) j q (e ∙ sym i)));
        other = λ j q i. rw z.1 (get_or-append rs (record { name = n; value = v } ∷ []) zero_row j i);
        apart = λ j q i. key_before t n rs j (omega arith);
        kept = λ i. absurd (omega arith);
        name = rw g;
        value = rw g;
      }

  -- a name that is there: its row gets the value
  rowed_there : ((i j : ℕ) → i < length rs → j < length rs → same (name_at t rs i) (name_at t rs j) ≡ true → i ≡ j) → key_at t n rs < length rs
      → Rowed t n v rs (put_row t n v rs) (key_at t n rs)
  unfolding name_at
  rowed_there d h =
      let k = key_at t n rs in
      let z = key_some t n v rs h in
      let l : length (put_row t n v rs) ≡ length rs = rw z.1 (length-set rs k (record { name = (get_or rs k zero_row).name; value = v })) in
      let g : get_or (put_row t n v rs) k zero_row ≡ record { name = (get_or rs k zero_row).name; value = v } = rw z.1 (get_or-set_same rs k (record { name = (get_or rs k zero_row).name; value = v }) zero_row h) in
      let m : name_bytes t (get_or rs k zero_row).name ≡ name_bytes t n = same_true (name_bytes t (get_or rs k zero_row).name) (name_bytes t n) (key_named t n rs h) in
      record {
        has = z.0 ∙ sym (lt-ltb k (length rs) h);
        within = omega arith;
        behind = λ q. absurd (omega arith);
        long = λ j q. rw l;
        other = λ j q i. rw z.1 (get_or-set_other rs k j (record { name = (get_or rs k zero_row).name; value = v }) zero_row (λ e. eqb-false k j q (sym e)));
        apart = λ j q i. go j q i m (same (name_at t rs j) (name_bytes t n)) refl;
        kept = λ i. m;
        name = rw g m;
        value = rw g;
      }
    where
      go : (j : ℕ) → eqb (key_at t n rs) j ≡ false → j < length rs → name_at t rs (key_at t n rs) ≡ name_bytes t n → (b : Bool) → same (name_at t rs j) (name_bytes t n) ≡ b → b ≡ false
      go j q i m true e = absurd (eqb-false (key_at t n rs) j q (sym (d j (key_at t n rs) i h (rw m e))))
      go j q i m false e = refl

-- ======== the slots: s before, s' behind a put that says `new`, whose slot is x
-- another slot y
pub record Stays (t : Texts) (s s' : Rows) (new : Entry) (y : Slot) : Type 0 where
  pub there : is_present s' y ≡ is_present s y
  pub other : is_present s y ≡ true → slot_entry t s' y ≡ slot_entry t s y
  pub apart : is_present s y ≡ true → same (slot_entry t s y).name new.name ≡ false

pub record Slotted (t : Texts) (s s' : Rows) (x : Slot) (new : Entry) : Type 0 where
  pub order : s'.order ≡ slot_unless (is_present s x) s.order x
  pub here : is_present s' x ≡ true
  pub entry : slot_entry t s' x ≡ cond (is_present s x) (with_values (slot_entry t s x) new.values) new
  pub name : is_present s x ≡ true → same (slot_entry t s x).name new.name ≡ true
  pub stays : (y : Slot) → is_slot x y ≡ false → Stays t s s' new y

-- ======== each put
pub free_parts : (n : List ℕ) → is_free n ≡ true → (same n id_name ≡ false) × (same n class_name ≡ false)
unfolding is_free
free_parts n e = let z = both (not (same n id_name)) (not (same n class_name)) e in (not-true (same n id_name) z.0, not-true (same n class_name) z.1)

module _ {t : Texts} {s : Rows} (h : Shaped t s) where
  free_key : (k : ℕ) → is_present s (Key k) ≡ true → (same (slot_entry t s (Key k)).name id_name ≡ false) × (same (slot_entry t s (Key k)).name class_name ≡ false)
  unfolding slot_entry name_at
  free_key k p = free_parts (name_at t s.keys k) (h.free k (ltb-true k (length s.keys) p))

  pub slotted_ident : (v : Value) → Slotted t s (with_put t s (Put.ident v)) Id (put_entry t (Put.ident v))
  unfolding with_put put_entry slot_entry same is_class
  slotted_ident v =
      let e : slot_entry t (with_put t s (Put.ident v)) Id ≡ cond (is_there s.ident) (with_values (slot_entry t s Id) (value_bytes t v ∷ [])) (put_entry t (Put.ident v)) = entry (is_there s.ident) in
      record { order = refl; here = refl; entry = e; name = λ q. refl; stays = stays }
    where
      entry : (b : Bool) → put_entry t (Put.ident v) ≡ cond b (with_values (slot_entry t s Id) (value_bytes t v ∷ [])) (put_entry t (Put.ident v))
      entry true = refl
      entry false = refl

      stays : (y : Slot) → is_slot Id y ≡ false → Stays t s (with_put t s (Put.ident v)) (put_entry t (Put.ident v)) y
      stays Id q = contra true refl q
      stays Class q = record { there = refl; other = λ p. refl; apart = λ p. refl }
      stays (Key k) q = record { there = refl; other = λ p. refl; apart = λ p. (free_key k p).0 }

  pub slotted_class : (v : Value) → Slotted t s (with_put t s (Put.class v)) Class (put_entry t (Put.class v))
  unfolding with_put put_entry slot_entry same is_class
  slotted_class v =
      let e : slot_entry t (with_put t s (Put.class v)) Class ≡ cond (is_some s.classes) (with_values (slot_entry t s Class) (value_bytes t v ∷ [])) (put_entry t (Put.class v)) = entry s.classes in
      record { order = refl; here = some s.classes; entry = e; name = λ q. refl; stays = stays }
    where
      some : (cs : List Value) → is_some (cs ++ (v ∷ [])) ≡ true
      some [] = refl
      some (c ∷ cs) = refl

      entry : (cs : List Value)
          → ◌≡◌ {A = Entry} (record { name = class_name; values = map (value_bytes t) (cs ++ (v ∷ [])) })
          (cond (is_some cs) (record { name = class_name; values = map (value_bytes t) cs ++ (value_bytes t v ∷ []) }) (record { name = class_name; values = value_bytes t v ∷ [] }))
      entry [] = refl
      entry (c ∷ cs) = rw map-append

      stays : (y : Slot) → is_slot Class y ≡ false → Stays t s (with_put t s (Put.class v)) (put_entry t (Put.class v)) y
      stays Id q = record { there = refl; other = λ p. refl; apart = λ p. refl }
      stays Class q = contra true refl q
      stays (Key k) q = record { there = refl; other = λ p. refl; apart = λ p. (free_key k p).1 }

  pub row : (n : Name) (v : Value) → Rowed t n v s.keys (put_row t n v s.keys) (key_at t n s.keys)
  row n v = go (ltb (key_at t n s.keys) (length s.keys)) refl
    where
      go : (b : Bool) → ltb (key_at t n s.keys) (length s.keys) ≡ b → Rowed t n v s.keys (put_row t n v s.keys) (key_at t n s.keys)
      go true q = rowed_there t n v s.keys h.apart (ltb-true _ _ q)
      go false q = rowed_new t n v s.keys (ltb-false _ _ q)

  module _ {n : Name} {v : Value} {rs' : List Row} {k : ℕ} (r : Rowed t n v s.keys rs' k) (f : is_free (name_bytes t n) ≡ true) where
    slotted_rows : Slotted t s (record { ident = s.ident; classes = s.classes; keys = rs'; order = slot_unless (has_key t n s.keys) s.order (Key (length s.keys)) })
        (Key k) (record { name = name_bytes t n; values = value_bytes t v ∷ [] })
    unfolding slot_entry name_at is_class
    slotted_rows =
        record {
          order = rw r.has (order (ltb k (length s.keys)) refl);
          here = lt-ltb k (length rs') r.within;
          entry = rw (r.name, r.value) (entry (ltb k (length s.keys)) refl);
          name = λ q. same_of (r.kept (ltb-true k (length s.keys) q));
          stays = stays;
        }
      where
        order : (b : Bool) → ltb k (length s.keys) ≡ b → slot_unless b s.order (Key (length s.keys)) ≡ slot_unless b s.order (Key k)
        order true q = refl
        order false q = rw (r.behind (ltb-false k (length s.keys) q))

        entry : (b : Bool) → ltb k (length s.keys) ≡ b
            → ◌≡◌ {A = Entry} (record { name = name_bytes t n; values = value_bytes t v ∷ [] })
            (cond b (with_values (slot_entry t s (Key k)) (value_bytes t v ∷ [])) (record { name = name_bytes t n; values = value_bytes t v ∷ [] }))
        entry true q = rw (r.kept (ltb-true k (length s.keys) q), (free_parts (name_bytes t n) f).1)
        entry false q = refl

        stays : (y : Slot) → is_slot (Key k) y ≡ false
            → Stays t s (record { ident = s.ident; classes = s.classes; keys = rs'; order = slot_unless (has_key t n s.keys) s.order (Key (length s.keys)) })
            (record { name = name_bytes t n; values = value_bytes t v ∷ [] }) y
        stays Id q = record { there = refl; other = λ p. refl; apart = λ p. same_sym id_name (name_bytes t n) ∙ (free_parts (name_bytes t n) f).0 }
        stays Class q = record { there = refl; other = λ p. refl; apart = λ p. same_sym class_name (name_bytes t n) ∙ (free_parts (name_bytes t n) f).1 }
        stays (Key j) q =
            let e : eqb k j ≡ false = sym (eqb-suc-suc k j) ∙ sym (eqb-suc-suc (suc k) (suc j)) ∙ q in
            record {
              there = r.long j e;
              other = λ p. rw (r.other j e (ltb-true j (length s.keys) p));
              apart = λ p. r.apart j e (ltb-true j (length s.keys) p);
            }

  pub slotted_key : (n : Name) (v : Value) → is_free (name_bytes t n) ≡ true → Slotted t s (with_put t s (Put.key n v)) (Key (key_at t n s.keys)) (put_entry t (Put.key n v))
  unfolding with_put put_entry
  slotted_key n v f = slotted_rows (row n v) f
