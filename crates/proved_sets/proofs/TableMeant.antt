-- Rows built by puts list what the puts say, one put after the other.
-- Assumes nothing.
use mathlib.Core.Path.{◌≡◌, refl, sym, ◌∙◌, ap}
use mathlib.Core.Bool.{Bool, true, false, cond}
use mathlib.Core.List.{List, [], ◌∷◌, ◌++◌, map, map-append}
use Prim.Native.Nat.{ℕ, suc, ◌<◌}
use native.Mathlib.Omega.{arith}
use lib.Dec.{eqb}
use lib.ListN.{length}
use borrow.Author.Tests.{eqb-true, ltb-true, lt-ltb, le-ltb}
use Rattle.base_lists.specs.Lists.{all, same}
use Rattle.base_lists.proofs.Scan.{both}
use Rattle.base_lists.proofs.More.{contra, same_sym}
use Rattle.block_grammar.specs.Meaning.{Entry}
use Rattle.proved_grammar.specs.Meaning.{put, puts}
use Rattle.set_table.specs.Types.{Texts, name_bytes}
use Rattle.set_table.specs.Rows.{Rows, Put, no_rows, slot_unless, with_put, with_puts, slot_entry, meant}
use Rattle.set_table.specs.Shape.{is_slot, times, is_present, name_at, is_free, Shaped}
use Rattle.set_table.specs.declared.Name.{Name}
use Rattle.set_table.specs.declared.Row.{Row}
use Rattle.set_table.specs.declared.Slot.{Slot}
use Rattle.set_table.specs.declared.Slot.TheVariants.{Id, Class, Key}
use Rattle.set_table.specs.declared.Value.{Value}
use Rattle.set_table.proofs.Slots.{slot_refl, slot_same, times_le, times_head}
use Rattle.set_table.proofs.Puts.{is_allowed}
use Rattle.proved_sets.proofs.Shaping.{put_entry, Rowed, Slotted, row, slotted_ident, slotted_class, slotted_key}
use Rattle.proved_sets.proofs.Slots.{slot_sym, times_more}

-- each slot of an order is present
data All (s : Rows) : List Slot → Type 0 where
  none : All s []
  and : {y : Slot} {o : List Slot} → is_present s y ≡ true → All s o → All s (y ∷ o)

each : (s : Rows) (o : List Slot) → ((y : Slot) → 0 < times y o → is_present s y ≡ true) → All s o
each s [] h = All.none
each s (y ∷ o) h = All.and (h y (omega (arith, times_head y o))) (each s o (λ z i. h z (omega (arith, times_le z y o))))

module _ {t : Texts} {s s' : Rows} {x : Slot} {new : Entry} (g : Slotted t s s' x new) where
  -- an order without x stays as it is, and what is new goes behind it
  kept : (o : List Slot) → All s o → times x o ≡ 0 → map (slot_entry t s') o ≡ map (slot_entry t s) o
  unfolding times
  kept [] All.none e = refl
  kept (y ∷ o) (All.and i a) e = go (is_slot x y) refl e (kept o a)
    where
      go : (b : Bool) → is_slot x y ≡ b → cond b (suc (times x o)) (times x o) ≡ 0 → (times x o ≡ 0 → map (slot_entry t s') o ≡ map (slot_entry t s) o)
          → slot_entry t s' y ∷ map (slot_entry t s') o ≡ slot_entry t s y ∷ map (slot_entry t s) o
      go true q e ih = absurd (omega arith)
      go false q e ih = rw ((g.stays y q).other i, ih e)

  behind : (o : List Slot) → All s o → times x o ≡ 0 → put (map (slot_entry t s) o) new ≡ map (slot_entry t s) o ++ (new ∷ [])
  unfolding times put
  behind [] All.none e = refl
  behind (y ∷ o) (All.and i a) e = go (is_slot x y) refl e (behind o a)
    where
      go : (b : Bool) → is_slot x y ≡ b → cond b (suc (times x o)) (times x o) ≡ 0 → (times x o ≡ 0 → put (map (slot_entry t s) o) new ≡ map (slot_entry t s) o ++ (new ∷ []))
          → put (slot_entry t s y ∷ map (slot_entry t s) o) new ≡ slot_entry t s y ∷ (map (slot_entry t s) o ++ (new ∷ []))
      go true q e ih = absurd (omega arith)
      go false q e ih = rw ((g.stays y q).apart i, ih e)

  -- an order with x once: the new values go where x stands
  there : (o : List Slot) → All s o → is_present s x ≡ true → times x o ≡ 1 → put (map (slot_entry t s) o) new ≡ map (slot_entry t s') o
  unfolding times put
  there [] All.none p e = absurd (omega arith)
  there (y ∷ o) (All.and i a) p e = go (is_slot x y) refl e (there o a p)
    where
      go : (b : Bool) → is_slot x y ≡ b → cond b (suc (times x o)) (times x o) ≡ 1 → (times x o ≡ 1 → put (map (slot_entry t s) o) new ≡ map (slot_entry t s') o)
          → put (slot_entry t s y ∷ map (slot_entry t s) o) new ≡ slot_entry t s' y ∷ map (slot_entry t s') o
      go true q e ih = rw (← slot_same x y q, g.name p, kept o a (omega arith), g.entry, p)
      go false q e ih = rw ((g.stays y q).apart i, (g.stays y q).other i, ih e)

  -- ---- the set behind the put
  module _ (h : Shaped t s) where
    all_present : All s s.order
    all_present = each s s.order (λ y i. go y (is_present s y) (h.once y) i)
      where
        go : (y : Slot) (b : Bool) → times y s.order ≡ cond b 1 0 → 0 < times y s.order → b ≡ true
        go y true e i = refl
        go y false e i = absurd (omega arith)

    meant-put : meant t s' ≡ put (meant t s) new
    unfolding meant
    meant-put = ap (map (slot_entry t s')) g.order ∙ go (is_present s x) refl
      where
        go : (b : Bool) → is_present s x ≡ b → map (slot_entry t s') (slot_unless b s.order x) ≡ put (map (slot_entry t s) s.order) new
        go true q = sym (there s.order all_present q (rw q at (h.once x)))
        go false q =
            let z : times x s.order ≡ 0 = rw q at (h.once x) in
            rw (map-append, kept s.order all_present z, g.entry, q, behind s.order all_present z)

    once_put : (y : Slot) → times y s'.order ≡ cond (is_present s' y) 1 0
    once_put y = ap (times y) g.order ∙ go (is_slot x y) refl (is_present s x) refl
      where
        go : (a : Bool) → is_slot x y ≡ a → (b : Bool) → is_present s x ≡ b → times y (slot_unless b s.order x) ≡ cond (is_present s' y) 1 0
        go true q true p = rw (← slot_same x y q, g.here) (rw p at (h.once x))
        go true q false p = rw (← slot_same x y q, g.here, times_more x s.order x, slot_refl x, h.once x, p)
        go false q true p = rw (g.stays y q).there (h.once y)
        go false q false p = rw ((g.stays y q).there, times_more y s.order x, slot_sym y x, q) (omega (arith, h.once y))

-- ======== the theorems
-- the set with nothing in it is shaped, and puts keep a set so
pub shaped_none : (t : Texts) → Shaped t no_rows
unfolding times
shaped_none t = record { once = once; free = λ k i. absurd (omega arith); apart = λ j k i. absurd (omega arith) }
  where
    once : (x : Slot) → times x [] ≡ cond (is_present no_rows x) 1 0
    once Id = refl
    once Class = refl
    once (Key k) = rw (le-ltb k 0 (omega arith))

module _ {t : Texts} {s : Rows} (h : Shaped t s) where
  -- the keys' names behind a put of one
  module _ {n : Name} {v : Value} {rs : List Row} {k : ℕ} (r : Rowed t n v s.keys rs k) where
    was : (j : ℕ) → eqb k j ≡ false → j < length rs → j < length s.keys
    was j q i = ltb-true j (length s.keys) (sym (r.long j q) ∙ lt-ltb j (length rs) i)

    same_name : (j : ℕ) → eqb k j ≡ false → j < length rs → name_at t rs j ≡ name_at t s.keys j
    unfolding name_at
    same_name j q i = rw (r.other j q (was j q i))

    free_put : is_free (name_bytes t n) ≡ true → (j : ℕ) → j < length rs → is_free (name_at t rs j) ≡ true
    free_put f j i = go (eqb k j) refl
      where
        go : (b : Bool) → eqb k j ≡ b → is_free (name_at t rs j) ≡ true
        go true q = rw (← eqb-true k j q, r.name) f
        go false q = rw (same_name j q i) (h.free j (was j q i))

    apart_put : (i j : ℕ) → i < length rs → j < length rs → same (name_at t rs i) (name_at t rs j) ≡ true → i ≡ j
    apart_put i j l m e = go (eqb k i) refl (eqb k j) refl
      where
        go : (a : Bool) → eqb k i ≡ a → (b : Bool) → eqb k j ≡ b → i ≡ j
        go true p true q = sym (eqb-true k i p) ∙ eqb-true k j q
        go true p false q = contra _ (rw (← eqb-true k i p, r.name, same_name j q m, same_sym) at e) (r.apart j q (was j q m))
        go false p true q = contra _ (rw (← eqb-true k j q, r.name, same_name i p l) at e) (r.apart i p (was i p l))
        go false p false q = h.apart i j (was i p l) (was j q m) (rw (same_name i p l, same_name j q m) at e)

  pub shaped_put : (p : Put) → is_allowed t p ≡ true → Shaped t (with_put t s p)
  unfolding is_allowed with_put
  shaped_put (Put.ident v) a = record { once = once_put (slotted_ident h v) h; free = h.free; apart = h.apart }
  shaped_put (Put.class v) a = record { once = once_put (slotted_class h v) h; free = h.free; apart = h.apart }
  shaped_put (Put.key n v) a = record { once = once_put (slotted_key h n v a) h; free = free_put (row h n v) a; apart = apart_put (row h n v) }

  -- what one put adds
  pub put-meant : (p : Put) → is_allowed t p ≡ true → meant t (with_put t s p) ≡ put (meant t s) (put_entry t p)
  unfolding is_allowed
  put-meant (Put.ident v) a = meant-put (slotted_ident h v) h
  put-meant (Put.class v) a = meant-put (slotted_class h v) h
  put-meant (Put.key n v) a = meant-put (slotted_key h n v a) h

pub shaped_puts : {t : Texts} {s : Rows} → Shaped t s → (ps : List Put) → all (is_allowed t) ps ≡ true → Shaped t (with_puts t s ps)
unfolding with_puts all
shaped_puts h [] a = h
shaped_puts {t = t} {s = s} h (p ∷ ps) a = let z = both (is_allowed t p) (all (is_allowed t) ps) a in shaped_puts {s = with_put t s p} (shaped_put h p z.0) ps z.1

-- what puts add, one after the other
pub puts-meant : {t : Texts} {s : Rows} → Shaped t s → (ps : List Put) → all (is_allowed t) ps ≡ true → meant t (with_puts t s ps) ≡ puts (meant t s) (map (put_entry t) ps)
unfolding with_puts puts all
puts-meant h [] a = refl
puts-meant {t = t} {s = s} h (p ∷ ps) a =
    let z = both (is_allowed t p) (all (is_allowed t) ps) a in
    puts-meant {s = with_put t s p} (shaped_put h p z.0) ps z.1 ∙ ap (λ m. puts m (map (put_entry t) ps)) (put-meant h p z.0)
