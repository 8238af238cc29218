-- What `wf` says of a meaning, taken apart and put together.
-- Assumes nothing.
use mathlib.Core.Path.{◌≡◌, refl}
use mathlib.Core.Bool.{Bool, true, false, ◌&&◌}
use mathlib.Core.List.{List, [], ◌∷◌}
use Prim.Native.Nat.{ℕ}
use Rattle.base_lists.specs.Lists.{all, is_some}
use Rattle.base_lists.proofs.Scan.{both}
use Rattle.text_names.specs.Names.{is_key}
use Rattle.block_grammar.specs.Meaning.{Entry, is_class}
use Rattle.proved_grammar.specs.Meaning.{absent, distinct}
use Rattle.block_grammar.specs.Close.{no_lf}
use Rattle.set_canon.specs.Canon.{is_class_value}
use Rattle.proved_sets.specs.Formed.{is_one, values_ok, entry_ok, wf}

-- ---- one entry
pub record Okay (n : List ℕ) (vs : List (List ℕ)) : Type 0 where
  pub key : is_key n ≡ true
  pub flat : all no_lf vs ≡ true
  pub shape : values_ok n vs ≡ true

pub okay : (e : Entry) → entry_ok e ≡ true → Okay e.name e.values
unfolding entry_ok
okay e h =
    let a = both (is_key e.name) (all no_lf e.values && values_ok e.name e.values) h in
    let b = both (all no_lf e.values) (values_ok e.name e.values) a.1 in
    record { key = a.0; flat = b.0; shape = b.1 }

pub entry_ok_lem : (e : Entry) → Okay e.name e.values → entry_ok e ≡ true
unfolding entry_ok
entry_ok_lem e o = rw (o.key, o.flat) o.shape

module _ {n : List ℕ} {vs : List (List ℕ)} (o : Okay n vs) where
  -- classes are some, and each is whole; anything else is one value
  pub classes_some : is_class n ≡ true → (is_some vs ≡ true) × (all is_class_value vs ≡ true)
  unfolding values_ok
  classes_some c = both (is_some vs) (all is_class_value vs) (rw c at o.shape)

  pub one_value : is_class n ≡ false → is_one vs ≡ true
  unfolding values_ok
  one_value c = rw c at o.shape

  pub some_value : is_some vs ≡ true
  some_value = go (is_class n) refl
    where
      one : (vs : List (List ℕ)) → is_one vs ≡ true → is_some vs ≡ true
      one [] h = h
      one (v ∷ vs) h = refl

      go : (x : Bool) → is_class n ≡ x → is_some vs ≡ true
      go true c = (classes_some c).0
      go false c = one vs (one_value c)

pub classes_ok : (n : List ℕ) (vs : List (List ℕ)) → is_class n ≡ true → is_some vs ≡ true → all is_class_value vs ≡ true → values_ok n vs ≡ true
unfolding values_ok
classes_ok n vs c s w = rw (c, s) w

pub value_ok_lem : (n v : List ℕ) → is_class n ≡ false → values_ok n (v ∷ []) ≡ true
unfolding values_ok
value_ok_lem n v c = rw c

-- ---- a meaning
pub record Sound (e : Entry) (m : List Entry) : Type 0 where
  pub head : entry_ok e ≡ true
  pub new : absent e.name m ≡ true
  pub tail : wf m ≡ true

pub split_wf : (e : Entry) (m : List Entry) → wf (e ∷ m) ≡ true → Sound e m
unfolding wf all distinct
split_wf e m h =
    let a = both (entry_ok e && all entry_ok m) (absent e.name m && distinct m) h in
    let b = both (entry_ok e) (all entry_ok m) a.0 in
    let c = both (absent e.name m) (distinct m) a.1 in
    record { head = b.0; new = c.0; tail = rw (b.1, c.1) }

pub joined : (m : List Entry) → all entry_ok m ≡ true → distinct m ≡ true → wf m ≡ true
unfolding wf
joined m h k = rw (h, k)
