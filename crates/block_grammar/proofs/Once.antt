-- The laws of `classes_once`: each class once in a meaning.
-- Assumes nothing.
use mathlib.Core.Path.{◌≡◌, refl, ap}
use mathlib.Core.Bool.{Bool, true, false, cond}
use mathlib.Core.List.{List, [], ◌∷◌, ◌++◌}
use Prim.Native.Nat.{ℕ}
use Rattle.base_lists.specs.Lists.{same}
use Rattle.base_lists.proofs.Same.{same_true}
use Rattle.base_lists.proofs.More.{contra}
use Rattle.block_grammar.specs.Meaning.{Entry, is_class, class_name, lookup, is_among, fresh_after, once_in, classes_once}
use Rattle.block_grammar.proofs.Fresh.{kept_twice, kept_repeat}

-- ======== twice is once
pub once_in_twice : (e : Entry) → once_in (once_in e) ≡ once_in e
unfolding once_in
once_in_twice e = ap (λ vs. record { name = e.name; values = vs }) (go (is_class e.name))
  where
    go : (b : Bool) → cond b (fresh_after [] (cond b (fresh_after [] e.values) e.values)) (cond b (fresh_after [] e.values) e.values) ≡ cond b (fresh_after [] e.values) e.values
    go true = kept_twice e.values
    go false = refl

pub once_twice : (m : List Entry) → classes_once (classes_once m) ≡ classes_once m
unfolding classes_once
once_twice [] = refl
once_twice (e ∷ m) = rw (once_in_twice e, once_twice m)

-- ======== by names
pub once_empty : (m : List Entry) → classes_once m ≡ [] → m ≡ []
unfolding classes_once
once_empty [] h = refl
once_empty (e ∷ m) h = contra true refl (cc)

-- the values under a name: the classes each once, any other as they are
pub once_lookup : (n : List ℕ) (m : List Entry) → lookup n (classes_once m) ≡ cond (is_class n) (fresh_after [] (lookup n m)) (lookup n m)
unfolding classes_once once_in lookup fresh_after
once_lookup n [] = go (is_class n)
  where
    go : (b : Bool) → ◌≡◌ {A = List (List ℕ)} [] (cond b [] [])
    go true = refl
    go false = refl
once_lookup n (e ∷ m) = go (same e.name n) refl (once_lookup n m)
  where
    go : (x : Bool) → same e.name n ≡ x → lookup n (classes_once m) ≡ cond (is_class n) (fresh_after [] (lookup n m)) (lookup n m)
        → cond x (cond (is_class e.name) (fresh_after [] e.values) e.values) (lookup n (classes_once m)) ≡ cond (is_class n) (fresh_after [] (cond x e.values (lookup n m))) (cond x e.values (lookup n m))
    go true q ih = rw (same_true e.name n q)
    go false q ih = ih

-- ======== a repeated class may as well be left out
pub once_repeat : (m : List Entry) (us : List (List ℕ)) (v : List ℕ) (ws : List (List ℕ)) (n : List Entry) → is_among v us ≡ true
    → classes_once (m ++ (record { name = class_name; values = us ++ (v ∷ ws) } ∷ n)) ≡ classes_once (m ++ (record { name = class_name; values = us ++ ws } ∷ n))
unfolding classes_once once_in is_class same
once_repeat [] us v ws n h = rw (kept_repeat us v ws h)
once_repeat (e ∷ m) us v ws n h = ap (λ l. once_in e ∷ l) (once_repeat m us v ws n h)
