-- A meaning is given by its slots' names and the values under each name, what an entry that is put does to both, and that slots stay apart.
-- Assumes nothing.
use mathlib.Core.Path.{◌≡◌, refl, sym, ◌∙◌}
use mathlib.Core.Bool.{Bool, true, false, not, ◌&&◌, cond}
use mathlib.Core.List.{List, [], ◌∷◌, ◌++◌, append-nil, foldl-append}
use Prim.Native.Nat.{ℕ}
use borrow.Author.Tests.{not-true}
use Rattle.base_lists.specs.Lists.{all, same}
use Rattle.base_lists.proofs.Scan.{both}
use Rattle.base_lists.proofs.Same.{same_refl, same_true}
use Rattle.base_lists.proofs.More.{contra, same_sym}
use Rattle.block_grammar.specs.Meaning.{Entry, is_class, lookup}
use Rattle.proved_grammar.specs.Meaning.{with_values, put, puts, absent, slot_names, distinct, LastValueStays, OthersStay, WhereFirstMet, MeaningByNames}

-- ======== by names
lookup_absent : (n : List ℕ) (m : List Entry) → absent n m ≡ true → lookup n m ≡ []
unfolding absent all lookup
lookup_absent n [] h = refl
lookup_absent n (e ∷ m) h =
    let g = both (not (same e.name n)) (absent n m) h in
    rw (not-true (same e.name n) g.0) (lookup_absent n m g.1)

heads : (a b : List ℕ) (s t : List (List ℕ)) → a ∷ s ≡ b ∷ t → (a ≡ b) × (s ≡ t)
heads a b s t e = (cc, cc)

pub by_names : MeaningByNames
unfolding distinct slot_names lookup
by_names [] [] h h' s l = refl
by_names [] (f ∷ m') h h' s l = contra true refl (cc)
by_names (e ∷ m) [] h h' s l = contra true refl (cc)
by_names (e ∷ m) (f ∷ m') h h' s l =
    let a = both (absent e.name m) (distinct m) h in
    let b = both (absent f.name m') (distinct m') h' in
    let p = heads e.name f.name (slot_names m) (slot_names m') s in
    let v : e.values ≡ f.values = rw (same_refl e.name) at (rw (← p.0) at (rw (same_refl f.name) at (at_f p))) in
    let q : e ≡ f = λ i. record { name = p.0 i; values = v i } in
    let r = by_names m m' a.1 b.1 p.1 (tails p.0 a.0 b.0) in
    cc
  where
    at_f : (e.name ≡ f.name) × (slot_names m ≡ slot_names m') → cond (same e.name f.name) e.values (lookup f.name m) ≡ cond (same f.name f.name) f.values (lookup f.name m')
    at_f p = l f.name

    tails : e.name ≡ f.name → absent e.name m ≡ true → absent f.name m' ≡ true → (n : List ℕ) → lookup n m ≡ lookup n m'
    tails p a b n = go (same e.name n) refl
      where
        go : (x : Bool) → same e.name n ≡ x → lookup n m ≡ lookup n m'
        go true q = let z = same_true e.name n q in lookup_absent n m (rw z at a) ∙ sym (lookup_absent n m' (rw (← p, z) at b))
        go false q = rw (q, rw p at q) at (l n)

-- ======== what a put does, by names

pub put_same : LastValueStays
unfolding put lookup
put_same [] new = rw (same_refl new.name) (go (is_class new.name))
  where
    go : (x : Bool) → new.values ≡ cond x ([] ++ new.values) new.values
    go true = refl
    go false = refl
put_same (e ∷ m) new = go (same e.name new.name) refl (put_same m new)
  where
    go : (x : Bool) → same e.name new.name ≡ x → lookup new.name (put m new) ≡ cond (is_class new.name) (lookup new.name m ++ new.values) new.values → lookup new.name (cond x (with_values e new.values ∷ m) (e ∷ put m new)) ≡ cond (is_class new.name) (cond x e.values (lookup new.name m) ++ new.values) new.values
    go true p ih = rw (p, same_true e.name new.name p)
    go false p ih = rw p ih

pub put_other : OthersStay
unfolding put lookup
put_other [] new n h = rw h
put_other (e ∷ m) new n h = go (same e.name new.name) refl (put_other m new n h)
  where
    go : (x : Bool) → same e.name new.name ≡ x → lookup n (put m new) ≡ lookup n m → lookup n (cond x (with_values e new.values ∷ m) (e ∷ put m new)) ≡ cond (same e.name n) e.values (lookup n m)
    go true p ih = rw (same_true e.name new.name p, h)
    go false p ih = rw ih

pub put_slots : WhereFirstMet
unfolding put slot_names absent all
put_slots [] new = refl
put_slots (e ∷ m) new = go (same e.name new.name) (put_slots m new)
  where
    go : (x : Bool) → slot_names (put m new) ≡ slot_names m ++ cond (absent new.name m) (new.name ∷ []) [] → slot_names (cond x (with_values e new.values ∷ m) (e ∷ put m new)) ≡ e.name ∷ (slot_names m ++ cond (not x && absent new.name m) (new.name ∷ []) [])
    go true ih = rw append-nil
    go false ih = rw ih

-- a new name goes behind
pub put_new : (m : List Entry) (new : Entry) → absent new.name m ≡ true → put m new ≡ m ++ (new ∷ [])
unfolding put absent all
put_new [] new h = refl
put_new (e ∷ m) new h =
    let g = both (not (same e.name new.name)) (absent new.name m) h in
    rw (not-true (same e.name new.name) g.0, put_new m new g.1)

-- ======== slots stay apart
pub absent-put : (n : List ℕ) (m : List Entry) (e : Entry) → absent n m ≡ true → same e.name n ≡ false → absent n (put m e) ≡ true
unfolding absent all put
absent-put n [] e h k = rw k
absent-put n (f ∷ m) e h k =
    let g = both (not (same f.name n)) (absent n m) h in
    go (same f.name e.name) g.0 g.1 (absent-put n m e g.1 k)
  where
    go : (x : Bool) → not (same f.name n) ≡ true → absent n m ≡ true → absent n (put m e) ≡ true → absent n (cond x (with_values f e.values ∷ m) (f ∷ put m e)) ≡ true
    go true a b i = rw a b
    go false a b i = rw a i

pub put-distinct : (m : List Entry) (e : Entry) → distinct m ≡ true → distinct (put m e) ≡ true
unfolding distinct put absent all
put-distinct [] e h = refl
put-distinct (f ∷ m) e h =
    let a = both (absent f.name m) (distinct m) h in
    go (same f.name e.name) refl a.0 a.1 (put-distinct m e a.1)
  where
    go : (x : Bool) → same f.name e.name ≡ x → absent f.name m ≡ true → distinct m ≡ true → distinct (put m e) ≡ true → distinct (cond x (with_values f e.values ∷ m) (f ∷ put m e)) ≡ true
    go true p q w i = rw q w
    go false p q w i = rw (absent-put f.name m e q (same_sym e.name f.name ∙ p)) i

-- ======== sets put together
pub puts-append : (m es fs : List Entry) → puts m (es ++ fs) ≡ puts (puts m es) fs
unfolding puts
puts-append = foldl-append put

pub put_some : (m : List Entry) (e : Entry) → put m e ≡ [] → ⊥
unfolding put
put_some [] e q = contra true refl (cc)
put_some (f ∷ m) e q = go (same f.name e.name) q
  where
    go : (x : Bool) → cond x (with_values f e.values ∷ m) (f ∷ put m e) ≡ [] → ⊥
    go true q = contra true refl (cc)
    go false q = contra true refl (cc)
