-- A line of blocks is a merge: its meaning is that of its blocks, merged left to right; and merging is associative.
-- Assumes nothing.
use mathlib.Core.Path.{◌≡◌, refl, sym, ◌∙◌, ap}
use mathlib.Core.Bool.{Bool, true, false, cond, not, ◌&&◌}
use mathlib.Core.List.{List, [], ◌∷◌, ◌++◌, append_assoc, map, map-append, foldl}
use Prim.Native.Nat.{ℕ}
use borrow.Author.Tests.{not-true}
use Rattle.base_lists.specs.Lists.{all, same}
use Rattle.base_lists.proofs.Scan.{both}
use Rattle.base_lists.proofs.Same.{same_refl, same_true}
use Rattle.base_lists.proofs.More.{contra}
use Rattle.base_bytes.specs.declared.Mode.{Mode}
use Rattle.block_grammar.specs.Grammar.{Placed}
use Rattle.block_grammar.specs.Meaning.{Entry, is_class, classes_once}
use Rattle.proved_grammar.specs.Meaning.{with_values, put, puts, said, entries_of, listed, meaning, absent, distinct, SlotsOnce}
use Rattle.block_chain.specs.Chain.{Blocks}
use Rattle.proved_grammar.specs.Merged.{joined_meaning, merged, block_items, LineMerges, MeaningAppends, MergeAssociates}
use Rattle.proved_grammar.proofs.Views.{puts-append, put-distinct}
use Rattle.proved_grammar.proofs.Once.{once_distinct, puts_left, puts_right, puts_once}

-- ======== puts by name

-- a name that was put is there, and stays
put_there : (m : List Entry) (e : Entry) → absent e.name (put m e) ≡ false
unfolding absent all put
put_there [] e = rw (same_refl e.name)
put_there (g ∷ m) e = go (same g.name e.name) refl (put_there m e)
  where
    go : (x : Bool) → same g.name e.name ≡ x → absent e.name (put m e) ≡ false → absent e.name (cond x (with_values g e.values ∷ m) (g ∷ put m e)) ≡ false
    go true p ih = rw p
    go false p ih = rw (p, ih)

there_put : (n : List ℕ) (m : List Entry) (f : Entry) → absent n m ≡ false → absent n (put m f) ≡ false
unfolding absent all put
there_put n [] f h = contra true refl h
there_put n (g ∷ m) f h = go (same g.name f.name) (same g.name n) refl h (there_put n m f)
  where
    go : (x y : Bool) → same g.name n ≡ y → (not y && absent n m) ≡ false → (absent n m ≡ false → absent n (put m f) ≡ false) → absent n (cond x (with_values g f.values ∷ m) (g ∷ put m f)) ≡ false
    go true y p h ih = rw p h
    go false true p h ih = rw p
    go false false p h ih = rw p (ih h)

-- two puts under one name are one
put_twice : (m : List Entry) (f e : Entry) → same f.name e.name ≡ true → put (put m f) e ≡ put m (with_values f e.values)
unfolding put
put_twice [] f e h = rw h
put_twice (g ∷ m) f e h = go (same g.name f.name) refl (put_twice m f e h)
  where
    joins : (x : Bool) → cond x (cond x (g.values ++ f.values) f.values ++ e.values) e.values ≡ cond x (g.values ++ cond x (f.values ++ e.values) e.values) (cond x (f.values ++ e.values) e.values)
    joins true = append_assoc g.values f.values e.values
    joins false = refl

    go : (x : Bool) → same g.name f.name ≡ x → put (put m f) e ≡ put m (with_values f e.values) → put (cond x (with_values g f.values ∷ m) (g ∷ put m f)) e ≡ cond x (with_values g (with_values f e.values).values ∷ m) (g ∷ put m (with_values f e.values))
    go true p ih =
        let z = same_true g.name f.name p in
        let q : same g.name e.name ≡ true = rw z h in
        let v : (with_values (with_values g f.values) e.values).values ≡ (with_values g (with_values f e.values).values).values = rw (← z) (joins (is_class g.name)) in
        rw q (ap (λ u. record { name = g.name; values = u } ∷ m) v)
    go false p ih = let q : same g.name e.name ≡ false = rw (← same_true f.name e.name h) p in rw (q, ih)

-- puts under different names change places, if the later one's slot is there
swap : (m : List Entry) (f e : Entry) → same f.name e.name ≡ false → absent e.name m ≡ false → put (put m f) e ≡ put (put m e) f
unfolding put absent all
swap [] f e h k = contra true refl k
swap (g ∷ m) f e h k = go (same g.name f.name) (same g.name e.name) refl refl k (swap m f e h)
  where
    go : (x y : Bool) → same g.name f.name ≡ x → same g.name e.name ≡ y → (not y && absent e.name m) ≡ false → (absent e.name m ≡ false → put (put m f) e ≡ put (put m e) f) → put (cond x (with_values g f.values ∷ m) (g ∷ put m f)) e ≡ put (cond y (with_values g e.values ∷ m) (g ∷ put m e)) f
    go true true p q k ih = contra (same f.name e.name) (rw (same_true g.name f.name p) at q) h
    go true false p q k ih = rw (q, p)
    go false true p q k ih = rw (q, p)
    go false false p q k ih = rw (q, p, ih k)

later : (m a : List Entry) (e : Entry) → absent e.name a ≡ true → absent e.name m ≡ false → put (puts m a) e ≡ puts (put m e) a
unfolding puts absent all
later m [] e h k = refl
later m (f ∷ a) e h k =
    let g = both (not (same f.name e.name)) (absent e.name a) h in
    later (put m f) a e g.1 (there_put e.name m f k) ∙ (rw (swap m f e (not-true (same f.name e.name) g.0) k))

-- ======== merging is associative

-- one entry put into the second set, or into both
put-puts : (m a : List Entry) (e : Entry) → distinct a ≡ true → puts m (put a e) ≡ put (puts m a) e
unfolding puts put distinct
put-puts m [] e h = refl
put-puts m (f ∷ a) e h =
    let g = both (absent f.name a) (distinct a) h in
    go (same f.name e.name) refl g.0 (put-puts (put m f) a e g.1)
  where
    go : (x : Bool) → same f.name e.name ≡ x → absent f.name a ≡ true → puts (put m f) (put a e) ≡ put (puts (put m f) a) e → puts m (cond x (with_values f e.values ∷ a) (f ∷ put a e)) ≡ put (puts (put m f) a) e
    go false p q ih = ih
    go true p q ih =
        let z = same_true f.name e.name p in
        sym (later (put m f) a e (rw z at q) (ap (λ n. absent n (put m f)) (sym z) ∙ put_there m f) ∙ (rw (put_twice m f e p)))

pub put_associative : (m a b : List Entry) → distinct a ≡ true → puts (puts m a) b ≡ puts m (puts a b)
unfolding puts
put_associative m a [] h = refl
put_associative m a (e ∷ b) h = rw (← put-puts m a e h) (put_associative m (put a e) b (put-distinct a e h))

pub associative : MergeAssociates
unfolding joined_meaning
associative m a b h = puts_left (puts m a) b ∙ ap classes_once (put_associative m a b h) ∙ sym (puts_right m (puts a b))

-- ======== the meaning of a line
puts-distinct : (m es : List Entry) → distinct m ≡ true → distinct (puts m es) ≡ true
unfolding puts
puts-distinct m [] h = h
puts-distinct m (e ∷ es) h = puts-distinct (put m e) es (put-distinct m e h)

pub listed-distinct : (is : List Placed) → distinct (listed is) ≡ true
unfolding listed distinct
listed-distinct is = puts-distinct [] (entries_of is) refl

pub meaning-distinct : SlotsOnce
unfolding meaning
meaning-distinct is = once_distinct (listed is) ∙ listed-distinct is

entries_append : (is js : List Placed) → entries_of (is ++ js) ≡ entries_of is ++ entries_of js
unfolding entries_of
entries_append is js = map-append (λ p. said p.item) is js

-- putting what a set lists is putting what its items say
put-listed : (m : List Entry) (is : List Placed) → puts m (listed is) ≡ puts m (entries_of is)
unfolding listed puts distinct
put-listed m is = sym (put_associative m [] (entries_of is) refl)

listed-append : (is js : List Placed) → listed (is ++ js) ≡ puts (listed is) (listed js)
unfolding listed
listed-append is js = rw (entries_append is js, puts-append [] (entries_of is) (entries_of js)) (sym (put-listed (listed is) js))

pub meaning-append : MeaningAppends
unfolding meaning joined_meaning
meaning-append is js = rw (listed-append is js) (sym (puts_once (listed is) (listed js)))

-- ======== "merged left to right"
merges : {m : Mode} {at : ℕ} {s : List ℕ} {is : List Placed} (p : Blocks m at s is) (x : List Entry) → foldl joined_meaning x (map meaning (block_items p)) ≡ joined_meaning x (meaning is)
merges (Blocks.one b) x = refl
merges (Blocks.more {is = is} {js = js} b p) x = merges p (joined_meaning x (meaning is)) ∙ associative x (meaning is) (meaning js) (meaning-distinct is) ∙ ap (joined_meaning x) (sym (meaning-append is js))

-- what is put into nothing stays
alone : (is : List Placed) → joined_meaning [] (meaning is) ≡ meaning is
unfolding joined_meaning meaning listed
alone is = puts_right [] (listed is) ∙ ap classes_once (put-listed [] is)

pub line_merges : {m : Mode} {at : ℕ} {s : List ℕ} {is : List Placed} → LineMerges m at s is
unfolding merged
line_merges {is = is} p = sym (merges p [] ∙ alone is)
