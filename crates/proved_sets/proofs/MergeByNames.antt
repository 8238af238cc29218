-- What putting one meaning into another does, by names.
-- Assumes nothing.
use mathlib.Core.Path.{◌≡◌, refl, ◌∙◌}
use mathlib.Core.Bool.{Bool, true, false, cond, not, ◌&&◌}
use mathlib.Core.List.{List, [], ◌∷◌, ◌++◌, append-nil, append_assoc}
use Prim.Native.Nat.{ℕ}
use borrow.Author.Tests.{not-true}
use Rattle.base_lists.specs.Lists.{all, same}
use Rattle.base_lists.proofs.Scan.{both}
use Rattle.base_lists.proofs.Same.{same_true}
use Rattle.base_lists.proofs.More.{same_sym}
use Rattle.block_grammar.specs.Meaning.{Entry, class_name, is_class, lookup}
use Rattle.proved_grammar.specs.Meaning.{with_values, put, puts, absent, slot_names, distinct}
use Rattle.proved_grammar.proofs.Views.{put_same, put_other, put_slots, put_new}
use Rattle.proved_sets.specs.Merged.{new_slots}
use Rattle.proved_sets.proofs.CanonPuts.{strange, strange_append, nothing_strange}

-- ---- the values under a name
abbrev pub values_merged : List ℕ → List Entry → List Entry → List (List ℕ)
values_merged n m es = cond (absent n es) (lookup n m) (cond (is_class n) (lookup n m ++ lookup n es) (lookup n es))

pub puts-lookup : (n : List ℕ) (es m : List Entry) → distinct es ≡ true → lookup n (puts m es) ≡ values_merged n m es
unfolding puts absent all lookup distinct
puts-lookup n [] m d = refl
puts-lookup n (e ∷ es) m d =
    let z = both (absent e.name es) (distinct es) d in
    puts-lookup n es (put m e) z.1 ∙ go (same e.name n) refl z.0
  where
    go : (x : Bool) → same e.name n ≡ x → absent e.name es ≡ true
        → values_merged n (put m e) es ≡ cond (not x && absent n es) (lookup n m) (cond (is_class n) (lookup n m ++ cond x e.values (lookup n es)) (cond x e.values (lookup n es)))
    go true q a = let s = same_true e.name n q in rw (rw s at a, ← s) (put_same m e)
    go false q a = rw (put_other m e n q)

lookup_absent : (n : List ℕ) (m : List Entry) → absent n m ≡ true → lookup n m ≡ []
unfolding absent all lookup
lookup_absent n [] h = refl
lookup_absent n (e ∷ m) h =
    let z = both (not (same e.name n)) (absent n m) h in
    rw (not-true (same e.name n) z.0) (lookup_absent n m z.1)

pub merged_classes : (m es : List Entry) → values_merged class_name m es ≡ lookup class_name m ++ lookup class_name es
unfolding is_class same
merged_classes m es = go (absent class_name es) refl
  where
    go : (x : Bool) → absent class_name es ≡ x → cond x (lookup class_name m) (lookup class_name m ++ lookup class_name es) ≡ lookup class_name m ++ lookup class_name es
    go true q = rw (lookup_absent class_name es q, append-nil)
    go false q = refl

-- ---- the slots: new ones go behind, in their order
absent_other : (n : List ℕ) (m : List Entry) (e : Entry) → same e.name n ≡ false → absent n (put m e) ≡ absent n m
unfolding absent all put
absent_other n [] e h = rw h
absent_other n (f ∷ m) e h = go (same f.name e.name) refl (absent_other n m e h)
  where
    go : (x : Bool) → same f.name e.name ≡ x → absent n (put m e) ≡ absent n m → absent n (cond x (with_values f e.values ∷ m) (f ∷ put m e)) ≡ (not (same f.name n) && absent n m)
    go true q ih = refl
    go false q ih = rw ih

new_other : (m : List Entry) (e : Entry) (es : List Entry) → absent e.name es ≡ true → new_slots (put m e) es ≡ new_slots m es
unfolding new_slots absent all
new_other m e [] h = refl
new_other m e (f ∷ es) h =
    let z = both (not (same f.name e.name)) (absent e.name es) h in
    rw (absent_other f.name m e (same_sym e.name f.name ∙ not-true (same f.name e.name) z.0), new_other m e es z.1)

pub puts_slots : (es m : List Entry) → distinct es ≡ true → slot_names (puts m es) ≡ slot_names m ++ new_slots m es
unfolding puts new_slots distinct
puts_slots [] m d = rw append-nil
puts_slots (e ∷ es) m d =
    let z = both (absent e.name es) (distinct es) d in
    puts_slots es (put m e) z.1 ∙ (rw (put_slots m e, new_other m e es z.0) (go (absent e.name m)))
  where
    go : (x : Bool) → (slot_names m ++ cond x (e.name ∷ []) []) ++ new_slots m es ≡ slot_names m ++ cond x (e.name ∷ new_slots m es) (new_slots m es)
    go true = rw append_assoc
    go false = rw append-nil

-- ---- into a set with nothing in it
puts-behind : (es m : List Entry) → distinct es ≡ true → strange m es ≡ true → puts m es ≡ m ++ es
unfolding puts distinct strange
puts-behind [] m d a = rw append-nil
puts-behind (e ∷ es) m d a =
    let z = both (absent e.name es) (distinct es) d in
    let y = both (absent e.name m) (strange m es) a in
    rw (put_new m e y.0) (puts-behind es (m ++ (e ∷ [])) z.1 (strange_append m es e y.1 z.0) ∙ (rw append_assoc))

pub puts_none : (es : List Entry) → distinct es ≡ true → puts [] es ≡ es
puts_none es d = puts-behind es [] d (nothing_strange es)
