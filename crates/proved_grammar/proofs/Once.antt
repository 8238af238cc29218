-- Each class once: the parts of a meaning, merges of meanings, and that nothing changes where the classes differ.
-- Assumes nothing.
use mathlib.Core.Path.{◌≡◌, refl, sym, ◌∙◌, ap}
use mathlib.Core.Bool.{Bool, true, false, cond, not, ◌&&◌}
use mathlib.Core.List.{List, [], ◌∷◌, ◌++◌}
use Prim.Native.Nat.{ℕ}
use borrow.Author.Tests.{not-true}
use Rattle.base_lists.specs.Lists.{all, same}
use Rattle.base_lists.proofs.Scan.{both}
use Rattle.base_lists.proofs.Same.{same_true}
use Rattle.base_lists.proofs.More.{contra}
use Rattle.block_grammar.specs.Meaning.{Entry, is_class, is_among, unless_there, fresh_after, once_in, classes_once}
use Rattle.block_grammar.proofs.Fresh.{among-append, among_one, there_last, all_member, all_members, fresh_new, kept_joined}
use Rattle.block_grammar.proofs.Once.{once_in_twice, once_twice, once_lookup, once_repeat}
use Rattle.proved_grammar.specs.Meaning.{with_values, put, puts, slot_names, absent, distinct}
use Rattle.proved_grammar.specs.Merged.{joined_meaning, MergeOfMeanings}
use Rattle.proved_grammar.specs.Once.{all_different, classes_differ, OnceChanges, DifferentStay, RepeatedIsNothing}

-- ======== no two are equal
pub fresh_apart : (e xs : List (List ℕ)) → all_different (fresh_after e xs) ≡ true
unfolding fresh_after all_different
fresh_apart e [] = refl
fresh_apart e (x ∷ xs) = go (is_among x e) (fresh_new (e ++ (x ∷ [])) xs x (there_last x e)) (fresh_apart (e ++ (x ∷ [])) xs)
  where
    go : (b : Bool) → is_among x (fresh_after (e ++ (x ∷ [])) xs) ≡ false → all_different (fresh_after (e ++ (x ∷ [])) xs) ≡ true → all_different (unless_there b x (fresh_after (e ++ (x ∷ [])) xs)) ≡ true
    go true p ih = ih
    go false p ih = rw p ih

-- where no two are equal, all are kept
pub apart_fresh : (e xs : List (List ℕ)) → all_different xs ≡ true → all (λ v. not (is_among v e)) xs ≡ true → fresh_after e xs ≡ xs
unfolding fresh_after all_different all
apart_fresh e [] h k = refl
apart_fresh e (x ∷ xs) h k =
    let a = both (not (is_among x xs)) (all_different xs) h in
    let b = both (not (is_among x e)) (all (λ v. not (is_among v e)) xs) k in
    rw (not-true (is_among x e) b.0) (ap (λ l. x ∷ l) (apart_fresh (e ++ (x ∷ [])) xs a.1 (all_members (λ v. not (is_among v (e ++ (x ∷ [])))) xs (λ v m. new v m (not-true (is_among x xs) a.0) (all_member (λ v. not (is_among v e)) v xs b.1 m)))))
  where
    new : (v : List ℕ) → is_among v xs ≡ true → is_among x xs ≡ false → not (is_among v e) ≡ true → not (is_among v (e ++ (x ∷ []))) ≡ true
    new v m n k = rw (among-append v e (x ∷ []), among_one v x, not-true (is_among v e) k) (go (same v x) refl)
      where
        go : (b : Bool) → same v x ≡ b → not b ≡ true
        go true q = contra (is_among x xs) (rw (same_true v x q) at m) n
        go false q = refl

pub apart_kept : (xs : List (List ℕ)) → all_different xs ≡ true → fresh_after [] xs ≡ xs
unfolding is_among
apart_kept xs h = apart_fresh [] xs h (all_members (λ v. not (is_among v [])) xs (λ v m. refl))

-- ======== the slots and their names stay
pub once_slots : (m : List Entry) → slot_names (classes_once m) ≡ slot_names m
unfolding classes_once once_in slot_names
once_slots [] = refl
once_slots (e ∷ m) = ap (λ l. e.name ∷ l) (once_slots m)

pub once_absent : (n : List ℕ) (m : List Entry) → absent n (classes_once m) ≡ absent n m
unfolding classes_once once_in absent all
once_absent n [] = refl
once_absent n (e ∷ m) = rw (once_absent n m)

pub once_distinct : (m : List Entry) → distinct (classes_once m) ≡ distinct m
unfolding classes_once once_in distinct
once_distinct [] = refl
once_distinct (e ∷ m) = rw (once_absent e.name m, once_distinct m)

-- ======== merging
over_once : (f e : Entry) → f.name ≡ e.name → once_in (with_values (once_in f) (once_in e).values) ≡ once_in (with_values f e.values)
unfolding once_in
over_once f e q = ap (λ vs. record { name = f.name; values = vs }) (rw (← q) (go (is_class f.name)))
  where
    go : (b : Bool)
        → cond b (fresh_after [] (cond b (cond b (fresh_after [] f.values) f.values ++ cond b (fresh_after [] e.values) e.values) (cond b (fresh_after [] e.values) e.values))) (cond b (cond b (fresh_after [] f.values) f.values ++ cond b (fresh_after [] e.values) e.values) (cond b (fresh_after [] e.values) e.values))
        ≡ cond b (fresh_after [] (cond b (f.values ++ e.values) e.values)) (cond b (f.values ++ e.values) e.values)
    go true = kept_joined f.values e.values
    go false = refl

put_once : (m : List Entry) (e : Entry) → classes_once (put (classes_once m) (once_in e)) ≡ classes_once (put m e)
unfolding classes_once put once_in
put_once [] e = ap (λ x. x ∷ []) (once_in_twice e)
put_once (f ∷ m) e = go (same f.name e.name) refl (put_once m e)
  where
    go : (x : Bool) → same f.name e.name ≡ x → classes_once (put (classes_once m) (once_in e)) ≡ classes_once (put m e) → classes_once (cond x (with_values (once_in f) (once_in e).values ∷ classes_once m) (once_in f ∷ put (classes_once m) (once_in e))) ≡ classes_once (cond x (with_values f e.values ∷ m) (f ∷ put m e))
    go true q ih = let a = over_once f e (same_true f.name e.name q) in let b = once_twice m in cc
    go false q ih = let a = once_in_twice f in cc

put_left : (m : List Entry) (e : Entry) → classes_once (put (classes_once m) e) ≡ classes_once (put m e)
put_left m e = sym (put_once (classes_once m) e) ∙ (rw (once_twice m) (put_once m e))

put_right : (m : List Entry) (e : Entry) → classes_once (put m (once_in e)) ≡ classes_once (put m e)
put_right m e = sym (put_once m (once_in e)) ∙ (rw (once_in_twice e) (put_once m e))

pub puts_left : (m n : List Entry) → classes_once (puts (classes_once m) n) ≡ classes_once (puts m n)
unfolding puts
puts_left m [] = once_twice m
puts_left m (e ∷ n) = sym (puts_left (put (classes_once m) e) n) ∙ (rw (put_left m e) (puts_left (put m e) n))

pub puts_right : (m n : List Entry) → classes_once (puts m (classes_once n)) ≡ classes_once (puts m n)
unfolding puts classes_once
puts_right m [] = refl
puts_right m (e ∷ n) = puts_right (put m (once_in e)) n ∙ sym (puts_left (put m (once_in e)) n) ∙ (rw (put_right m e) (puts_left (put m e) n))

pub puts_once : (m n : List Entry) → classes_once (puts (classes_once m) (classes_once n)) ≡ classes_once (puts m n)
puts_once m n = puts_left m (classes_once n) ∙ puts_right m n

-- ---- the merge of two meanings
pub joined_once : MergeOfMeanings
unfolding joined_meaning
joined_once m n = puts_once m n

-- ======== where the classes differ, nothing changes
in_apart : (e : Entry) → classes_differ e ≡ true → once_in e ≡ e
unfolding classes_differ once_in
in_apart e = λ h. ap (λ vs. record { name = e.name; values = vs }) (go (is_class e.name) h)
  where
    go : (b : Bool) → cond b (all_different e.values) true ≡ true → cond b (fresh_after [] e.values) e.values ≡ e.values
    go true h = apart_kept e.values h
    go false h = refl

pub once_apart : DifferentStay
unfolding classes_once all
once_apart [] h = refl
once_apart (e ∷ m) h = let g = both (classes_differ e) (all classes_differ m) h in rw (in_apart e g.0, once_apart m g.1)

-- and so they do in what is each once
pub apart_once : (m : List Entry) → all classes_differ (classes_once m) ≡ true
unfolding classes_once once_in classes_differ all
apart_once [] = refl
apart_once (e ∷ m) = go (is_class e.name) (apart_once m)
  where
    go : (b : Bool) → all classes_differ (classes_once m) ≡ true → (cond b (all_different (cond b (fresh_after [] e.values) e.values)) true && all classes_differ (classes_once m)) ≡ true
    go true ih = rw (fresh_apart [] e.values) ih
    go false ih = ih

-- "doesn't count"
pub repeated_nothing : RepeatedIsNothing
repeated_nothing = once_repeat

-- what `classes_once` changes, and what stays
pub once_changes : OnceChanges
once_changes m = record { slots = once_slots m; values = λ n. once_lookup n m; differ = apart_once m; again = once_twice m }
