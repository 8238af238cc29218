-- The laws of `fresh_after`: those of a list that equal none before them.
-- Assumes nothing.
use mathlib.Core.Path.{◌≡◌, refl, sym, ◌∙◌, ap}
use mathlib.Core.Bool.{Bool, true, false, not, ◌||◌}
use mathlib.Core.List.{List, [], ◌∷◌, ◌++◌, append-nil, append_assoc}
use Prim.Native.Nat.{ℕ, suc, ◌≤◌}
use native.Mathlib.Omega.{arith}
use lib.ListN.{length}
use Rattle.base_lists.specs.Lists.{all, same, is_some}
use Rattle.base_lists.proofs.Scan.{both}
use Rattle.base_lists.proofs.Same.{same_refl, same_true}
use Rattle.base_lists.proofs.More.{contra, or_left, or_right}
use Rattle.block_grammar.specs.Meaning.{is_among, unless_there, fresh_after}

-- ======== members
pub among-append : (v : List ℕ) (xs ys : List (List ℕ)) → is_among v (xs ++ ys) ≡ (is_among v xs || is_among v ys)
unfolding is_among
among-append v [] ys = refl
among-append v (x ∷ xs) ys = go (same v x) (among-append v xs ys)
  where
    go : (b : Bool) → is_among v (xs ++ ys) ≡ (is_among v xs || is_among v ys) → (b || is_among v (xs ++ ys)) ≡ ((b || is_among v xs) || is_among v ys)
    go true ih = refl
    go false ih = ih

pub among_one : (v w : List ℕ) → is_among v (w ∷ []) ≡ same v w
unfolding is_among
among_one v w = go (same v w)
  where
    go : (b : Bool) → (b || false) ≡ b
    go true = refl
    go false = refl

-- two lists with the same members
pub record SameMembers (xs ys : List (List ℕ)) : Type 0 where
  pub each : (v : List ℕ) → is_among v xs ≡ is_among v ys

pub alike_append : {xs xs' ys ys' : List (List ℕ)} → SameMembers xs xs' → SameMembers ys ys' → SameMembers (xs ++ ys) (xs' ++ ys')
alike_append {xs} {xs'} {ys} {ys'} p q = record { each = λ v. among-append v xs ys ∙ (rw (p.each v, q.each v) (sym (among-append v xs' ys'))) }

pub alike_refl : (xs : List (List ℕ)) → SameMembers xs xs
alike_refl xs = record { each = λ v. refl }

pub alike_sym : {xs ys : List (List ℕ)} → SameMembers xs ys → SameMembers ys xs
alike_sym p = record { each = λ v. sym (p.each v) }

pub alike_trans : {xs ys zs : List (List ℕ)} → SameMembers xs ys → SameMembers ys zs → SameMembers xs zs
alike_trans p q = record { each = λ v. p.each v ∙ q.each v }

among_equal : (v w : List ℕ) (xs : List (List ℕ)) → same v w ≡ true → is_among w xs ≡ true → is_among v xs ≡ true
among_equal v w xs s h = rw (same_true v w s) h

-- one that is there adds nothing
pub there_alike : (v : List ℕ) (e : List (List ℕ)) → is_among v e ≡ true → SameMembers (e ++ (v ∷ [])) e
there_alike v e h = record { each = λ w. among-append w e (v ∷ []) ∙ (rw (among_one w v) (go w (is_among w e) refl (same w v) refl)) }
  where
    go : (w : List ℕ) (a : Bool) → is_among w e ≡ a → (b : Bool) → same w v ≡ b → (a || b) ≡ a
    go w true p b q = refl
    go w false p true q = contra (is_among w e) (among_equal w v e q h) p
    go w false p false q = refl

-- what is put behind is there
pub there_last : (v : List ℕ) (e : List (List ℕ)) → is_among v (e ++ (v ∷ [])) ≡ true
there_last v e = among-append v e (v ∷ []) ∙ (rw (among_one v v, same_refl v) (or_right (is_among v e) true refl))

pub there_longer : (v : List ℕ) (e xs : List (List ℕ)) → is_among v e ≡ true → is_among v (e ++ xs) ≡ true
there_longer v e xs h = among-append v e xs ∙ or_left (is_among v e) (is_among v xs) h

-- a test that passes at each passes at a member, and the other way round
pub all_member : (f : List ℕ → Bool) (v : List ℕ) (xs : List (List ℕ)) → all f xs ≡ true → is_among v xs ≡ true → f v ≡ true
unfolding all is_among
all_member f v [] h m = contra false m refl
all_member f v (x ∷ xs) h m = let g = both (f x) (all f xs) h in go (same v x) refl m g.0 (all_member f v xs g.1)
  where
    go : (b : Bool) → same v x ≡ b → (b || is_among v xs) ≡ true → f x ≡ true → (is_among v xs ≡ true → f v ≡ true) → f v ≡ true
    go true q m h ih = rw (same_true v x q) h
    go false q m h ih = ih m

pub all_members : (f : List ℕ → Bool) (xs : List (List ℕ)) → ((v : List ℕ) → is_among v xs ≡ true → f v ≡ true) → all f xs ≡ true
unfolding all is_among
all_members f [] h = refl
all_members f (x ∷ xs) h = rw (h x (rw (same_refl x))) (all_members f xs (λ v m. h v (or_right (same v x) (is_among v xs) m)))

-- what was listed before counts by its members only
pub fresh_alike : {e e' : List (List ℕ)} → SameMembers e e' → (xs : List (List ℕ)) → fresh_after e xs ≡ fresh_after e' xs
unfolding fresh_after
fresh_alike p [] = refl
fresh_alike p (x ∷ xs) = rw (p.each x, fresh_alike (alike_append p (alike_refl (x ∷ []))) xs)

-- ======== over `++`
pub fresh-append : (e xs ys : List (List ℕ)) → fresh_after e (xs ++ ys) ≡ fresh_after e xs ++ fresh_after (e ++ xs) ys
unfolding fresh_after
fresh-append e [] ys = rw append-nil
fresh-append e (x ∷ xs) ys = go (is_among x e) (fresh-append (e ++ (x ∷ [])) xs ys ∙ (rw append_assoc))
  where
    go : (b : Bool) → fresh_after (e ++ (x ∷ [])) (xs ++ ys) ≡ fresh_after (e ++ (x ∷ [])) xs ++ fresh_after (e ++ (x ∷ xs)) ys
        → unless_there b x (fresh_after (e ++ (x ∷ [])) (xs ++ ys)) ≡ unless_there b x (fresh_after (e ++ (x ∷ [])) xs) ++ fresh_after (e ++ (x ∷ xs)) ys
    go true ih = ih
    go false ih = ap (λ l. x ∷ l) ih

-- ======== what is among the kept ones

-- what stood before or is kept is what stood before or is listed
pub fresh-among : (e xs : List (List ℕ)) → SameMembers (e ++ fresh_after e xs) (e ++ xs)
unfolding fresh_after
fresh-among e [] = alike_refl (e ++ [])
fresh-among e (x ∷ xs) = go (is_among x e) refl (rw (append_assoc e (x ∷ []) xs) at (fresh-among (e ++ (x ∷ [])) xs))
  where
    go : (b : Bool) → is_among x e ≡ b → SameMembers ((e ++ (x ∷ [])) ++ fresh_after (e ++ (x ∷ [])) xs) (e ++ (x ∷ xs)) → SameMembers (e ++ unless_there b x (fresh_after (e ++ (x ∷ [])) xs)) (e ++ (x ∷ xs))
    go false q ih = rw (append_assoc e (x ∷ []) (fresh_after (e ++ (x ∷ [])) xs)) at ih
    go true q ih = alike_trans (alike_append (alike_sym (there_alike x e q)) (alike_refl (fresh_after (e ++ (x ∷ [])) xs))) ih

pub kept_alike : (xs : List (List ℕ)) → SameMembers (fresh_after [] xs) xs
kept_alike xs = fresh-among [] xs

-- none that stood before is kept
pub fresh_new : (e xs : List (List ℕ)) (v : List ℕ) → is_among v e ≡ true → is_among v (fresh_after e xs) ≡ false
unfolding fresh_after is_among
fresh_new e [] v h = refl
fresh_new e (x ∷ xs) v h = go (is_among x e) refl (same v x) refl (fresh_new (e ++ (x ∷ [])) xs v (there_longer v e (x ∷ []) h))
  where
    go : (b : Bool) → is_among x e ≡ b → (c : Bool) → same v x ≡ c → is_among v (fresh_after (e ++ (x ∷ [])) xs) ≡ false → is_among v (unless_there b x (fresh_after (e ++ (x ∷ [])) xs)) ≡ false
    go true p c q ih = ih
    go false p true q ih = contra (is_among x e) (rw (same_true v x q) at h) p
    go false p false q ih = rw q ih

pub fresh_none : (e xs : List (List ℕ)) → all (λ v. not (is_among v e)) (fresh_after e xs) ≡ true
fresh_none e xs = all_members (λ v. not (is_among v e)) (fresh_after e xs) (λ v m. go v m (is_among v e) refl)
  where
    go : (v : List ℕ) → is_among v (fresh_after e xs) ≡ true → (b : Bool) → is_among v e ≡ b → not b ≡ true
    go v m true q = contra (is_among v (fresh_after e xs)) m (fresh_new e xs v q)
    go v m false q = refl

-- each test that passes at all passes at the kept ones
pub fresh-all : (f : List ℕ → Bool) (e xs : List (List ℕ)) → all f xs ≡ true → all f (fresh_after e xs) ≡ true
unfolding fresh_after all
fresh-all f e [] h = refl
fresh-all f e (x ∷ xs) h = let g = both (f x) (all f xs) h in go (is_among x e) g.0 (fresh-all f (e ++ (x ∷ [])) xs g.1)
  where
    go : (b : Bool) → f x ≡ true → all f (fresh_after (e ++ (x ∷ [])) xs) ≡ true → all f (unless_there b x (fresh_after (e ++ (x ∷ [])) xs)) ≡ true
    go true p ih = ih
    go false p ih = rw p ih

-- something is left of something
pub kept_some : (xs : List (List ℕ)) → is_some (fresh_after [] xs) ≡ is_some xs
unfolding fresh_after is_among
kept_some [] = refl
kept_some (x ∷ xs) = refl

pub fresh-length : (e xs : List (List ℕ)) → length (fresh_after e xs) ≤ length xs
unfolding fresh_after
fresh-length e [] = omega arith
fresh-length e (x ∷ xs) = go (is_among x e) (fresh-length (e ++ (x ∷ [])) xs)
  where
    go : (b : Bool) → length (fresh_after (e ++ (x ∷ [])) xs) ≤ length xs → length (unless_there b x (fresh_after (e ++ (x ∷ [])) xs)) ≤ suc (length xs)
    go true ih = omega arith
    go false ih = omega arith

-- ======== twice is once

-- kept behind d, and of these kept behind e: kept behind both
pub fresh-fresh : (e d xs : List (List ℕ)) → fresh_after e (fresh_after d xs) ≡ fresh_after (d ++ e) xs
unfolding fresh_after
fresh-fresh e d [] = refl
fresh-fresh e d (x ∷ xs) = rw (among-append x d e) (go (is_among x d) refl (is_among x e) refl (λ e'. fresh-fresh e' (d ++ (x ∷ [])) xs))
  where
    -- x behind d and e, wherever it stands
    moved : SameMembers ((d ++ (x ∷ [])) ++ e) ((d ++ e) ++ (x ∷ []))
    moved = record { each = λ v. among-append v (d ++ (x ∷ [])) e ∙ (rw (among-append v d (x ∷ []), among-append v (d ++ e) (x ∷ []), among-append v d e) (or_last (is_among v d) (is_among v (x ∷ [])) (is_among v e))) }
      where
        or_last : (a b c : Bool) → ((a || b) || c) ≡ ((a || c) || b)
        or_last true b c = refl
        or_last false true true = refl
        or_last false true false = refl
        or_last false false true = refl
        or_last false false false = refl

    -- and once more
    again : SameMembers ((d ++ (x ∷ [])) ++ (e ++ (x ∷ []))) ((d ++ e) ++ (x ∷ []))
    again = rw (← append_assoc (d ++ (x ∷ [])) e (x ∷ [])) (alike_trans (there_alike x ((d ++ (x ∷ [])) ++ e) (there_longer x (d ++ (x ∷ [])) e (there_last x d))) moved)

    go : (a : Bool) → is_among x d ≡ a → (b : Bool) → is_among x e ≡ b → ((e' : List (List ℕ)) → fresh_after e' (fresh_after (d ++ (x ∷ [])) xs) ≡ fresh_after ((d ++ (x ∷ [])) ++ e') xs)
        → fresh_after e (unless_there a x (fresh_after (d ++ (x ∷ [])) xs)) ≡ unless_there (a || b) x (fresh_after ((d ++ e) ++ (x ∷ [])) xs)
    go true p b q ih = ih e ∙ fresh_alike moved xs
    go false p b q ih = rw q (ap (unless_there b x) (ih (e ++ (x ∷ [])) ∙ fresh_alike again xs))

pub kept_twice : (xs : List (List ℕ)) → fresh_after [] (fresh_after [] xs) ≡ fresh_after [] xs
kept_twice xs = fresh-fresh [] [] xs

-- each once, put together, each once again
pub kept_joined : (xs ys : List (List ℕ)) → fresh_after [] (fresh_after [] xs ++ fresh_after [] ys) ≡ fresh_after [] (xs ++ ys)
kept_joined xs ys =
    fresh-append [] (fresh_after [] xs) (fresh_after [] ys)
    ∙ (rw (kept_twice xs, fresh-fresh (fresh_after [] xs) [] ys, fresh_alike (kept_alike xs) ys) (sym (fresh-append [] xs ys)))

-- a repeated one may as well be left out
pub kept_repeat : (us : List (List ℕ)) (v : List ℕ) (ws : List (List ℕ)) → is_among v us ≡ true → fresh_after [] (us ++ (v ∷ ws)) ≡ fresh_after [] (us ++ ws)
unfolding fresh_after
kept_repeat us v ws h = fresh-append [] us (v ∷ ws) ∙ (rw (h, fresh_alike (there_alike v us h) ws) (sym (fresh-append [] us ws)))
