-- What `fresh_after` keeps is what the plain statement says, and no other list is.
-- Assumes nothing.
use mathlib.Core.Path.{◌≡◌, refl, sym, ◌∙◌, ap}
use mathlib.Core.Bool.{Bool, true, false, cond, not, ◌||◌}
use mathlib.Core.List.{List, [], ◌∷◌, ◌++◌, append_assoc}
use Prim.Native.Nat.{ℕ, suc, ◌≤◌, ◌<◌}
use native.Mathlib.Omega.{arith}
use lib.Dec.{ltb}
use lib.ListN.{length, length-append}
use borrow.Author.Tests.{not-true, lt-ltb, ltb-true}
use Rattle.base_lists.specs.Lists.{all, same}
use Rattle.base_lists.proofs.Scan.{both}
use Rattle.base_lists.proofs.Same.{same_refl, same_true}
use Rattle.base_lists.proofs.More.{contra, same_sym, all_weaker}
use Rattle.block_grammar.specs.Meaning.{is_among, unless_there, fresh_after}
use Rattle.proved_grammar.specs.Once.{first_place, by_first_places, KeptIsOnce, OnceIsKept}
use Rattle.block_grammar.proofs.Fresh.{SameMembers, all_member, fresh_none, kept_alike}
use Rattle.proved_grammar.proofs.Once.{fresh_apart}

-- ======== the order of first places
place_from : (v : List ℕ) (e xs : List (List ℕ)) → is_among v e ≡ false → length e ≤ first_place v (e ++ xs)
unfolding is_among first_place
place_from v [] xs h = omega arith
place_from v (w ∷ e) xs h = go (same v w) h (place_from v e xs)
  where
    go : (b : Bool) → (b || is_among v e) ≡ false → (is_among v e ≡ false → length e ≤ first_place v (e ++ xs)) → suc (length e) ≤ cond b 0 (suc (first_place v (e ++ xs)))
    go true h ih = contra true refl h
    go false h ih = omega (arith, ih h)

place_at : (v : List ℕ) (e xs : List (List ℕ)) → is_among v e ≡ false → first_place v (e ++ (v ∷ xs)) ≡ length e
unfolding is_among first_place
place_at v [] xs h = rw (same_refl v)
place_at v (w ∷ e) xs h = go (same v w) h (place_at v e xs)
  where
    go : (b : Bool) → (b || is_among v e) ≡ false → (is_among v e ≡ false → first_place v (e ++ (v ∷ xs)) ≡ length e) → cond b 0 (suc (first_place v (e ++ (v ∷ xs)))) ≡ suc (length e)
    go true h ih = contra true refl h
    go false h ih = ap suc (ih h)

fresh_order : (e xs : List (List ℕ)) → by_first_places (e ++ xs) (fresh_after e xs) ≡ true
unfolding fresh_after by_first_places
fresh_order e [] = refl
fresh_order e (x ∷ xs) = go (is_among x e) refl (rw (append_assoc e (x ∷ []) xs) at (fresh_order (e ++ (x ∷ [])) xs))
  where
    -- one that stands in none of e and x has its first place behind x
    behind : is_among x e ≡ false → (w : List ℕ) → not (is_among w (e ++ (x ∷ []))) ≡ true → ltb (first_place x (e ++ (x ∷ xs))) (first_place w (e ++ (x ∷ xs))) ≡ true
    behind p w n =
        let l = rw (append_assoc e (x ∷ []) xs) at (place_from w (e ++ (x ∷ [])) xs (not-true (is_among w (e ++ (x ∷ []))) n)) in
        lt-ltb (first_place x (e ++ (x ∷ xs))) (first_place w (e ++ (x ∷ xs))) (omega (arith, l, place_at x e xs p, length-append e (x ∷ [])))

    go : (b : Bool) → is_among x e ≡ b → by_first_places (e ++ (x ∷ xs)) (fresh_after (e ++ (x ∷ [])) xs) ≡ true → by_first_places (e ++ (x ∷ xs)) (unless_there b x (fresh_after (e ++ (x ∷ [])) xs)) ≡ true
    go true p ih = ih
    go false p ih = rw (all_weaker (λ w. not (is_among w (e ++ (x ∷ [])))) (λ w. ltb (first_place x (e ++ (x ∷ xs))) (first_place w (e ++ (x ∷ xs)))) (behind p) (fresh_after (e ++ (x ∷ [])) xs) (fresh_none (e ++ (x ∷ [])) xs)) ih

-- ======== the theorems
pub kept_plain : KeptIsOnce
kept_plain xs = record { different = fresh_apart [] xs; members = λ v. (kept_alike xs).each v; order = fresh_order [] xs }

-- ---- members and order leave one list only
module _ (whole : List (List ℕ)) where
  abbrev before : List ℕ → List ℕ → Bool
  before v w = ltb (first_place v whole) (first_place w whole)

  -- a member that isn't the first stands behind it
  behind : (v w : List ℕ) (ws : List (List ℕ)) → all (before w) ws ≡ true → is_among v (w ∷ ws) ≡ true → same v w ≡ false → first_place w whole < first_place v whole
  unfolding is_among
  behind v w ws h m n = ltb-true (first_place w whole) (first_place v whole) (all_member (before w) v ws h (rw n at m))

  -- and the first doesn't stand there again
  not_again : (v : List ℕ) (vs : List (List ℕ)) → all (before v) vs ≡ true → is_among v vs ≡ false
  not_again v vs h = go (is_among v vs) refl
    where
      go : (b : Bool) → is_among v vs ≡ b → b ≡ false
      go true m = absurd (omega (arith, ltb-true (first_place v whole) (first_place v whole) (all_member (before v) v vs h m)))
      go false m = refl

  first_same : (v w : List ℕ) (vs ws : List (List ℕ)) → all (before v) vs ≡ true → all (before w) ws ≡ true → SameMembers (v ∷ vs) (w ∷ ws) → same v w ≡ true
  unfolding is_among
  first_same v w vs ws h k a = go (same v w) refl
    where
      go : (b : Bool) → same v w ≡ b → b ≡ true
      go true q = refl
      go false q =
          let x = behind v w ws k (sym (a.each v) ∙ (rw (same_refl v))) q in
          let y = behind w v vs h (a.each w ∙ (rw (same_refl w))) (same_sym w v ∙ q) in
          absurd (omega arith)

  rest_alike : (v w : List ℕ) (vs ws : List (List ℕ)) → v ≡ w → all (before v) vs ≡ true → all (before w) ws ≡ true → SameMembers (v ∷ vs) (w ∷ ws) → SameMembers vs ws
  unfolding is_among
  rest_alike v w vs ws e h k a = record { each = λ u. go u (same u v) refl }
    where
      go : (u : List ℕ) (b : Bool) → same u v ≡ b → is_among u vs ≡ is_among u ws
      go u true q = rw (same_true u v q) (not_again v vs h ∙ sym (rw e (not_again w ws k)))
      go u false q = rw (q, rw e at q) at (a.each u)

  unique : (vs ws : List (List ℕ)) → by_first_places whole vs ≡ true → by_first_places whole ws ≡ true → SameMembers vs ws → vs ≡ ws
  unfolding by_first_places is_among
  unique [] [] h k a = refl
  unique [] (w ∷ ws) h k a = contra true refl (sym (rw (same_refl w) at (a.each w)))
  unique (v ∷ vs) [] h k a = contra true refl (rw (same_refl v) at (a.each v))
  unique (v ∷ vs) (w ∷ ws) h k a =
      let p = both (all (before v) vs) (by_first_places whole vs) h in
      let q = both (all (before w) ws) (by_first_places whole ws) k in
      let e = same_true v w (first_same v w vs ws p.0 q.0 a) in
      let r = unique vs ws p.1 q.1 (rest_alike v w vs ws e p.0 q.0 a) in
      cc

-- the plain statement holds of no other list
pub plain_only : OnceIsKept
plain_only xs ys h = unique xs ys (fresh_after [] xs) h.order (kept_plain xs).order (record { each = λ v. h.members v ∙ sym ((kept_alike xs).each v) })
