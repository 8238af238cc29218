-- "a class equal byte for byte to an earlier one doesn't count, the first place stays.": the rule, that `fresh_after` keeps the classes by it, and what that makes
-- of the parts of a meaning.
use Rattle.std.specs.Prelude.{◌≡◌, Bool, true, cond, not, ◌&&◌, List, [], ◌∷◌, ◌++◌, ℕ, suc, ltb}
use Rattle.base_lists.specs.Lists.{all, same}
use Rattle.block_grammar.specs.Meaning.{Entry, class_name, is_class, lookup, is_among, fresh_after, classes_once}
use Rattle.proved_grammar.specs.Meaning.{slot_names}

-- no two of the list are equal
unfoldable pub all_different : List (List ℕ) → Bool
all_different [] = true
all_different (v ∷ vs) = not (is_among v vs) && all_different vs

-- how many stand before the first that equals v; all of them, where none does
unfoldable pub first_place : List ℕ → List (List ℕ) → ℕ
first_place v [] = 0
first_place v (w ∷ ws) = cond (same v w) 0 (suc (first_place v ws))

-- each has its first place in `whole` before those of all that follow it
unfoldable pub by_first_places : List (List ℕ) → List (List ℕ) → Bool
by_first_places whole [] = true
by_first_places whole (v ∷ vs) = all (λ w. ltb (first_place v whole) (first_place w whole)) vs && by_first_places whole vs

-- the same members, no two of them equal, in the order of their first places
pub record EachOnce (whole kept : List (List ℕ)) : Type 0 where
  pub different : all_different kept ≡ true
  pub members : (v : List ℕ) → is_among v kept ≡ is_among v whole
  pub order : by_first_places whole kept ≡ true

-- what is kept is so, ..
abbrev pub KeptIsOnce : Type 0
KeptIsOnce = (vs : List (List ℕ)) → EachOnce vs (fresh_after [] vs)

-- .. and no other list is
abbrev pub OnceIsKept : Type 0
OnceIsKept = (vs ws : List (List ℕ)) → EachOnce vs ws → ws ≡ fresh_after [] vs

-- the classes of an entry differ
unfoldable pub classes_differ : Entry → Bool
classes_differ e = cond (is_class e.name) (all_different e.values) true

-- "only meaning and the writer change": of what m lists
pub record OnlyClasses (m : List Entry) : Type 0 where
  -- the slots stay,
  pub slots : slot_names (classes_once m) ≡ slot_names m
  -- the classes are kept each once, every other value stays,
  pub values : (n : List ℕ) → lookup n (classes_once m) ≡ cond (is_class n) (fresh_after [] (lookup n m)) (lookup n m)
  -- the classes then differ, and doing it again changes nothing
  pub differ : all classes_differ (classes_once m) ≡ true
  pub again : classes_once (classes_once m) ≡ classes_once m

abbrev pub OnceChanges : Type 0
OnceChanges = (m : List Entry) → OnlyClasses m

-- where the classes differ nothing changes
abbrev pub DifferentStay : Type 0
DifferentStay = (m : List Entry) → all classes_differ m ≡ true → classes_once m ≡ m

-- "doesn't count": v, which equals an earlier class, may as well not be there
abbrev pub RepeatedIsNothing : Type 0
RepeatedIsNothing = (m : List Entry) (us : List (List ℕ)) (v : List ℕ) (ws : List (List ℕ)) (n : List Entry) → is_among v us ≡ true
    → classes_once (m ++ (record { name = class_name; values = us ++ (v ∷ ws) } ∷ n)) ≡ classes_once (m ++ (record { name = class_name; values = us ++ ws } ∷ n))
