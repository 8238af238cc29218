-- Lists joined: what the library's `flat_map` makes of each, one behind the other.
-- Assumes nothing.
use mathlib.Core.Path.{◌≡◌, refl, sym}
use mathlib.Core.Bool.{Bool, true}
use mathlib.Core.List.{List, [], ◌∷◌, ◌++◌, append_assoc, flat_map}
use Rattle.base_lists.specs.Lists.{all}
use Rattle.base_lists.proofs.Scan.{both, all_append}

pub flat_append : {A B : Type 0} (f : A → List B) (s t : List A) → flat_map f (s ++ t) ≡ flat_map f s ++ flat_map f t
unfolding flat_map
flat_append f [] t = refl
flat_append f (a ∷ s) t = rw (flat_append f s t) (sym (append_assoc (f a) (flat_map f s) (flat_map f t)))

-- where each of a list makes what passes, all that is made passes
pub all_flat : {A B : Type 0} (q : A → Bool) (p : B → Bool) (f : A → List B) → ((a : A) → q a ≡ true → all p (f a) ≡ true) → (s : List A) → all q s ≡ true → all p (flat_map f s) ≡ true
unfolding flat_map all
all_flat q p f w [] e = refl
all_flat q p f w (a ∷ s) e = let h = both (q a) (all q s) e in all_append p (f a) (flat_map f s) (w a h.0) (all_flat q p f w s h.1)
