-- How far bytes can be continued to a name: one law for the three kinds.
-- Assumes nothing.
use mathlib.Core.Path.{◌≡◌, refl}
use mathlib.Core.Bool.{Bool, true, false, cond}
use mathlib.Core.List.{List, [], ◌∷◌, ◌++◌, append-nil}
use Prim.Native.Nat.{ℕ, zero, suc, ◌≤◌, zero-le}
use native.Mathlib.Omega.{arith}
use lib.ListN.{length, take}
use Rattle.base_lists.specs.Lists.{all, headed, run}
use Rattle.base_lists.proofs.Scan.{both, run_le, run-all}
use Rattle.base_bytes.specs.Bytes.{is_letter, is_alnum, is_name_start, is_name_part, is_key_start, within}
use Rattle.base_letters.specs.Classes.{front_run}
use Rattle.text_names.specs.Longest.{CanGoOn, Longest}
use Rattle.text_names.specs.Names.{is_name, is_key, is_bare_name, name_place, key_place, bare_place}

-- a run that passes a test is no longer than the run
all_short : (g : ℕ → Bool) (s : List ℕ) (k : ℕ) (r : List ℕ) → k ≤ length s → all g (take k s ++ r) ≡ true → k ≤ run g s
unfolding all run
all_short g s zero r h e = zero-le
all_short g [] (suc k) r h e = absurd (omega arith)
all_short g (a ∷ s) (suc k) r h e = let p = both (g a) (all g (take k s ++ r)) e in rw p.0 (omega (arith, all_short g s k r (omega arith) p.1))

module _ (f g : ℕ → Bool) (some : f 97 ≡ true) where
  within_front : (s : List ℕ) → front_run f g s ≤ length s
  within_front [] = zero-le
  within_front (a ∷ s) = go (f a)
    where
      go : (x : Bool) → cond x (suc (run g s)) 0 ≤ suc (length s)
      go true = omega (arith, run_le g s)
      go false = zero-le

  goes_front : (s : List ℕ) → CanGoOn (λ t. headed f g t ≡ true) (take (front_run f g s) s)
  unfolding headed all
  goes_front [] = record { rest = 97 ∷ []; good = rw some }
  goes_front (a ∷ s) = go (f a) refl
    where
      go : (x : Bool) → f a ≡ x → CanGoOn (λ t. headed f g t ≡ true) (take (cond x (suc (run g s)) 0) (a ∷ s))
      go true e = record { rest = []; good = rw (append-nil (take (run g s) s), e) (run-all g s) }
      go false e = record { rest = 97 ∷ []; good = rw some }

  no_further : (s : List ℕ) (k : ℕ) → k ≤ length s → CanGoOn (λ t. headed f g t ≡ true) (take k s) → k ≤ front_run f g s
  unfolding headed
  no_further s zero h c = zero-le
  no_further [] (suc k) h c = absurd (omega arith)
  no_further (a ∷ s) (suc k) h c = let p = both (f a) (all g (take k s ++ c.rest)) c.good in rw p.0 (omega (arith, all_short g s k c.rest (omega arith) p.1))

  front_longest : (s : List ℕ) → Longest (λ t. headed f g t ≡ true) s (front_run f g s)
  front_longest s = record { within = within_front s; goes = goes_front s; longest = no_further s }

pub name_longest : (s : List ℕ) → Longest (λ t. is_name t ≡ true) s (name_place s)
unfolding is_name name_place is_name_start is_alnum is_letter within
name_longest s = front_longest is_name_start is_name_part refl s

pub key_longest : (s : List ℕ) → Longest (λ t. is_key t ≡ true) s (key_place s)
unfolding is_key key_place is_key_start is_letter within
key_longest s = front_longest is_key_start is_name_part refl s

pub bare_longest : (s : List ℕ) → Longest (λ t. is_bare_name t ≡ true) s (bare_place s)
unfolding is_bare_name bare_place is_letter within
bare_longest s = front_longest is_letter is_name_part refl s
