-- "the payload ends before the first `}` that no quote or backslash covers; here a backslash covers the next byte outside quotes too. An LF before it means
-- no close." The rules `Closes` are in block_grammar/specs/Close, the search `find_close` in ComputedClose beside it.
use Rattle.std.specs.Prelude.{◌≡◌, Bool, true, cond, not, List, [], ◌∷◌, ◌++◌, ℕ, suc, ◌≤◌, eqb, ltb, length, None, Option, Some}
use Rattle.base_lists.specs.Lists.{all}
use Rattle.base_bytes.specs.Bytes.{close_brace}
use Rattle.block_grammar.specs.Close.{fresh, Closes}
use Rattle.block_grammar.specs.ComputedClose.{close_from, find_close}

-- the search over s, whose first byte stands at i, finds a close by the rules, ..
abbrev pub FoundCloses : Type 0
FoundCloses = (s : List ℕ) (i e : ℕ) → close_from s fresh i ≡ Some e → Closes s i e

-- .. and a close by the rules is found
abbrev pub CloseIsFound : List ℕ → ℕ → ℕ → Type 0
CloseIsFound s i e = Closes s i e → close_from s fresh i ≡ Some e

-- so there is one close, ..
abbrev pub OneClose : List ℕ → ℕ → ℕ → ℕ → Type 0
OneClose s i e e' = Closes s i e → Closes s i e' → e ≡ e'

-- .. and 4 is given only where there is none
abbrev pub NothingIsNoClose : List ℕ → ℕ → ℕ → Type 0
NothingIsNoClose s i e = close_from s fresh i ≡ None → Closes s i e → ⊥

-- ---- "its dropped third argument, the true place of the text's last `}`, changes nothing"

-- the last `}` of a list whose first byte stands at i, where `last` is that of the bytes before
unfoldable pub last_from : List ℕ → ℕ → Option ℕ → Option ℕ
last_from [] i last = last
last_from (b ∷ s) i last = last_from s (suc i) (cond (eqb b close_brace) (Some i) last)

unfoldable pub last_close : List ℕ → Option ℕ
last_close s = last_from s 0 None

-- 000's test `last_close_brace.map_or(true, |p| p < start)`
abbrev pub is_before : Option ℕ → ℕ → Bool
is_before None start = true
is_before (Some p) start = ltb p start

-- the byte is no `}`
abbrev pub not_close : ℕ → Bool
not_close b = not (eqb b close_brace)

-- the last `}` of s is at p
pub record LastAt (s : List ℕ) (p : ℕ) : Type 0 where
  pub front : List ℕ
  pub rest : List ℕ
  pub whole : s ≡ front ++ (close_brace ∷ rest)
  pub place : p ≡ length front
  pub none : all not_close rest ≡ true

-- "the true place of the text's last `}`", if it has one
abbrev pub IsLast : List ℕ → Option ℕ → Type 0
IsLast s None = all not_close s ≡ true
IsLast s (Some p) = LastAt s p

-- that is the place that 000's test is given
abbrev pub LastIsTrue : Type 0
LastIsTrue = (s : List ℕ) → IsLast s (last_close s)

-- without a `}` there is no close
abbrev pub NoBraceNoClose : Type 0
NoBraceNoClose = (s : List ℕ) (i : ℕ) → all not_close s ≡ true → close_from s fresh i ≡ None

-- where 000's test of the argument would refuse, the search behind that place finds nothing, and the reader refuses anyway
abbrev pub ThirdArgument : Type 0
ThirdArgument = (s : List ℕ) (start at : ℕ) → start ≤ at → is_before (last_close s) start ≡ true → find_close s at ≡ None

-- the search for the brace at `start`, with 000's test of the argument before it
abbrev pub search_with : Option ℕ → List ℕ → ℕ → Option ℕ
search_with last s start = cond (is_before last start) None (find_close s (suc start))

-- "changes nothing"
abbrev pub ThirdChangesNothing : Type 0
ThirdChangesNothing = (s : List ℕ) (start : ℕ) → search_with (last_close s) s start ≡ find_close s (suc start)
