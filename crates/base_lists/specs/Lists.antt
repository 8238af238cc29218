-- Lists, most of them of bytes: the few words that the other definitions are written in.
use Rattle.std.specs.Prelude.{ℕ, suc, Bool, true, false, cond, ◌&&◌, ◌||◌, List, [], ◌∷◌, ◌++◌, eqb, length, drop}

-- the test passes at each of the list
unfoldable pub all : {A : Type 0} → (A → Bool) → List A → Bool
all f [] = true
all f (a ∷ s) = f a && all f s

-- the list isn't empty
abbrev pub is_some : {A : Type 0} → List A → Bool
is_some [] = false
is_some (a ∷ s) = true

-- the first test passes at the first byte, which is there, and the second at each later one
unfoldable pub headed : (ℕ → Bool) → (ℕ → Bool) → List ℕ → Bool
headed f g [] = false
headed f g (a ∷ s) = f a && all g s

-- how many bytes at the front pass the test
unfoldable pub run : (ℕ → Bool) → List ℕ → ℕ
run f [] = 0
run f (a ∷ s) = cond (f a) (suc (run f s)) 0

-- b is one of the bytes s
unfoldable pub is_in : List ℕ → ℕ → Bool
is_in [] b = false
is_in (a ∷ s) b = eqb b a || is_in s b

-- the first byte is there and passes the test
abbrev pub first_is : (ℕ → Bool) → List ℕ → Bool
first_is f [] = false
first_is f (a ∷ s) = f a

-- s begins with the byte b
abbrev pub begins : List ℕ → ℕ → Bool
begins s b = first_is (λ a. eqb a b) s

-- s begins with b and then c
abbrev pub begins_pair : ℕ → ℕ → List ℕ → Bool
begins_pair b c [] = false
begins_pair b c (a ∷ s) = eqb a b && begins s c

-- xs at the front of the bytes `buf`, the rest of them untouched
abbrev pub over : List ℕ → List ℕ → List ℕ
over xs buf = xs ++ drop (length xs) buf

-- two byte strings are the same, byte for byte
unfoldable pub same : List ℕ → List ℕ → Bool
same [] [] = true
same [] (b ∷ t) = false
same (a ∷ s) [] = false
same (a ∷ s) (b ∷ t) = eqb a b && same s t
