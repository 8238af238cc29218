-- What a test of bytes comes to: they are whole, or they stop being the front of what is tested for.
use Rattle.std.specs.Prelude.{Bool, true, false, cond, [], ◌∷◌, ℕ, Err, Ok, Result}
use Rattle.base_refusals.specs.Numbers.{Paper, passed_paper}

-- "The name, tag and token tests must now answer places": whole where the test passes, else how many bytes can still be continued
abbrev pub tested : Bool → ℕ → Result (Unit {0}) ℕ
tested ok n = cond ok (Ok tt) (Err n)

abbrev pub says_whole : Result (Unit {0}) ℕ → Bool
says_whole (Ok _) = true
says_whole (Err n) = false

-- on paper: 1 where the bytes are whole, else 0 and the place; document 01 has no number for it
abbrev pub tested_paper : Result (Unit {0}) ℕ → Paper
tested_paper (Ok _) = passed_paper (1 ∷ [])
tested_paper (Err n) = passed_paper (0 ∷ n ∷ [])
