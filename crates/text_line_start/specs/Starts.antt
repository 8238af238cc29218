-- Where the line of a number begins: "elsewhere 1, 2, 3, .."
use Rattle.std.specs.Prelude.{ℕ, List, [], ◌∷◌, ◌++◌, Err, None, Ok, Option, Result, Some}
use Rattle.base_refusals.specs.Numbers.{Paper, refused_paper, passed_paper}
use Rattle.base_refusals.specs.Orders.{Ground, on_paper}
use Rattle.base_refusals.specs.declared.Refusal.{Refusal}
use Rattle.base_refusals.specs.declared.Refusal.TheVariants.{NothingThere}
use Rattle.text_checks.specs.Check.{text_order, check_of}
use Rattle.text_lines.specs.Lines.{line_of, is_no_line, line_start}
use Rattle.text_lines.specs.declared.Range.{Range}

-- where the line of a number begins, or 1, 2, or 3: "no such line"
abbrev pub begun : Result (Unit {0}) Refusal → Option Range → Result ℕ Refusal
begun (Err r) l = Err r
begun (Ok _) None = Err NothingThere
begun (Ok _) (Some r) = Ok r.from

unfoldable pub start_at : List ℕ → ℕ → Result ℕ Refusal
start_at t n = begun (check_of t) (line_of n t)

abbrev pub on_start : {A : Type 0} → (Refusal → A) → (ℕ → A) → Result ℕ Refusal → A
on_start f g (Err r) = f r
on_start f g (Ok at) = g at

-- the line's place, 0 where there is none
abbrev pub place_of : List ℕ → ℕ → ℕ
place_of t n = on_start (λ r. 0) (λ at. at) (start_at t n)

-- the same on paper
abbrev pub start_paper : Result ℕ Refusal → Paper
start_paper s = on_start refused_paper (λ at. passed_paper (at ∷ [])) s

-- "elsewhere 1, 2, 3, ..", where 3 is "no such line" and h is the order of the line that begins at a place
abbrev pub line_order : List ℕ → ℕ → (ℕ → List Ground) → List Ground
line_order t n h = text_order t ++ Ground.given NothingThere (is_no_line n t) ∷ h (line_start n t)

abbrev pub numbered_start : List ℕ → ℕ → Paper
numbered_start t n = on_paper (line_order t n (λ at. [])) (line_start n t ∷ [])
