-- What private functions promise: the numbers of a sheet, line after line. Nothing that a reader of the public promises has to believe.
use Rattle.std.specs.Prelude.{◌≡◌, ℕ, suc, ◌+◌, ◌-◌, ◌≤◌, cond, List, [], ◌∷◌, eqb, ltb, length, get_or, set, Err, Ok, Result}
use Rattle.base_refusals.specs.Numbers.{number_of}
use Rattle.read_blocks.specs.Blocks.{lines_of, lookahead_of}
use Rattle.read_blocks.specs.declared.Block.{Block}
use Rattle.sheet_blocks.specs.Sheets.{Try}
use Rattle.sheet_totals.specs.Totals.{total_places}
use Rattle.sheet_tally.specs.Lists.{total, greatest_of, keep}
use Rattle.sheet_tally.specs.Counts.{blocks_by, printed, is_wrapped, classes_at, keys_at, joined_at}
use Rattle.base_refusals.specs.declared.Refusal.{Refusal}

-- how many of the lines at the front hold so many bytes
unfoldable pub lines_within : List (List ℕ) → ℕ → ℕ
lines_within [] left = 0
lines_within (l ∷ ls) left = cond (eqb left 0) 0 (suc (lines_within ls (left - length l)))

-- ---- the numbers of a sheet whose lines are tried so far

unfoldable pub sheet_numbers : List ℕ → List Try → List ℕ
sheet_numbers t xs =
    1
    ∷ length (blocks_by 0 t xs)
    ∷ length (keep is_wrapped (printed t xs))
    ∷ 0
    ∷ 0
    ∷ length (blocks_by 6 t xs)
    ∷ length (blocks_by 7 t xs)
    ∷ length (blocks_by 10 t xs)
    ∷ total (classes_at t) (printed t xs)
    ∷ total (keys_at t) (printed t xs)
    ∷ total (joined_at t) xs
    ∷ total (λ x. lookahead_of x.found) xs
    ∷ greatest_of (λ x. lines_of x.found) (printed t xs)
    ∷ []

-- those of a sheet that is refused by the number n
unfoldable pub refused_numbers : ℕ → List ℕ
refused_numbers n = 1 ∷ 0 ∷ 0 ∷ cond (eqb n 1) 1 0 ∷ cond (eqb n 2) 1 0 ∷ 0 ∷ 0 ∷ 0 ∷ 0 ∷ 0 ∷ 0 ∷ 0 ∷ 0 ∷ []

-- ---- a line more

-- thirteen numbers, none above k
pub record Low (k : ℕ) (ns : List ℕ) : Type 0 where
  pub long : length ns ≡ total_places
  pub low : (i : ℕ) → get_or ns i 0 ≤ k

-- none is raised by more than d
abbrev pub Lows : ℕ → List ℕ → List ℕ → Type 0
Lows d ns ms = (k : ℕ) → Low k ns → Low (k + d) ms

-- a line adds no more to any number
abbrev pub line_most : ℕ
line_most = 300000

-- so no number of a sheet, which has at most 65,535 lines, is above
abbrev pub max_count : ℕ
max_count = 20000000000

unfoldable pub add_at : ℕ → ℕ → List ℕ → List ℕ
add_at i by ns = set ns i (get_or ns i 0 + by)

unfoldable pub raised_to : ℕ → List ℕ → List ℕ
raised_to k ns = cond (ltb (get_or ns 12 0) k) (set ns 12 k) ns

unfoldable pub with_run : ℕ → ℕ → List ℕ → List ℕ
with_run joined lookahead ns = add_at 11 lookahead (add_at 10 joined ns)

unfoldable pub with_printed : ℕ → ℕ → ℕ → List ℕ → List ℕ
with_printed k classes keys ns = raised_to k (add_at 9 keys (add_at 8 classes (add_at 2 (cond (ltb 1 k) 1 0) (add_at 1 1 ns))))

unfoldable pub with_refused : ℕ → List ℕ → List ℕ
with_refused n ns = cond (eqb n 6) (add_at 5 1 ns) (cond (eqb n 7) (add_at 6 1 ns) (cond (eqb n 10) (add_at 7 1 ns) ns))

-- a block of so many lines, by its verdict
abbrev pub with_verdict : ℕ → ℕ → ℕ → Result (Unit {0}) Refusal → List ℕ → List ℕ
with_verdict k classes keys (Ok _) ns = with_printed k classes keys ns
with_verdict k classes keys (Err r) ns = with_refused (number_of r) ns

-- what was read at a line, where its run joined so many lines
unfoldable pub with_tried : ℕ → Block → Result (Unit {0}) Refusal → List ℕ → List ℕ
with_tried joined b v ns =
    cond (eqb b.lines 0) (with_run joined b.lookahead ns)
    (with_verdict b.lines b.set.nclass b.set.nkey v (with_run joined b.lookahead ns))
