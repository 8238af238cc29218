-- The numbers of the entries that measure: "elsewhere 1, 2, 3, 9 or 5 as the run meets them"; "Measuring never gives 6 or 7".
-- Assumes nothing.
use mathlib.Core.Path.{◌≡◌, refl, ◌∙◌, ap}
use mathlib.Core.Bool.{true, false, cond}
use mathlib.Core.List.{List, [], ◌∷◌, ◌++◌}
use Prim.Native.Nat.{ℕ}
use native.Mathlib.Omega.{arith}
use borrow.Author.Tests.{ne_eqb}
use lib.Dec.{eqb}
use Rattle.text_lines.specs.Lines.{line_at}
use Rattle.base_refusals.specs.Numbers.{number_of, Paper}
use Rattle.base_refusals.specs.Orders.{Ground, in_order, order_no, on_paper}
use Rattle.base_refusals.specs.declared.Refusal.{Refusal}
use Rattle.base_refusals.specs.declared.Refusal.TheVariants.{NothingThere, NoReading}
use Rattle.base_refusals.proofs.Numbers.{number_among}
use Rattle.base_refusals.proofs.Orders.{order_no_lem}
use Rattle.block_trimmed_line.specs.Fronts.{begins_indented}
use Rattle.text_line_start.specs.Starts.{on_start, place_of}
use Rattle.text_line_start.proofs.StartNumbers.{by_start}
use Rattle.read_blocks.specs.Blocks.{Found, nothing, found, lines_of}
use Rattle.read_blocks.specs.ByLine.{block_found}
use Rattle.read_blocks.proofs.BlockNumbers.{by_found}
use Rattle.read_lengths.specs.declared.Measure.{Measure}
use Rattle.read_lengths.specs.Lengths.{length_of, length_paper, length_no, measured, unless_line, flush_left, standalone_found, indented_found, measure_order, more_order, length_order, flush_order, indented_order}

-- ---- at a place

-- what is measured behind grounds
behind_no : (gs hs : List Ground) (f : Found) → length_no (length_of f) ≡ order_no hs → length_no (length_of (in_order nothing gs f)) ≡ order_no (gs ++ hs)
behind_no gs hs f e = order_no_lem (λ f. length_no (length_of f)) nothing (λ r. refl) gs hs e

module _ (t : List ℕ) (at base cap : ℕ) where
  pub measured_no : length_no (measured t at (found t at base cap)).length ≡ order_no (measure_order t at base cap)
  unfolding measured order_no
  measured_no = by_found (λ s from to. []) t at base cap (λ f. length_no (length_of f)) (λ q x k. refl) (λ r h. refl) refl

  -- `measure_wrapped_at`: a block of one line is 5
  pub unless_no : length_no (measured t at (unless_line (found t at base cap))).length ≡ order_no (more_order t at base cap)
  unfolding measured in_order
  unless_no = behind_no (Ground.given NoReading (eqb (lines_of (found t at base cap)) 1) ∷ []) (measure_order t at base cap) (found t at base cap) measured_no

-- ---- by line number

module _ (t : List ℕ) (n : ℕ) where
  -- `attrs_block_len_at`
  pub length_no_lem : (column cap : ℕ) → length_no (measured t (place_of t n) (block_found t n column cap)).length ≡ order_no (length_order t n column cap)
  unfolding block_found measured
  length_no_lem column cap =
      by_start t n (λ s. length_no (length_of (on_start nothing (λ at. found t at column cap) s))) (λ at. measure_order t at column cap) (λ r. refl)
      (λ k at. measured_no t at column cap)

  -- `standalone_attrs_block_len`: an indented first line is 3
  pub standalone_no : (cap : ℕ) → length_no (measured t (place_of t n) (standalone_found t n cap)).length ≡ order_no (flush_order t n cap)
  unfolding standalone_found flush_left measured in_order
  standalone_no cap =
      by_start t n (λ s. length_no (length_of (on_start nothing (flush_left t cap) s)))
      (λ at. Ground.given NothingThere (begins_indented (line_at t at)) ∷ measure_order t at 0 cap) (λ r. refl)
      (λ k at. behind_no (Ground.given NothingThere (begins_indented (line_at t at)) ∷ []) (measure_order t at 0 cap) (found t at 0 cap) (measured_no t at 0 cap))

  -- `indented_wrapped_attrs_block_len`: a block of one line is 5
  pub indented_no : (cap : ℕ) → length_no (measured t (place_of t n) (indented_found t n cap)).length ≡ order_no (indented_order t n cap)
  unfolding indented_found block_found measured
  indented_no cap =
      by_start t n (λ s. length_no (length_of (unless_line (on_start nothing (λ at. found t at 0 cap) s)))) (λ at. more_order t at 0 cap) (λ r. refl)
      (λ k at. unless_no t at 0 cap)

-- ---- with the lines, which are there where the number is 0

some : (r : Refusal) → eqb (number_of r) 0 ≡ false
some r = ne_eqb (number_of r) 0 (λ e. omega (arith, e, number_among r))

paper_is : (gs : List Ground) (vs : List ℕ) → on_paper gs vs ≡ record { number = order_no gs; values = cond (eqb (order_no gs) 0) vs [] }
unfolding on_paper order_no in_order
paper_is [] vs = refl
paper_is (Ground.given r true ∷ gs) vs = rw (some r)
paper_is (Ground.given r false ∷ gs) vs = paper_is gs vs
paper_is (Ground.lacking r true ∷ gs) vs = paper_is gs vs
paper_is (Ground.lacking r false ∷ gs) vs = rw (some r)

with_lines : (f : Found) (gs : List Ground) → length_no (length_of f) ≡ order_no gs → length_paper (length_of f) ≡ on_paper gs (lines_of f ∷ [])
with_lines Found.line gs e = rw (paper_is gs (1 ∷ []), ← e)
with_lines (Found.run r) gs e = rw (paper_is gs (r.lines ∷ []), ← e)
with_lines (Found.none q x n) gs e = rw (paper_is gs (0 ∷ []), ← e, some q)

module _ (t : List ℕ) (n : ℕ) where
  pub length_paper_lem : (column cap : ℕ) → length_paper (measured t (place_of t n) (block_found t n column cap)).length ≡ on_paper (length_order t n column cap) (lines_of (block_found t n column cap) ∷ [])
  unfolding measured
  length_paper_lem column cap = with_lines (block_found t n column cap) (length_order t n column cap) (length_no_lem t n column cap)

  pub standalone_paper : (cap : ℕ) → length_paper (measured t (place_of t n) (standalone_found t n cap)).length ≡ on_paper (flush_order t n cap) (lines_of (standalone_found t n cap) ∷ [])
  unfolding measured
  standalone_paper cap = with_lines (standalone_found t n cap) (flush_order t n cap) (standalone_no t n cap)

  pub indented_paper : (cap : ℕ) → length_paper (measured t (place_of t n) (indented_found t n cap)).length ≡ on_paper (indented_order t n cap) (lines_of (indented_found t n cap) ∷ [])
  unfolding measured
  indented_paper cap = with_lines (indented_found t n cap) (indented_order t n cap) (indented_no t n cap)

-- what is answered, beside what the join buffer then holds, has the number and the lines of what it is equal to
pub said : {x y : Measure} {b d : List ℕ} {p : Paper} → length_paper y.length ≡ p → (x ≡ y) × (b ≡ d) → record { value : x ≡ y; join_after : b ≡ d; length_value : length_paper x.length ≡ p }
said k e = record { value = e.0; join_after = e.1; length_value = ap (λ z. length_paper z.length) e.0 ∙ k }
